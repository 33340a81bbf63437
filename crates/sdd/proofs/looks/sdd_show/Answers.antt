use Rattle.paper.specs.Look.{show_of}
use mathlib.Core.Path.{◌∙◌}
use Rattle.sdd.proofs.Through.{span_small, span-face}
use Rattle.sdd.proofs.Small.{show-small}
use Rattle.sdd.proofs.looks.sdd_show.Goals as goal

pub spanned-requires : goal.spanned-requires
spanned-requires c = span_small c.show.result (show_of c.args.file.now c.args.slot) c.show.ensures (show-small c.args.file.now c.args.slot)

pub returns : goal.returns
returns c = c.spanned.ensures ∙ span-face c.show.result (show_of c.args.file.now c.args.slot) c.show.ensures
