use Rattle.paper.specs.Scan.{data_of}
use mathlib.Core.Path.{◌∙◌}
use Rattle.sdd.proofs.Through.{span_small, span-face}
use Rattle.sdd.proofs.Small.{data-small}
use Rattle.sdd.proofs.looks.sdd_data.Goals as goal

pub spanned-requires : goal.spanned-requires
spanned-requires c = span_small c.data.result (data_of c.args.run.now) c.data.ensures (data-small c.args.run.now)

pub returns : goal.returns
returns c = c.spanned.ensures ∙ span-face c.data.result (data_of c.args.run.now) c.data.ensures
