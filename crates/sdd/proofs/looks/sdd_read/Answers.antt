use Rattle.paper.specs.Look.{read_of}
use mathlib.Core.Path.{◌∙◌}
use Rattle.sdd.proofs.Through.{span_small, span-face}
use Rattle.sdd.proofs.Small.{read_small}
use Rattle.sdd.proofs.looks.sdd_read.Goals as goal

pub spanned-requires : goal.spanned-requires
spanned-requires c = span_small c.read.result (read_of c.args.file.now c.args.slot) c.read.ensures (read_small c.args.file.now c.args.slot)

pub returns : goal.returns
returns c = c.spanned.ensures ∙ span-face c.read.result (read_of c.args.file.now c.args.slot) c.read.ensures
