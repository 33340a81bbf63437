use Rattle.paper.specs.Scan.{class_of}
use mathlib.Core.Path.{◌∙◌}
use Rattle.sdd.proofs.Through.{span_small, span-face}
use Rattle.sdd.proofs.Small.{class-small}
use Rattle.sdd.proofs.looks.sdd_class.Goals as goal

pub spanned-requires : goal.spanned-requires
spanned-requires c = span_small c.class.result (class_of c.args.run.now c.args.number) c.class.ensures (class-small c.args.run.now c.args.number)

pub returns : goal.returns
returns c = c.spanned.ensures ∙ span-face c.class.result (class_of c.args.run.now c.args.number) c.class.ensures
