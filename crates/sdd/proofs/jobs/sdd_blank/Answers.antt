use mathlib.Core.Path.{ap, ◌∙◌}
use Rattle.paper.specs.Store.{blank_of}
use Rattle.paper.proofs.Answers.{taken-only}
use Rattle.sdd.specs.Face.{taken_c}
use Rattle.sdd.proofs.Small.{blank-small}
use Rattle.sdd.proofs.Through.{taken-small}
use Rattle.sdd.proofs.jobs.sdd_blank.Goals as goal

pub taken-requires : goal.taken-requires
taken-requires c = taken-small c.blank-t.result (blank_of c.args.file.now c.args.n c.args.l c.args.m) c.blank-t.ensures.result_value (blank-small c.args.file.now c.args.n c.args.l c.args.m)

pub returns : goal.returns
returns c = record { value = c.taken.ensures ∙ ap taken_c (taken-only c.blank-t.result (blank_of c.args.file.now c.args.n c.args.l c.args.m) c.blank-t.ensures.result_value); file_after = c.blank-t.ensures.file_after }
