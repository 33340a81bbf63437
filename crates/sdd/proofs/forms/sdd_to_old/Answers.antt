use mathlib.Core.Path.{ap, ◌∙◌}
use Rattle.paper.specs.Convert.{convert_of}
use Rattle.paper.proofs.Answers.{taken-only}
use Rattle.sdd.specs.Face.{taken_c}
use Rattle.sdd.proofs.Small.{convert-small}
use Rattle.sdd.proofs.Through.{taken-small}
use Rattle.sdd.proofs.forms.sdd_to_old.Goals as goal

pub taken-requires : goal.taken-requires
taken-requires c =
    let a = c.args in
    let t = c.to_old-t in
    taken-small t.result (convert_of 0 a.file.now a.out.now) t.ensures.result_value (convert-small 0 a.file.now a.out.now)

pub returns : goal.returns
returns c =
    let a = c.args in
    let t = c.to_old-t in
    record { value = c.taken.ensures ∙ ap taken_c (taken-only t.result (convert_of 0 a.file.now a.out.now) t.ensures.result_value); out_after = t.ensures.out_after }
