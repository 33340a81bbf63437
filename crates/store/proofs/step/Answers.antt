use Rattle.steps.proofs.Phases.{step-said}
use Rattle.store.proofs.step.Goals as goal

pub returns : goal.returns
returns c =
    let a = c.args in
    let s = step-said a.file.now a.scan.now a.job _ c.stepped.ensures.value in
    record { answer_value = s.0; job_value = s.1; file_after = c.stepped.ensures.file_after }
