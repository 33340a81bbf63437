use mathlib.Core.Path.{sym, ◌∙◌}
use Rattle.paper.specs.Step.{step_answer}
use Rattle.sdd.proofs.Small.{step_small}
use Rattle.sdd.proofs.Through.{step-small-of, other-flag, step-face}
use Rattle.sdd.proofs.jobs.sdd_step.Goals as goal

pub returns-then-not-flagged : goal.returns-then-not-flagged
returns-then-not-flagged c =
    let a = c.args in
    let both = other-flag a.file.now a.scan.now a.c c.stepped.result c.answer.result (sym c.flagged.ensures ∙ c.if-not-flagged.true) c.answer.ensures c.stepped.ensures in record { value = both.0; file_after = both.1 }

pub answer-t-requires : goal.answer-t-requires
answer-t-requires c =
    step-small-of c.step-s.result.answer (step_answer c.args.file.now c.args.scan.now c.job.result) c.step-s.ensures.answer_value
    (step_small c.args.file.now c.args.scan.now c.job.result)

pub returns : goal.returns
returns c =
    let both = step-face c.args.file.now c.args.scan.now c.args.c c.stepped-2.result c.answer-t.result _ c.step-s.result c.job.result
    (sym c.flagged.ensures ∙ c.if-not-flagged.false) c.job.ensures c.step-s.ensures.answer_value c.step-s.ensures.job_value c.step-s.ensures.file_after c.answer-t.ensures
    c.stepped-2.ensures in record { value = both.0; file_after = both.1 }
