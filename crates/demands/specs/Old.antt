-- 02, 2026-01: an old file is looked at and never changed. Every save, keep and clear on it is refused with 2, every step with 14, and so every history leaves it
-- as it was.
use Rattle.std.specs.Prelude.{ℕ, ◌≤◌, ◌≡◌, List, length, Err}
use Rattle.paper.specs.declared.refusal.Refusal.TheVariants.{OldForm, Disagrees}
use Rattle.paper.specs.declared.job.Job.{Job}
use Rattle.paper.specs.Sizes.{version_of}
use Rattle.paper.specs.Step.{step_answer}
use Rattle.demands.specs.History.{Op, Done, begin, after}
use Rattle.paper.specs.Answers.{taken_in}

pub record OldStays : Type 0 where
  -- "2 now means a save, keep or clear on an old file": whatever is asked, once the file is long enough to tell
  pub refused : (f : List ℕ) → 512 ≤ length f → version_of f ≡ 0 → (op : Op) → taken_in (begin f op) ≡ Err OldForm
  -- "a step on an old file gets 14", for every scan and job, hand-made ones too
  pub no_step : (f scan : List ℕ) (j : Job) → version_of f ≡ 0 → step_answer f scan j ≡ Err Disagrees
  pub stays : (f : List ℕ) → version_of f ≡ 0 → (os : List Done) → after f os ≡ f
