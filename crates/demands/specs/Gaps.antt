-- 02, 2026-05: "Old scans stay readable in the gaps". What a confirmed job leaves of the scan that it replaced or cleared, and the question of the gaps.
use Rattle.std.specs.Prelude.{ℕ, ◌+◌, ◌≤◌, ◌<◌, ◌≡◌, true, false, List, [], ◌∷◌, Ok}
use Rattle.lent.specs.Write.{zeros}
use Rattle.paper.specs.declared.sizes.Sizes.{Sizes}
use Rattle.paper.specs.declared.job.Job.{Job}
use Rattle.paper.specs.Index.{open_of}
use Rattle.paper.specs.Step.{is_confirmed, step_answer}
use Rattle.paper.specs.Gaps.{record_at, gaps_of, SomeLeft, GapsZero}
use Rattle.demands.specs.History.{Op, Whole, takes, old_by, state_after, answer_after, steps_of, run, Done, Wholes, after}

-- ---- the old run

-- the file opens, and each record of the job's old run is zeros
pub record Erased (f : List ℕ) (j : Job) : Type 0 where
  pub z : Sizes
  pub opens : open_of f ≡ Ok z
  pub gone : (r : ℕ) → j.old ≤ r → r < j.old + j.many → record_at f z r ≡ zeros z.l

-- "Confirmation comes after these writes and also requires the zeros": for every file, scan and job, hand-made ones too.
abbrev pub ConfirmedErased : Type 0
ConfirmedErased = (f scan : List ℕ) (j : Job) → is_confirmed (step_answer f scan j) ≡ true → Erased f j

-- A confirmed job leaves no record of the scan that it replaced or cleared that is not zeros.
abbrev pub NoneReadable : Type 0
NoneReadable =
    (f : List ℕ) (z : Sizes) → open_of f ≡ Ok z → (op : Op) → Whole op → takes f op ≡ true → (i : ℕ) → is_confirmed (answer_after f op i) ≡ true
    → (r : ℕ) → 1 ≤ r → (old_by f z op).first ≤ r → r ≤ (old_by f z op).last → record_at (state_after f op i).file z r ≡ zeros z.l

-- ---- the question

-- it says yes exactly when every data record in no listed scan is zeros, and no exactly when one of them is not
pub record Asks (f : List ℕ) (z : Sizes) : Type 0 where
  pub yes_so : gaps_of f ≡ Ok true → GapsZero f z
  pub so_yes : GapsZero f z → gaps_of f ≡ Ok true
  pub no_so : gaps_of f ≡ Ok false → SomeLeft f z
  pub so_no : SomeLeft f z → gaps_of f ≡ Ok false

abbrev pub GapsExactly : Type 0
GapsExactly = (f : List ℕ) (z : Sizes) → open_of f ≡ Ok z → Asks f z

-- ---- after confirmed jobs

-- every operation of the history that was accepted was stepped until it was confirmed
abbrev pub Finished : List ℕ → List Done → Type 0
Finished f [] = Unit
Finished f (o ∷ os) = (takes f o.op ≡ true → is_confirmed (answer_after f o.op (steps_of o.cut)) ≡ true) × Finished (run f o.op o.cut) os

-- After confirmed jobs alone the answer does not fall from yes to no.
abbrev pub GapsStay : Type 0
GapsStay =
    (f : List ℕ) (z : Sizes) → open_of f ≡ Ok z → gaps_of f ≡ Ok true → (os : List Done) → Wholes os → Finished f os → gaps_of (after f os) ≡ Ok true
