-- Demand 2, of what is listed and counted: the index fixes the list, and a step's record and count are the job's place in its list of writes.
use Rattle.std.specs.Prelude.{ℕ, ◌+◌, ◌-◌, ◌*◌, ◌≤◌, ◌≡◌, true, length, get_or, Ok}
use mathlib.Core.List.{List, Memᴰ}
use Rattle.lent.specs.Lists.{Rising}
use Rattle.paper.specs.declared.sizes.Sizes.{Sizes}
use Rattle.paper.specs.declared.job.Job.{Job}
use Rattle.paper.specs.declared.job.Step.TheVariants.{Wrote}
use Rattle.paper.specs.Sizes.{sizes_of, capacity_of}
use Rattle.paper.specs.Index.{run_of, Full, open_of}
use Rattle.paper.specs.Look.{list_of}
use Rattle.paper.specs.Store.{records_for, perform}
use Rattle.paper.specs.Step.{write_at, step_file, step_job, step_answer}
use Rattle.demands.specs.Reads.{entry_byte}

-- the list: exactly the slots that are not empty, rising, so each once
pub record Exactly (f : List ℕ) (z : Sizes) : Type 0 where
  pub only : (s : ℕ) → Memᴰ s (list_of f) → (1 ≤ s) × (s ≤ capacity_of z) × Full (run_of f z s)
  pub each : (s : ℕ) → 1 ≤ s → s ≤ capacity_of z → Full (run_of f z s) → Memᴰ s (list_of f)
  pub rising : Rising (list_of f)

abbrev pub ListExactly : Type 0
ListExactly = (f : List ℕ) (z : Sizes) → open_of f ≡ Ok z → Exactly f z

-- what a step that wrote did: the next write of its job's list, and no other
pub record Next (f scan : List ℕ) (j : Job) (r count : ℕ) : Type 0 where
  pub record_is : r ≡ (write_at f (sizes_of f) scan j).record_no
  pub counts : count ≡ j.written + 1
  pub file : step_file f scan j ≡ perform f (write_at f (sizes_of f) scan j)
  pub job : (step_job f scan j).written ≡ count

abbrev pub WroteNext : Type 0
WroteNext = (f scan : List ℕ) (j : Job) (r count : ℕ) → step_answer f scan j ≡ Ok (Wrote r count) → Next f scan j r count

-- the bytes that no step of a job changes: "kept by every write" after word 8, "other bytes of that record kept", and the records of others
pub record Outside (z : Sizes) (j : Job) (b : ℕ) : Type 0 where
  pub boot : 32 ≤ b
  pub entry : entry_byte z j.slot ≤ b → entry_byte z j.slot + z.m ≤ b
  pub rows : j.saves ≡ true → (j.first - 1) * z.l ≤ b → (j.first - 1 + records_for z j.size) * z.l ≤ b
  pub olds : (j.old - 1) * z.l ≤ b → (j.old - 1 + j.many) * z.l ≤ b

-- For every file, scan and job, hand-made ones too.
abbrev pub StepKeeps : Type 0
StepKeeps =
    (f scan : List ℕ) (j : Job) → length j.about ≡ 54 → (b : ℕ) → Outside (sizes_of f) j b
    → (get_or (step_file f scan j) b 0 ≡ get_or f b 0) × (length (step_file f scan j) ≡ length f)
