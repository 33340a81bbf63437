-- Demand 2, of a beginning: the job that an accepted save, keep or clear hands back, and what its record 1 says, in plain facts.
use Rattle.std.specs.Prelude.{ℕ, ◌+◌, ◌-◌, ◌%◌, ◌≤◌, ◌<◌, max, ◌≡◌, true, false, not, cond, List, length, take, replicate, Ok}
use Rattle.lent.specs.Greatest.{greatest}
use Rattle.paper.specs.declared.sizes.Sizes.{Sizes}
use Rattle.paper.specs.declared.sizes.Run.{Run}
use Rattle.paper.specs.declared.job.Job.{Job}
use Rattle.paper.specs.Sizes.{sizes_of, renewed, capacity_of}
use Rattle.paper.specs.Index.{run_of, empty, Full, open_of}
use Rattle.paper.specs.Look.{InIndex}
use Rattle.paper.specs.Store.{records_for, highest, save_of, keep_of, clear_of, job_in}
use Rattle.demands.specs.Causes.{FreeRun}
use Rattle.demands.specs.History.{Op, save, keep, clear, Whole, begin, records_of, lowers_by, changes_by, slot_of, takes, state_after}
use Rattle.demands.specs.Used.{NoneAbove}
use Rattle.paper.specs.Answers.{taken_in}

-- ---- the job

-- what every job is begun with
pub record Fresh (f : List ℕ) (slot size : ℕ) (j : Job) : Type 0 where
  pub slot_is : j.slot ≡ slot
  pub size_is : j.size ≡ size
  pub span_is : j.span ≡ length f
  pub none_written : j.written ≡ 0
  pub begun_on : j.boot ≡ take 32 f

-- 02, 2026-05: "A job carries that old run", the records of the scan that the slot holds, or none (0, 0) where it holds none
pub record Carries (run : Run) (j : Job) : Type 0 where
  pub held : Full run → (j.old ≡ run.first) × (j.old + j.many ≡ run.last + 1)
  pub nothing : run.first + run.last ≡ 0 → (j.old ≡ 0) × (j.many ≡ 0)

-- "The scan goes to the lowest record r >= N+1 where r to r+k-1 lie within the room and belong to no listed scan, the slot's present scan included"
pub record SaveJob (f : List ℕ) (slot : ℕ) (scan about : List ℕ) (j : Job) : Type 0 where
  pub fresh : Fresh f slot (length scan) j
  pub saves : j.saves ≡ true
  pub no_third : j.lowers ≡ false
  pub carries : Carries (run_of f (sizes_of f) slot) j
  pub about_is : j.about ≡ about
  pub free : FreeRun f (sizes_of f) (records_for (sizes_of f) (length scan)) j.first
  pub lowest : (r : ℕ) → FreeRun f (sizes_of f) (records_for (sizes_of f) (length scan)) r → j.first ≤ r

-- "keep a scan in the lowest empty slot"
pub record LowestEmpty (f : List ℕ) (slot : ℕ) : Type 0 where
  pub slotted : InIndex (sizes_of f) slot
  pub empty : (run_of f (sizes_of f) slot).first + (run_of f (sizes_of f) slot).last ≡ 0
  pub below : (t : ℕ) → 1 ≤ t → t < slot → Full (run_of f (sizes_of f) t)

-- a clear "is lent an empty scan"; it has no records and no bytes 8 to 61 to give; 02, 2026-04: it says whether it is "a clear of that highest slot"
pub record ClearJob (f : List ℕ) (slot : ℕ) (j : Job) : Type 0 where
  pub fresh : Fresh f slot 0 j
  pub clears : j.saves ≡ false
  pub no_place : j.first ≡ 0
  pub no_about : j.about ≡ replicate 54 0
  pub third : NoneAbove f (sizes_of f) slot → j.lowers ≡ true
  pub no_third : (s : ℕ) → slot < s → s ≤ capacity_of (sizes_of f) → Full (run_of f (sizes_of f) s) → j.lowers ≡ false
  pub carries : Carries (run_of f (sizes_of f) slot) j

pub record Begins : Type 0 where
  pub save-job : (f : List ℕ) (slot : ℕ) (scan about : List ℕ) → taken_in (save_of f slot scan about) ≡ Ok tt
      → SaveJob f slot scan about (job_in (save_of f slot scan about))
  pub keep_job : (f scan about : List ℕ) → taken_in (keep_of f scan about) ≡ Ok tt
      → SaveJob f (job_in (keep_of f scan about)).slot scan about (job_in (keep_of f scan about)) × LowestEmpty f (job_in (keep_of f scan about)).slot
  pub clear-job : (f : List ℕ) (slot : ℕ) → taken_in (clear_of f slot) ≡ Ok tt → ClearJob f slot (job_in (clear_of f slot))

-- ---- record 1

-- "D = max(D, r+k-1-N)"; a clear leaves D
abbrev pub data_by : List ℕ → Sizes → Op → ℕ
data_by f z (save slot scan about) = max z.d ((job_in (begin f (save slot scan about))).first + records_for z (length scan) - 1 - z.n)
data_by f z (keep scan about) = max z.d ((job_in (begin f (keep scan about))).first + records_for z (length scan) - 1 - z.n)
data_by f z (clear slot) = z.d

-- "and the counter one higher"; 02, 2026-04: "U to the highest slot with a scan, the one being saved or cleared counted"
abbrev pub grown : List ℕ → Sizes → Op → Sizes
grown f z op = renewed z (data_by f z op) (max (highest f z) (slot_of f op)) ((z.counter + 1) % 4294967296)

-- "U lowered to what is left, or 0": the highest slot with a scan below this one; "its counter isn't raised twice"
abbrev pub left_below : List ℕ → Sizes → ℕ → ℕ
left_below f z slot = greatest (λ s. not (empty (run_of f z s))) (slot - 1)

abbrev pub lowered : List ℕ → Sizes → Op → Sizes
lowered f z op = renewed z (data_by f z op) (left_below f z (slot_of f op)) ((z.counter + 1) % 4294967296)

-- what the bootstrap says before record 1 is written, then, and once the change is made, whatever zeros are still to be written
pub record Grows (f : List ℕ) (z : Sizes) (op : Op) : Type 0 where
  pub before : (i : ℕ) → i ≤ records_of z op → sizes_of (state_after f op i).file ≡ z
  pub after : (i : ℕ) → records_of z op < i → i ≤ records_of z op + 2 → sizes_of (state_after f op i).file ≡ grown f z op
  pub ended : (i : ℕ) → changes_by f z op ≤ i → sizes_of (state_after f op i).file ≡ cond (lowers_by f z op) (lowered f z op) (grown f z op)

abbrev pub RecordOne : Type 0
RecordOne = (f : List ℕ) (z : Sizes) → open_of f ≡ Ok z → (op : Op) → Whole op → takes f op ≡ true → Grows f z op
