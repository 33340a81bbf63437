-- A history: saves, keeps and clears, one after the other, each stepped as far as its cut says and then dropped; and what each slot is then to hold.
use Rattle.std.specs.Prelude.{ℕ, zero, suc, ◌+◌, ◌*◌, ◌%◌, ◌≡◌, Bool, true, false, cond, List, [], ◌∷◌, leb, eqb, length}
use Rattle.std.specs.Result.{is_ok}
use Rattle.lent.specs.Lists.{also}
use Rattle.lent.specs.Write.{pad, zeros}
use Rattle.paper.specs.declared.sizes.Sizes.{Sizes}
use Rattle.paper.specs.declared.sizes.Run.{Run}
use Rattle.paper.specs.Answers.{Begun, StepAnswer}
use Rattle.paper.specs.declared.job.Job.{Job}
use Rattle.paper.specs.Sizes.{sizes_of}
use Rattle.paper.specs.Index.{run_of, shown_of, entry_at}
use Rattle.paper.specs.Entry.{entry_bytes}
use Rattle.paper.specs.Store.{records_for, run_from, highest, many_of, place_for, save_of, keep_of, clear_of, job_in}
use Rattle.paper.specs.Step.{step_file, step_job, step_answer}

-- ---- one operation

-- "save a scan to a slot, keep a scan in the lowest empty slot, and clear a slot"
pub data Op : Type 0 where
  save : (slot : ℕ) (scan about : List ℕ) → Op
  keep : (scan about : List ℕ) → Op
  clear : (slot : ℕ) → Op

abbrev pub begin : List ℕ → Op → Begun
begin f (save slot scan about) = save_of f slot scan about
begin f (keep scan about) = keep_of f scan about
begin f (clear slot) = clear_of f slot

-- "the entry's bytes 8 to 61"
abbrev pub Whole : Op → Type 0
Whole (save slot scan about) = length about ≡ 54
Whole (keep scan about) = length about ≡ 54
Whole (clear slot) = Unit

-- what is lent to each step; a clear "is lent an empty scan"
abbrev pub scan_of : Op → List ℕ
scan_of (save slot scan about) = scan
scan_of (keep scan about) = scan
scan_of (clear slot) = []

-- k: the data records of a save, none of a clear
abbrev pub records_of : Sizes → Op → ℕ
records_of z (save slot scan about) = records_for z (length scan)
records_of z (keep scan about) = records_for z (length scan)
records_of z (clear slot) = 0

-- 02, 2026-04: "A clear of that highest slot gets a third write"
abbrev pub lowers_by : List ℕ → Sizes → Op → Bool
lowers_by f z (save slot scan about) = false
lowers_by f z (keep scan about) = false
lowers_by f z (clear slot) = eqb slot (highest f z)

-- how many records make the change, begun on f: its data records, record 1, the index record, and record 1 again
abbrev pub changes_by : List ℕ → Sizes → Op → ℕ
changes_by f z op = records_of z op + 2 + cond (lowers_by f z op) 1 0

-- the slot that it changes
abbrev pub slot_of : List ℕ → Op → ℕ
slot_of f op = (job_in (begin f op)).slot

-- 02, 2026-05: the records of "the scan replaced or cleared"
abbrev pub old_by : List ℕ → Sizes → Op → Run
old_by f z op = run_of f z (slot_of f op)

-- how many records it writes in all: "its writes grow by the run's length"
abbrev pub writes_by : List ℕ → Sizes → Op → ℕ
writes_by f z op = changes_by f z op + many_of (old_by f z op)

abbrev pub takes : List ℕ → Op → Bool
takes f op = is_ok (begin f op)

-- ---- its steps

pub record State : Type 0 where
  pub file : List ℕ
  pub job : Job

abbrev pub next : List ℕ → State → State
next scan s = record { file = step_file s.file scan s.job; job = step_job s.file scan s.job }

abbrev pub steps : List ℕ → State → ℕ → State
steps scan s zero = s
steps scan s (suc i) = next scan (steps scan s i)

-- file and job after i steps
abbrev pub state_after : List ℕ → Op → ℕ → State
state_after f op i = steps (scan_of op) (record { file = f; job = job_in (begin f op) }) i

-- what the step after those answers
abbrev pub answer_after : List ℕ → Op → ℕ → StepAnswer
answer_after f op i = step_answer (state_after f op i).file (scan_of op) (state_after f op i).job

-- how far an operation went before it was dropped, or the power cut
pub data Cut : Type 0 where
  stepped : ℕ → Cut

abbrev pub steps_of : Cut → ℕ
steps_of (stepped i) = i

-- "An accepted save, keep or clear changes nothing yet": what is refused has no steps
unfoldable pub run : List ℕ → Op → Cut → List ℕ
run f op cut = cond (takes f op) (state_after f op (steps_of cut)).file f

-- its index record was written: the one after k data records and record 1
unfoldable pub reached : List ℕ → Op → Cut → Bool
reached f op cut = also (takes f op) (leb (records_of (sizes_of f) op + 2) (steps_of cut))

-- its record 1 was written: the one after k data records
unfoldable pub renews : List ℕ → Op → Cut → Bool
renews f op cut = also (takes f op) (leb (records_of (sizes_of f) op + 1) (steps_of cut))

-- ---- what slots hold

-- a slot's records, none where it is empty, and its entry
pub record Held : Type 0 where
  pub records : List ℕ
  pub entry : List ℕ

abbrev pub held_at : List ℕ → Sizes → ℕ → Held
held_at f z s = record { records = shown_of f z s; entry = entry_at f z s }

-- the scan, "the last [record] padded with zeros", and its entry: first and last record, and the bytes given
abbrev pub saves : List ℕ → Sizes → List ℕ → List ℕ → Held
saves f z scan about =
    record {
      records = pad (records_for z (length scan) * z.l) scan;
      entry = entry_bytes z (run_from (place_for f (length scan)) (records_for z (length scan))) about;
    }

-- what an operation that is begun on f gives its slot; of a clear "M zeros as the entry"
abbrev pub given : List ℕ → Sizes → Op → Held
given f z (save slot scan about) = saves f z scan about
given f z (keep scan about) = saves f z scan about
given f z (clear slot) = record { records = []; entry = zeros z.m }

abbrev pub Holding : Type 0
Holding = ℕ → Held

abbrev pub put : Holding → ℕ → Held → Holding
put h s x t = cond (eqb t s) x (h t)

-- an operation changes its slot where it reached the index, and nothing else
abbrev pub change : List ℕ → Op → Cut → Holding → Holding
change f op cut h t = cond (reached f op cut) (put h (slot_of f op) (given f (sizes_of f) op) t) (h t)

-- ---- a history

pub record Done : Type 0 where
  pub op : Op
  pub cut : Cut

abbrev pub Wholes : List Done → Type 0
Wholes [] = Unit
Wholes (o ∷ os) = Whole o.op × Wholes os

-- the file after it
abbrev pub after : List ℕ → List Done → List ℕ
after f [] = f
after f (o ∷ os) = after (run f o.op o.cut) os

-- and what its slots are then to hold
abbrev pub holds : List ℕ → List Done → Holding → Holding
holds f [] h = h
holds f (o ∷ os) h = holds (run f o.op o.cut) os (change f o.op o.cut h)

-- how many of its jobs reached record 1
abbrev pub jobs : List ℕ → List Done → ℕ
jobs f [] = 0
jobs f (o ∷ os) = cond (renews f o.op o.cut) 1 0 + jobs (run f o.op o.cut) os

-- "update counter: 32 plain bits; after all ones comes zero": a counter c raised n times
abbrev pub raised : ℕ → ℕ → ℕ
raised zero c = c
raised (suc n) c = raised n ((c + 1) % 4294967296)

-- no change of the history reached slot s
abbrev pub Spares : List ℕ → List Done → ℕ → Type 0
Spares f [] s = Unit
Spares f (o ∷ os) s = (reached f o.op o.cut ≡ true → slot_of f o.op ≡ s → ⊥) × Spares (run f o.op o.cut) os s
