-- Demand 2: what is answered is so. A file opens exactly when 01's rules hold, each refusal is given exactly under its condition and in order, and what is
-- confirmed stands in the file and is read back.
use Rattle.std.specs.Prelude.{ℕ, ◌+◌, ◌*◌, ◌≡◌, true, false, length, Ok}
use mathlib.Core.List.{List, [], Memᴰ}
use Rattle.lent.specs.Part.{part}
use Rattle.lent.specs.Write.{pad, zeros}
use Rattle.paper.specs.declared.sizes.Sizes.{Sizes}
use Rattle.paper.specs.declared.refusal.Refusal.{Refusal}
use Rattle.paper.specs.declared.job.Job.{Job}
use Rattle.paper.specs.declared.job.Step.TheVariants as step
use Rattle.paper.specs.declared.link.Link.{Link}
use Rattle.paper.specs.Refusals.{Says, refuses, opened_says, listed_says, span_says, taken_says, asked_says, step_says}
use Rattle.paper.specs.Index.{shown_of, entry_at, open_of, Sound}
use Rattle.paper.specs.Entry.{entry_bytes}
use Rattle.paper.specs.Scan.{ruled_of, part_of, class_of, data_of}
use Rattle.paper.specs.Look.{list_of, listed_of, found_of, show_of, read_of}
use Rattle.paper.specs.Store.{blank_of, records_for, run_from, save_of, keep_of, clear_of}
use Rattle.paper.specs.Step.{step_answer}
use Rattle.paper.specs.Gaps.{gaps_of}
use Rattle.paper.specs.Find.{report_of}
use Rattle.paper.specs.Convert.{convert_of}
use Rattle.paper.specs.Link.{begin_of, take_of, finish_of}
use Rattle.demands.specs.Causes.{Row, end, Given, Met, OpenRow, SlotRow, RuleRow, ReadRow, ListRow, FindRow, ClearRow, SaveRow, KeepRow, StepRow, ConvertRow, LentRow, FinishRow, BlankRow}
use Rattle.demands.specs.History.{Op, save, keep, clear, Whole, scan_of, writes_by, slot_of, takes, state_after}
use Rattle.paper.specs.Answers.{taken_in}

-- "A file opens exactly when" the facts of `Sound` hold: 01's ranges, its entries, and its rule that no two scans share a record.
abbrev pub OpensExactly : Type 0
OpensExactly = (f : List ℕ) (z : Sizes) → (open_of f ≡ Ok z → Sound f z) × (Sound f z → open_of f ≡ Ok z)

-- what a call says, by number and values, against the row of what it asks for: refused with r exactly when r is the refusal of the first fact that does not
-- hold, and accepted exactly when every fact holds
pub record Told (says : Says) (row : Row) : Type 0 where
  pub refused_so : (r : Refusal) → says ≡ refuses r → Given row r
  pub so_refused : (r : Refusal) → Given row r → says ≡ refuses r
  pub accepted_so : says.number ≡ 0 → Met row
  pub so_accepted : Met row → says.number ≡ 0

-- Each call is refused exactly under its conditions and in 01's order, and accepted exactly where none of them holds.
pub record RefusedExactly : Type 0 where
  pub open_file : (f : List ℕ) → Told (opened_says (open_of f)) (OpenRow f end)
  pub gaps : (f : List ℕ) → Told (asked_says (gaps_of f)) (OpenRow f end)
  pub list : (f out : List ℕ) → Told (listed_says (listed_of f out)) (ListRow f out)
  pub find : (f out : List ℕ) → Told (listed_says (report_of f out)) (FindRow f out)
  pub entry : (f : List ℕ) (s : ℕ) → Told (taken_says (taken_in (found_of f s))) (SlotRow f s end)
  pub show : (f : List ℕ) (s : ℕ) → Told (span_says (show_of f s)) (SlotRow f s end)
  pub read : (f : List ℕ) (s : ℕ) → Told (span_says (read_of f s)) (ReadRow f s)
  pub class : (s : List ℕ) (n : ℕ) → Told (span_says (class_of s n)) (RuleRow s false end)
  pub rest : (s : List ℕ) → Told (span_says (data_of s)) (RuleRow s false end)
  pub save_scan : (f : List ℕ) (slot : ℕ) (scan about : List ℕ) → Told (taken_says (taken_in (save_of f slot scan about))) (SaveRow f slot scan)
  pub keep_scan : (f scan about : List ℕ) → Told (taken_says (taken_in (keep_of f scan about))) (KeepRow f scan)
  pub clear_slot : (f : List ℕ) (slot : ℕ) → Told (taken_says (taken_in (clear_of f slot))) (ClearRow f slot)
  pub step-job : (f scan : List ℕ) (j : Job) → Told (step_says (step_answer f scan j)) (StepRow f scan j)
  pub blank : (f : List ℕ) (n l m : ℕ) → Told (taken_says (blank_of f n l m)) (BlankRow f n l m)
  pub convert : (v : ℕ) (f out : List ℕ) → Told (taken_says (convert_of v f out)) (ConvertRow v f out)
  pub link_begin : (len : ℕ) (row : List ℕ) → Told (taken_says (taken_in (begin_of len row))) (LentRow row end)
  pub link_take : (k : Link) (p row : List ℕ) → Told (taken_says (taken_in (take_of k p row))) (LentRow row end)
  pub link_finish : (k : Link) (row : List ℕ) → Told (opened_says (finish_of k row)) (FinishRow k row)

-- ---- what is confirmed stands

-- the file opens and shows this scan, padded, in this slot, with this entry
pub record Shows (f : List ℕ) (slot first : ℕ) (scan about : List ℕ) : Type 0 where
  pub z : Sizes
  pub opens : open_of f ≡ Ok z
  pub shows : shown_of f z slot ≡ pad (records_for z (length scan) * z.l) scan
  pub entry : entry_at f z slot ≡ entry_bytes z (run_from first (records_for z (length scan))) about
  pub lists : Memᴰ slot (list_of f)

-- A step that answers Saved: the very file lent to it shows what the job and the scan say. For every file, every scan and every job, hand-made ones too.
abbrev pub SavedShows : Type 0
SavedShows = (f scan : List ℕ) (j : Job) (r count : ℕ) → step_answer f scan j ≡ Ok (step.Saved r count) → Shows f j.slot j.first scan j.about

-- the file opens, and the slot is empty
pub record Empty (f : List ℕ) (slot : ℕ) : Type 0 where
  pub z : Sizes
  pub opens : open_of f ≡ Ok z
  pub shows : shown_of f z slot ≡ []
  pub entry : entry_at f z slot ≡ zeros z.m
  pub unlisted : Memᴰ slot (list_of f) → ⊥

abbrev pub ClearedEmpty : Type 0
ClearedEmpty = (f scan : List ℕ) (j : Job) (r count : ℕ) → step_answer f scan j ≡ Ok (step.Cleared r count) → Empty f j.slot

-- ---- and is read back

-- a read gives the scan's bytes, and the entry's bytes 8 to 61 are those given
pub record ReadsBack (f : List ℕ) (slot : ℕ) (scan about : List ℕ) : Type 0 where
  pub z : Sizes
  pub opens : open_of f ≡ Ok z
  pub reads : part_of f (read_of f slot) ≡ scan
  pub entry : part 8 62 (entry_at f z slot) ≡ about

-- A step that answers Saved, of a scan that keeps the rules: the very file lent to it gives it back.
abbrev pub SavedReads : Type 0
SavedReads =
    (f scan : List ℕ) (j : Job) (r count head rest : ℕ) → step_answer f scan j ≡ Ok (step.Saved r count) → ruled_of scan true ≡ Ok (head, rest)
    → length j.about ≡ 54 → ReadsBack f j.slot scan j.about

-- the entry's bytes that an operation was given
abbrev pub about_of : Op → List ℕ
about_of (save slot scan about) = about
about_of (keep scan about) = about
about_of (clear slot) = []

abbrev pub Saves : Op → Type 0
Saves (save slot scan about) = Unit
Saves (keep scan about) = Unit
Saves (clear slot) = ⊥

-- An accepted save or keep, run to confirmation and stepped however often after it, is read back.
abbrev pub RunReads : Type 0
RunReads =
    (f : List ℕ) (z : Sizes) → open_of f ≡ Ok z → (op : Op) → Saves op → Whole op → takes f op ≡ true → (more : ℕ)
    → ReadsBack (state_after f op (writes_by f z op + more)).file (slot_of f op) (scan_of op) (about_of op)
