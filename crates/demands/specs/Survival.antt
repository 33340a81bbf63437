-- Demand 3: whatever was saved, kept or cleared, and wherever it was cut off, the file opens and every slot shows its last change to reach the index.
use Rattle.std.specs.Prelude.{ℕ, ◌+◌, ◌≤◌, ◌<◌, ◌≡◌, Bool, true, false, List, [], ◌∷◌, Ok}
use Rattle.lent.specs.Lists.{those}
use Rattle.paper.specs.declared.sizes.Sizes.{Sizes}
use Rattle.paper.specs.Answers.{StepAnswer}
use Rattle.paper.specs.declared.job.Step.TheVariants.{Wrote, Saved, Cleared}
use Rattle.paper.specs.Sizes.{renewed, capacity_of, record_of}
use Rattle.paper.specs.Index.{open_of}
use Rattle.paper.specs.Scan.{part_of}
use Rattle.paper.specs.Look.{list_of, found_of, show_of, read_of}
use Rattle.paper.specs.Store.{many_of, job_in}
use Rattle.paper.specs.Step.{is_confirmed}
use Rattle.demands.specs.History.{Op, save, keep, clear, Whole, begin, records_of, lowers_by, changes_by, old_by, writes_by, slot_of, takes, answer_after, stepped, reached, held_at, Holding, Done, Wholes, after, holds, jobs, raised, Spares}

-- some bytes
abbrev pub some : List ℕ → Bool
some [] = false
some (x ∷ xs) = true

-- the file g opens with z's sizes but for D, U and the counter, which is raised n times, every slot holds what h says, and the list is the slots that have
-- bytes, in slot order and once each
pub record Survives (z : Sizes) (g : List ℕ) (h : Holding) (n : ℕ) : Type 0 where
  pub d : ℕ
  pub u : ℕ
  pub c : ℕ
  pub counts : c ≡ raised n z.counter
  pub opens : open_of g ≡ Ok (renewed z d u c)
  pub shows : (s : ℕ) → 1 ≤ s → s ≤ capacity_of z → held_at g (renewed z d u c) s ≡ h s
  pub lists : list_of g ≡ those (λ s. some (h s).records) (capacity_of z)

-- For every file that opens and every history: "a cut after any record" is a number of steps like any other.
abbrev pub PowerCut : Type 0
PowerCut = (f : List ℕ) (z : Sizes) → open_of f ≡ Ok z → (os : List Done) → Wholes os → Survives z (after f os) (holds f os (held_at f z)) (jobs f os)

-- entry, show and read of slot s answer of g what they answer of f, and give the same bytes
pub record StillSo (f g : List ℕ) (s : ℕ) : Type 0 where
  pub entry : found_of g s ≡ found_of f s
  pub show : show_of g s ≡ show_of f s
  pub shows : part_of g (show_of g s) ≡ part_of f (show_of f s)
  pub read : read_of g s ≡ read_of f s
  pub reads : part_of g (read_of g s) ≡ part_of f (read_of f s)

-- After any history that did not change slot s, whatever it did to others.
abbrev pub Stays : Type 0
Stays = (f : List ℕ) (z : Sizes) → open_of f ≡ Ok z → (os : List Done) → Wholes os → (s : ℕ) → Spares f os s → StillSo f (after f os) s

-- ---- confirmation

-- "answers Saved", of a clear "Cleared": no record, and the count
abbrev pub confirmed : Op → ℕ → StepAnswer
confirmed (save slot scan about) count = Ok (Saved 0 count)
confirmed (keep scan about) count = Ok (Saved 0 count)
confirmed (clear slot) count = Ok (Cleared 0 count)

-- Every confirmed change has reached the index.
abbrev pub Confirmed : Type 0
Confirmed =
    (f : List ℕ) (z : Sizes) → open_of f ≡ Ok z → (op : Op) → Whole op → takes f op ≡ true → (i : ℕ) → is_confirmed (answer_after f op i) ≡ true
    → reached f op (stepped i) ≡ true

-- "The answer to a step says which record it wrote and how many records it has written so far": k data records, record 1, the slot's index record, of a
-- clear of the highest slot record 1 again, and then the old run's records, lowest first; "So a save is confirmed at step k+3", a clear "at step 3", such a clear
-- "at step 4", later by the old run's length where there is one, and each time when stepped again.
pub record Answers (f : List ℕ) (z : Sizes) (op : Op) : Type 0 where
  pub rows : (i : ℕ) → i < records_of z op → answer_after f op i ≡ Ok (Wrote ((job_in (begin f op)).first + i) (i + 1))
  pub boot : answer_after f op (records_of z op) ≡ Ok (Wrote 1 (records_of z op + 1))
  pub entry : answer_after f op (records_of z op + 1) ≡ Ok (Wrote (record_of z (slot_of f op)) (records_of z op + 2))
  pub lower : lowers_by f z op ≡ true → answer_after f op (records_of z op + 2) ≡ Ok (Wrote 1 (records_of z op + 3))
  pub zeros : (i : ℕ) → i < many_of (old_by f z op) → answer_after f op (changes_by f z op + i) ≡ Ok (Wrote ((old_by f z op).first + i) (changes_by f z op + i + 1))
  pub confirms : (more : ℕ) → answer_after f op (writes_by f z op + more) ≡ confirmed op (writes_by f z op)

abbrev pub Confirms : Type 0
Confirms = (f : List ℕ) (z : Sizes) → open_of f ≡ Ok z → (op : Op) → Whole op → takes f op ≡ true → Answers f z op
