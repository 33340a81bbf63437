-- A row of 32-bit numbers that holds the entries in use: first and last of each slot, in slot order.
use Rattle.std.specs.Prelude.{ℕ, ◌+◌, ◌*◌, ◌≤◌, ◌<◌, ◌≡◌, List, length, Option}
use Rattle.lent.specs.Number.{Plain}
use Rattle.lent.specs.Least.{least, some_number, None}
use Rattle.paper.specs.declared.sizes.Sizes.{Sizes}
use Rattle.paper.specs.declared.sizes.Run.{Run}
use Rattle.paper.specs.Answers.{Opened}
use Rattle.paper.specs.Sizes.{word_at, capacity_of}
use Rattle.paper.specs.Index.{run_of, row_run, bad_at, above_at, shared_at, index_of, Booted}

-- s is a slot, and the row reaches it
pub record InRow (row : List ℕ) (s : ℕ) : Type 0 where
  pub low : 1 ≤ s
  pub high : s ≤ 4096
  pub wide : 2 * s ≤ length row

-- s is a slot of the file
pub record InFile (f : List ℕ) (z : Sizes) (s : ℕ) : Type 0 where
  pub booted : Booted f z
  pub low : 1 ≤ s
  pub high : s ≤ capacity_of z

-- r is the run with which an entry of form v begins, at place `at`
pub record Begins (v : ℕ) (f : List ℕ) (at : ℕ) (r : Run) : Type 0 where
  pub first : Plain (word_at v f at 0) 4294967296 r.first
  pub last : Plain (word_at v f at 1) 4294967296 r.last

-- r is the run that the file states for slot s
pub record Stated (f : List ℕ) (z : Sizes) (s : ℕ) (r : Run) : Type 0 where
  pub is : r ≡ run_of f z s
  pub first : r.first < 4294967296
  pub last : r.last < 4294967296

-- r is 0 only where slot s is empty
pub record Filled (f : List ℕ) (z : Sizes) (s r : ℕ) : Type 0 where
  pub none : r ≡ 0 → (run_of f z s).first + (run_of f z s).last ≡ 0
  pub small : r < 8589934592

-- the first i runs of the row are those that the file states
pub record Runs (f : List ℕ) (z : Sizes) (row : List ℕ) (i : ℕ) : Type 0 where
  pub run : (s : ℕ) → 1 ≤ s → s ≤ i → row_run row s ≡ run_of f z s

-- each of the slots 1 to i is good and shares no record with a smaller one
pub record Fits (z : Sizes) (run : ℕ → Run) (i : ℕ) : Type 0 where
  pub bad : None (bad_at z run) i
  pub shared : None (shared_at run) i

-- o is the judgement of each index whose slots in use are those of the row, and whose lowest slot above U that is not empty is what `says` allows
pub record Judged (row : List ℕ) (z : Sizes) (says : Option ℕ → Type 0) (o : Opened) : Type 0 where
  pub is : (run : ℕ → Run) → ((s : ℕ) → 1 ≤ s → s ≤ z.u → row_run row s ≡ run s) → ((above : Option ℕ) → says above → above ≡ some_number (least (above_at z run) (capacity_of z))) → o ≡ index_of z run

-- the slots after slot i, up to slot j, are empty
pub record Bare (f : List ℕ) (z : Sizes) (i j : ℕ) : Type 0 where
  pub low : i ≤ j
  pub empty : (s : ℕ) → i < s → s ≤ j → (run_of f z s).first + (run_of f z s).last ≡ 0

-- record x belongs to one of the slots 1 to i
pub record Holder (run : ℕ → Run) (i x : ℕ) : Type 0 where
  pub slot : ℕ
  pub low : 1 ≤ slot
  pub high : slot ≤ i
  pub from : (run slot).first ≤ x
  pub to : x ≤ (run slot).last
