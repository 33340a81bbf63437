-- What the passes over the entries keep, and what they find.
use Rattle.std.specs.Prelude.{ℕ, ◌*◌, ◌/◌, ◌+◌, ◌≤◌, ◌<◌, ◌≡◌, List, length, Ok}
use Rattle.lent.specs.Least.{None}
use Rattle.marks.specs.Marks.{mark_of}
use Rattle.paper.specs.declared.sizes.Sizes.{Sizes}
use Rattle.paper.specs.declared.sizes.Run.{Run}
use Rattle.paper.specs.Answers.{Opened}
use Rattle.paper.specs.Index.{run_of, shared_at, index_of, open_of, Booted}
use Rattle.entries.specs.Row.{Runs, Fits, Bare, Holder}

-- ---- runs that rise

-- the run is empty, or in order and past record top
pub record Still (r : Run) (top : ℕ) : Type 0 where
  pub order : r.first ≤ r.last
  pub past : 1 ≤ r.last → top < r.first

-- each of the slots 1 to i is empty, or its run is in order and lies past record n and past those of the smaller slots; none reaches past record top
pub record Climbs (n : ℕ) (run : ℕ → Run) (i top : ℕ) : Type 0 where
  pub reach : (t : ℕ) → 1 ≤ t → t ≤ i → (run t).last ≤ top
  pub order : (t : ℕ) → 1 ≤ t → t ≤ i → (run t).first ≤ (run t).last
  pub past : (t : ℕ) → 1 ≤ t → t ≤ i → 1 ≤ (run t).last → n < (run t).first
  pub shared : None (shared_at run) i
  pub low : n ≤ top

-- ---- the row on its way

-- the file's bootstrap is good, and the row is long enough for its slots in use, of which it holds the first i
pub record Decoded (f : List ℕ) (z : Sizes) (row : List ℕ) (i : ℕ) : Type 0 where
  pub booted : Booted f z
  pub wide : 2 * z.u ≤ length row
  pub most : i ≤ z.u
  pub runs : Runs f z row i

-- the slots after slot i, up to slot j, are empty and decoded
pub record Skipped (f : List ℕ) (z : Sizes) (row : List ℕ) (i j : ℕ) : Type 0 where
  pub most : j ≤ z.u
  pub runs : Runs f z row j
  pub bare : Bare f z i j

-- the first i slots are decoded and break no rule
pub record JudgedTo (f : List ℕ) (z : Sizes) (row : List ℕ) (i : ℕ) : Type 0 where
  pub most : i ≤ z.u
  pub runs : Runs f z row i
  pub fits : Fits z (run_of f z) i

-- ---- runs in any order, with a mark for each record

-- the marks reach each record of the file
pub record Reach (z : Sizes) (ws : List ℕ) : Type 0 where
  pub long : (z.n + z.d) / 64 < length ws

-- the marks show the records up to n and those of the slots 1 to i, and no others
pub record Shows (ws : List ℕ) (n : ℕ) (run : ℕ → Run) (i : ℕ) : Type 0 where
  pub low : (x : ℕ) → x ≤ n → mark_of ws x ≡ 1
  pub covers : (t : ℕ) → 1 ≤ t → t ≤ i → (x : ℕ) → 1 ≤ x → (run t).first ≤ x → x ≤ (run t).last → mark_of ws x ≡ 1
  pub only : (x : ℕ) → n < x → mark_of ws x ≡ 1 → Holder run i x

-- from ws to vs the records of the run were marked, none of which was; every other mark is as it was
pub record Lodged (ws vs : List ℕ) (r : Run) : Type 0 where
  pub clear : 1 ≤ r.last → (x : ℕ) → r.first ≤ x → x ≤ r.last → mark_of ws x ≡ 1 → ⊥
  pub marked : 1 ≤ r.last → (x : ℕ) → r.first ≤ x → x ≤ r.last → mark_of vs x ≡ 1
  pub kept : (x : ℕ) → mark_of ws x ≡ 1 → mark_of vs x ≡ 1
  pub below : (x : ℕ) → x < r.first → mark_of vs x ≡ 1 → mark_of ws x ≡ 1
  pub above : (x : ℕ) → r.last < x → mark_of vs x ≡ 1 → mark_of ws x ≡ 1

-- ---- what a judgement leaves behind

-- the index is judged and the row holds its runs; where record 0 is marked, the marks show the records of its scans
pub record Looked (f : List ℕ) (z : Sizes) (row ws : List ℕ) (r : Opened) : Type 0 where
  pub is : r ≡ index_of z (run_of f z)
  pub runs : Runs f z row z.u
  pub shows : mark_of ws 0 ≡ 1 → Shows ws z.n (run_of f z) z.u

-- the file is judged, and where it opens the row holds its runs
pub record Judged (f row : List ℕ) (r : Opened) : Type 0 where
  pub is : r ≡ open_of f
  pub runs : (z : Sizes) → r ≡ Ok z → Runs f z row z.u
