-- What the search for a place is given, what it keeps, and what it finds.
use Rattle.std.specs.Prelude.{ℕ, ◌+◌, ◌*◌, ◌≤◌, ◌<◌, ◌≡◌, List, length, Option}
use Rattle.lent.specs.Least.{some_number}
use Rattle.marks.specs.Marks.{mark_of}
use Rattle.paper.specs.declared.sizes.Sizes.{Sizes}
use Rattle.paper.specs.declared.sizes.Run.{Run}
use Rattle.paper.specs.Sizes.{capacity_of, Ranged}
use Rattle.paper.specs.Index.{row_run, sharer, Lies}
use Rattle.paper.specs.Store.{run_from, empty_slot}
use Rattle.entries.specs.Row.{Holder}

-- the row of a file that opens, and a scan of k records
pub record Sought (row : List ℕ) (z : Sizes) (k : ℕ) : Type 0 where
  pub wide : 2 * z.u ≤ length row
  pub ranged : Ranged z
  pub inside : (s : ℕ) → 1 ≤ s → s ≤ z.u → Lies z (row_run row s)
  pub some : 1 ≤ k
  pub few : k ≤ 65536

-- where record 0 is marked, each marked record past N is of a scan
pub record Hints (ws : List ℕ) (z : Sizes) (run : ℕ → Run) : Type 0 where
  pub held : mark_of ws 0 ≡ 1 → (x : ℕ) → z.n < x → mark_of ws x ≡ 1 → Holder run z.u x

-- none of the slots 1 to u has a record after i and before e
pub record Missed (run : ℕ → Run) (u i e : ℕ) : Type 0 where
  pub clear : (t : ℕ) → 1 ≤ t → t ≤ u → i < (run t).last → e ≤ (run t).first

-- none of the data records up to record i starts k records that belong to no scan
pub record Passed (run : ℕ → Run) (z : Sizes) (k i : ℕ) : Type 0 where
  pub low : z.n ≤ i
  pub small : i ≤ 1000000
  pub none : (r : ℕ) → z.n < r → r ≤ i → sharer run (run_from r k) z.u ≡ 0 → ⊥

-- r is the lowest empty slot, or none, of each index whose slots in use are those of the row and whose other slots are empty
pub record Vacant (row : List ℕ) (z : Sizes) (r : Option ℕ) : Type 0 where
  pub is : (run : ℕ → Run) → ((s : ℕ) → 1 ≤ s → s ≤ z.u → row_run row s ≡ run s)
      → ((s : ℕ) → z.u < s → s ≤ capacity_of z → (run s).first + (run s).last ≡ 0) → r ≡ some_number (empty_slot z run)
