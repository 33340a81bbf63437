-- A turn of the walk, by how many records the scan has that begins at a record, or none where none does; and how far the two walks have come.
use Rattle.std.specs.Prelude.{ℕ, ◌+◌, ◌-◌, ◌≤◌, ◌<◌, ◌≡◌, Option, Some, None, List, [], ◌∷◌, length}
use Rattle.lent.specs.Write.{write}
use Rattle.paper.specs.declared.sizes.Sizes.{Sizes}
use Rattle.paper.specs.Find.{Find, find_at, find_from, find_of, find_lines}

-- how many are found there
abbrev pub one_if : Option ℕ → ℕ
one_if None = 0
one_if (Some k) = 1

-- the record to look at after it
abbrev pub after_of : ℕ → Option ℕ → ℕ
after_of r None = r + 1
after_of r (Some k) = r + k

-- what is found there
abbrev pub finds_at : List ℕ → Sizes → ℕ → Option ℕ → List Find
finds_at f z r None = []
finds_at f z r (Some k) = find_at f z r (r + k - 1) ∷ []

-- the walk has come to record r, and n scans were found
pub record Counted (f : List ℕ) (z : Sizes) (n r : ℕ) : Type 0 where
  pub past : z.n < r
  pub within : r ≤ z.n + z.d + 1
  pub few : n + z.n < r
  pub rest : n + length (find_from f z r) ≡ length (find_of f z)

-- the walk has come to record r, and what was found is put, up to the place `at`
pub record Filled (f : List ℕ) (z : Sizes) (before : List ℕ) (end : ℕ) (after : List ℕ) (at r : ℕ) : Type 0 where
  pub past : z.n < r
  pub within : r ≤ z.n + z.d + 1
  pub place : at + length (find_lines (find_from f z r)) ≡ end
  pub fits : end ≤ length before
  pub as_long : length after ≡ length before
  pub holds : write after at (find_lines (find_from f z r)) ≡ write before 0 (find_lines (find_of f z))
