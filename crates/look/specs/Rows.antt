-- The slots that hold a scan, and a piece for each of them: over the runs of the slots, however a file states them.
use Rattle.std.specs.Prelude.{ℕ, ◌<◌, Bool, not, cond, List, [], ◌∷◌, ◌++◌}
use Rattle.lent.specs.Lists.{those}
use Rattle.paper.specs.declared.sizes.Run.{Run}
use Rattle.paper.specs.Index.{empty}

-- slot s holds a scan
abbrev pub full : (ℕ → Run) → ℕ → Bool
full run s = not (empty (run s))

-- those of the slots 1 to u that hold one
abbrev pub scans_in : (ℕ → Run) → ℕ → List ℕ
scans_in run u = those (full run) u

-- a scan counts as one
abbrev pub one_if : Run → ℕ
one_if r = cond (empty r) 0 1

-- the piece of slot s, whose run is r; none where it is empty
abbrev pub piece_if : (ℕ → Run → List ℕ) → ℕ → Run → List ℕ
piece_if piece s r = cond (empty r) [] (piece s r)

unfoldable pub joined : (ℕ → List ℕ) → List ℕ → List ℕ
joined piece [] = []
joined piece (s ∷ ss) = piece s ++ joined piece ss

-- the pieces of the slots 1 to u, in slot order
abbrev pub pieces_in : (ℕ → Run → List ℕ) → (ℕ → Run) → ℕ → List ℕ
pieces_in piece run u = joined (λ s. piece s (run s)) (scans_in run u)

-- slot, first and last
abbrev pub row_of : ℕ → Run → List ℕ
row_of s r = s ∷ r.first ∷ r.last ∷ []

-- three numbers that 32 bits hold
pub record Narrow (s : ℕ) (r : Run) : Type 0 where
  pub slot : s < 4294967296
  pub first : r.first < 4294967296
  pub last : r.last < 4294967296
