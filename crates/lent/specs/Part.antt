-- A part of what is lent: the bytes from a place up to another, as many of them as there are.
use Rattle.std.specs.Prelude.{◌≡◌, ℕ, ◌+◌, ◌<◌, ◌≤◌, cond, List, [], ◌∷◌, length, nat_lt, slice_index, slice_range}
use Rattle.lent.specs.Lists.{all}

abbrev pub part : ℕ → ℕ → List ℕ → List ℕ
part from to s = slice_range s from to

-- at which byte that part begins: at `from`, and at 0 where it is empty
unfoldable pub place_in : ℕ → ℕ → List ℕ → ℕ
place_in from to s = cond (all (nat_lt from (length s) ∷ nat_lt from to ∷ [])) from 0

-- n bytes on from an address, which is a block and an offset: in the same block
abbrev pub bytes_on : ℕ → ℕ × ℕ → ℕ × ℕ
bytes_on n at = (at.0, at.1 + n)

-- f and g have the same bytes from a up to b
abbrev pub Alike : List ℕ → List ℕ → ℕ → ℕ → Type 0
Alike f g a b = (i : ℕ) → a ≤ i → i < b → slice_index g i ≡ slice_index f i
