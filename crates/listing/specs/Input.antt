-- What the program has read.
use Rattle.std.specs.Prelude.{◌≡◌, ℕ, ◌<◌, ◌≤◌, min, List, length, take, Option, Some, None, Result, Ok, Err, IfSome}
use Rattle.std.specs.Io.KnownBytes.{Consumes, IsAtEnd, Keeps}

-- 01, "reads one file": the answer of a read into `most` bytes is how many came, or a failure where it is an error
unfoldable pub input_of : {E : Type 0} → Result ℕ E → ℕ → Option ℕ
input_of (Ok k) most = Some (min k most)
input_of (Err e) most = None

-- the bytes read lie within the memory that was lent for them
abbrev pub Within : Option ℕ → List ℕ → Type 0
Within (Some n) room = n ≤ length room
Within None room = Unit {0}

-- one read takes the bytes that it gives from those that are known to be left, and gives none only at their end or without room; one
-- that failed takes none
abbrev pub Took : Option ℕ → List ℕ → Option (List ℕ) → Option (List ℕ) → Type 0
Took (Some n) room old new = Consumes old new (take n room) × (n ≡ 0 → 0 < length room → IsAtEnd new)
Took None room old new = Keeps old new

-- what was read of an input whose bytes are known: its first bytes, as many as there is room for
abbrev pub Filled : Option ℕ → List ℕ → Option (List ℕ) → Type 0
Filled (Some n) room known = IfSome known (λ f. take n room ≡ take (length room) f)
Filled None room known = Unit {0}
