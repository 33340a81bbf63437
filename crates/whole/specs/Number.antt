-- "Whole number" means a double with sign bit clear that is exactly an integer.
use Rattle.std.specs.Prelude.{ℕ, ◌*◌, ◌/◌, ◌%◌, true, false, cond, leb, eqb, Float, Some, None, Option}
use Rattle.std.specs.Float.{nan, inf, fin, binary64}
use Rattle.std.specs.Float.Ieee.{up, down, of_bits}

-- the fraction a / d, where it is an integer
unfoldable pub exactly : ℕ → ℕ → Option ℕ
exactly a d = cond (eqb (a % d) 0) (Some (a / d)) None

-- m * 2 ^ e with the sign bit clear, where it is an integer
unfoldable pub whole_float : Float → Option ℕ
whole_float nan = None
whole_float (inf s) = None
whole_float (fin true m e) = None
whole_float (fin false m e) = exactly (m * up e) (down e)

-- the whole number that the 64 bits of a double stand for
unfoldable pub whole_of : ℕ → Option ℕ
whole_of bits = whole_float (of_bits binary64 bits)

-- a whole number of at most k
unfoldable pub up_to : ℕ → Option ℕ → Option ℕ
up_to k (Some n) = cond (leb n k) (Some n) None
up_to k None = None
