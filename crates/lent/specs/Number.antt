-- Numbers in a run of bytes, of any width and in either byte order. Past the end of the run a byte counts as 0.
use Rattle.std.specs.Prelude.{◌≡◌, ℕ, zero, suc, ◌+◌, ◌-◌, ◌*◌, ◌/◌, ◌%◌, ◌^◌, ◌<◌, cond, List, [], ◌∷◌, ◌++◌, ℤ, pos, negsuc, nat_lt, slice_index}
use Rattle.lent.specs.Lists.{table}

pub data Order : Type 0 where
  big : Order
  little : Order

-- which of n bytes holds digit i, the highest digit being digit 0
abbrev pub byte_of : Order → ℕ → ℕ → ℕ
byte_of big n i = i
byte_of little n i = n - 1 - i

-- the number whose n digits in base 256, the highest first, are d 0 to d (n - 1)
unfoldable pub value : ℕ → (ℕ → ℕ) → ℕ
value zero d = 0
value (suc n) d = value n d * 256 + d n

-- digit i, the highest first, of a number of n digits
unfoldable pub digit : ℕ → ℕ → ℕ → ℕ
digit n v i = v / 256 ^ (n - 1 - i) % 256

-- the number of n bytes at place `at` of a run
unfoldable pub number : Order → ℕ → List ℕ → ℕ → ℕ
number o n s at = value n (λ i. slice_index s (at + byte_of o n i))

-- a number as its n bytes
unfoldable pub bytes : Order → ℕ → ℕ → List ℕ
bytes o n v = table n (λ i. digit n v (byte_of o n i))

-- "Numbers are big-endian"
abbrev pub be16 : List ℕ → ℕ → ℕ
be16 s at = number big 2 s at

abbrev pub be32 : List ℕ → ℕ → ℕ
be32 s at = number big 4 s at

abbrev pub be64 : List ℕ → ℕ → ℕ
be64 s at = number big 8 s at

-- numbers of n bytes, one after the other
unfoldable pub numbers : ℕ → List ℕ → List ℕ
numbers n [] = []
numbers n (v ∷ vs) = bytes big n v ++ numbers n vs

-- of 32 bits
abbrev pub words : List ℕ → List ℕ
words vs = numbers 4 vs

-- "integers two's complement": the integer that 16 bits stand for
unfoldable pub int16 : ℕ → ℤ
int16 v = cond (nat_lt v 32768) (pos v) (negsuc (65535 - v))

-- the 32 bits that stand for the same integer
unfoldable pub widened : ℕ → ℕ
widened v = cond (nat_lt v 32768) v (v + 4294901760)

-- a result that is the number n, which is below top
pub record Plain (n top r : ℕ) : Type 0 where
  pub is : r ≡ n
  pub small : r < top
