-- Every pattern but those of a not-a-number keeps its bits.
use Prim.Native.Nat.{ℕ, ◌*◌, ◌<◌}
use mathlib.Core.Bool.{Bool, not}
use mathlib.Core.Path.{◌≡◌, subst}
use lib.Dec.{T}
use lib.Ieee.{Format, top, of_bits, nan_bits, to_bits}
use lib.Ieee.Bits.{nan_bits_is, to_bits-of_bits}

module _ (f : Format) (n : ℕ) where
  -- "Floats are kept bit for bit"
  pub kept : n < 2 * top f → T (not (nan_bits f n)) → to_bits f (of_bits f n) ≡ n
  kept h t = to_bits-of_bits f n h (subst (λ (b : Bool). T (not b)) (nan_bits_is f n) t)
