-- The lines of the paper's table that speak of a double, and one beyond a length's reach. Assumes nothing.
use Rattle.std.specs.Prelude.{Some, None}
use mathlib.Core.Path.{◌≡◌, refl}
use lib.Ieee.{of_bits}
use Rattle.whole.specs.Number.{exactly, whole_float, whole_of}
use Rattle.whole.specs.Length.{length_of}

-- 4070000000000000 (hex) is 256, and 8000000000000000 (hex) is no whole number
pub doubles : (length_of 4643211215818981376 ≡ Some 256) × (length_of 9223372036854775808 ≡ None)
unfolding length_of whole_of whole_float exactly of_bits
doubles = (refl, refl)
