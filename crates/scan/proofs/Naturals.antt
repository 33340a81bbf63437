-- The natural number that an integer is, an integer of 16 bits that is passed on, and two of them compared.
use Prim.Native.Nat.{ℕ, ◌≤◌, ◌<◌, zero-le}
use mathlib.Core.Path.{◌≡◌, refl}
use mathlib.Core.Bool.{true, false, not}
use native.Mathlib.Omega.{arith}
use native.Mathlib.Nat.{le_refl}
use lib.Dec.{T, ltb, leb}
use lib.IntN.{ℤ, pos, negsuc, nat_abs}
use lib.Signed.{lt_z, le_z, non_neg, mag}
use borrow.Author.Tests.{ltb-true}
use mir.Syntax.{w16}
use mir.Val.{to_z, of_z}
use mir.Facts.{to_z-of_z}
use Rattle.std.proofs.lemmas.Bool.Decides.{nat_tests}
use Rattle.lent.proofs.Lists.{true≢false}
use Rattle.paper.specs.Entry.{natural_of}

pub natural-negative : (z : ℤ) → lt_z z (pos 0) ≡ true → natural_of z ≡ 0
natural-negative (pos n) h = omega (arith, ltb-true n 0 h)
natural-negative (negsuc n) h = refl

pub not_negative : (z : ℤ) → lt_z z (pos 0) ≡ false → T (non_neg z)
not_negative (pos n) h = tt
not_negative (negsuc n) h = absurd (true≢false refl h)

pub natural-is : (z : ℤ) → lt_z z (pos 0) ≡ false → nat_abs z ≡ natural_of z
natural-is (pos n) h = refl
natural-is (negsuc n) h = absurd (true≢false refl h)

pub natural-le : (z : ℤ) → natural_of z ≤ mag z
natural-le (pos n) = le_refl n
natural-le (negsuc n) = zero-le

pub same16 : (a : ℤ) → mag a < 32768 → to_z w16 (of_z w16 a) ≡ a
same16 a h = to_z-of_z {w = w16} (record { sfits = h })

ltb-not_leb : (m n : ℕ) → ltb m n ≡ not (leb n m)
ltb-not_leb m n = grind (arith, nat_tests)

-- two integers of 16 bits, as the code compares them
lt-not-le : (a b : ℤ) → lt_z b a ≡ not (le_z a b)
lt-not-le (pos m) (pos n) = ltb-not_leb n m
lt-not-le (pos m) (negsuc n) = refl
lt-not-le (negsuc m) (pos n) = refl
lt-not-le (negsuc m) (negsuc n) = ltb-not_leb m n

pub after-pair : (a b : ℤ) → mag a < 32768 → mag b < 32768 → le_z (to_z w16 (of_z w16 a)) (to_z w16 (of_z w16 b)) ≡ true → lt_z b a ≡ false
after-pair a b h k e = let t : le_z a b ≡ true = rw (same16 a h, same16 b k) at e in rw (lt-not-le a b, t)

pub before-pair : (a b : ℤ) → mag a < 32768 → mag b < 32768 → le_z (to_z w16 (of_z w16 a)) (to_z w16 (of_z w16 b)) ≡ false → lt_z b a ≡ true
before-pair a b h k e = let t : le_z a b ≡ false = rw (same16 a h, same16 b k) at e in rw (lt-not-le a b, t)
