-- The laws of a number in decimal. Below them nothing sees how many digits the definition allows.
use Prim.Native.Nat.{ℕ, zero, suc, ◌+◌, ◌*◌, ◌/◌, ◌%◌, ◌^◌, ◌≤◌, ◌<◌}
use mathlib.Core.Path.{◌≡◌, refl, ◌∙◌, ap}
use mathlib.Core.Bool.{Bool, true, false}
use mathlib.Core.List.{List, [], ◌∷◌, ◌++◌}
use native.Mathlib.Nat.{pow-suc, pow-zero}
use native.Mathlib.Omega.{arith}
use lib.Dec.{ltb}
use lib.ListN.{length, length-append}
use borrow.Author.Tests.{lt-ltb, le-ltb, ltb-false}
use Rattle.paper.specs.Lister.{digits, decimal}

-- one digit fewer above the last
tenth : (k n : ℕ) → n < 10 ^ suc k → n / 10 < 10 ^ k
tenth k n h = let p : n < 10 ^ k * 10 = rw pow-suc at h in omega arith

-- more digits allowed than there are change nothing
fuel-by : (k m n : ℕ) (b : Bool) → ltb n 10 ≡ b → (10 ≤ n → digits k (n / 10) ≡ digits m (n / 10)) → digits (suc k) n ≡ digits (suc m) n
unfolding digits
fuel-by k m n true e rest = simp e
fuel-by k m n false e rest = simp e (ap (λ (t : List ℕ). t ++ ((48 + n % 10) ∷ [])) (rest (ltb-false n 10 e)))

fuel : (k m n : ℕ) → 0 < n → n < 10 ^ k → n < 10 ^ m → digits k n ≡ digits m n
fuel zero m n l p q = absurd (omega (arith, pow-zero 10))
fuel (suc k) zero n l p q = absurd (omega (arith, pow-zero 10))
fuel (suc k) (suc m) n l p q = fuel-by k m n (ltb n 10) refl (λ h. fuel k m (n / 10) (omega arith) (tenth k n p) (tenth m n q))

pub small : (n : ℕ) → n < 10 → decimal n ≡ (48 + n) ∷ []
unfolding digits
small n h = simp (lt-ltb n 10 h)

pub more : (n : ℕ) → 10 ≤ n → n < 2 ^ 64 → decimal n ≡ decimal (n / 10) ++ ((48 + n % 10) ∷ [])
unfolding digits
more n h l =
    let p : n / 10 < 10 ^ 19 = tenth 19 n (omega arith) in
    simp (le-ltb n 10 h) (ap (λ (t : List ℕ). t ++ ((48 + n % 10) ∷ [])) (fuel 19 20 (n / 10) (omega arith) p (omega arith)))

pub one : (n : ℕ) → n < 10 → length (decimal n) ≡ 1
one n h = ap length (small n h)

pub many : (n : ℕ) → 10 ≤ n → n < 2 ^ 64 → length (decimal n) ≡ length (decimal (n / 10)) + 1
many n h l = ap length (more n h l) ∙ length-append (decimal (n / 10)) ((48 + n % 10) ∷ [])

-- a number below 10 ^ (k + 1) has at most k + 1 digits
length-by : (m k n : ℕ) → n < 10 ^ suc k → (b : Bool) → ltb n 10 ≡ b → ((j : ℕ) → n / 10 < 10 ^ suc j → length (digits m (n / 10)) ≤ suc j)
    → length (digits (suc m) n) ≤ suc k
unfolding digits
length-by m k n h true e rest = simp e (omega arith)
length-by m zero n h false e rest = absurd (omega (arith, ltb-false n 10 e))
length-by m (suc k) n h false e rest = simp (e, length-append) (omega (arith, rest k (tenth (suc k) n h)))

length_digits : (m k n : ℕ) → n < 10 ^ suc k → length (digits m n) ≤ suc k
unfolding digits
length_digits zero k n h = omega arith
length_digits (suc m) k n h = length-by m k n h (ltb n 10) refl (λ j p. length_digits m j (n / 10) p)

pub length-decimal : (k n : ℕ) → n < 10 ^ suc k → length (decimal n) ≤ suc k
length-decimal k n h = length_digits 20 k n h

-- and none has more than twenty
most-by : (k n : ℕ) (b : Bool) → ltb n 10 ≡ b → length (digits k (n / 10)) ≤ k → length (digits (suc k) n) ≤ suc k
unfolding digits
most-by k n true e rest = simp e (omega arith)
most-by k n false e rest = simp (e, length-append) (omega arith)

most : (k n : ℕ) → length (digits k n) ≤ k
unfolding digits
most zero n = omega arith
most (suc k) n = most-by k n (ltb n 10) refl (most k (n / 10))

pub length_most : (n : ℕ) → length (decimal n) ≤ 20
length_most n = most 20 n
