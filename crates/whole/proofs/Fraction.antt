-- What `exactly` gives: two ways to write one fraction agree. Assumes nothing.
use Rattle.std.specs.Prelude.{Some, None}
use Prim.Native.Nat.{ℕ, suc, ◌*◌, ◌/◌, ◌%◌, ◌≤◌, ◌<◌}
use mathlib.Core.Bool.{Bool, true, false}
use mathlib.Core.Path.{◌≡◌, refl, sym, ap, ◌∙◌, subst}
use native.Mathlib.Nat.{mul-div-mul_right, div-add-mod', mul-mod_left, mul_right_comm, mul_comm, eq_of_mul-eq-mul_right, mod-eq_of_lt, le-div_iff_mul-le}
use native.Mathlib.Omega.{arith}
use borrow.Author.Tests.{eq-eqb, ne_eqb, lt-leb, eqb-true, eqb-false}
use lib.Dec.{eqb}
use Rattle.whole.specs.Number.{exactly, up_to}

pub exactly-yes : (a d : ℕ) → a % d ≡ 0 → exactly a d ≡ Some (a / d)
unfolding exactly
exactly-yes a d h = simp (eq-eqb (a % d) 0 h)

pub exactly-no : (a d : ℕ) → (a % d ≡ 0 → ⊥) → exactly a d ≡ None
unfolding exactly
exactly-no a d h = simp (ne_eqb (a % d) 0 h)

cross : (a d c l : ℕ) → 0 < d → a * l ≡ c * d → a % d ≡ 0 → c % l ≡ 0
cross a d c l hd e z =
    let a-is : a / d * d ≡ a = omega (arith, div-add-mod' a d) in
    let c-is : a / d * l ≡ c = eq_of_mul-eq-mul_right d hd (a / d * l) c (mul_right_comm (a / d) l d ∙ ap (λ (n : ℕ). n * l) a-is ∙ e) in
    subst (λ (n : ℕ). n % l ≡ 0) c-is (mul-mod_left (a / d) l)

quotients : (a d c l : ℕ) → 0 < d → 0 < l → a * l ≡ c * d → a / d ≡ c / l
quotients a d c l hd hl e =
    sym (mul-div-mul_right a d hl) ∙ ap (λ (n : ℕ). n / (d * l)) e ∙ ap (λ (n : ℕ). c * d / n) (mul_comm d l) ∙ mul-div-mul_right c l hd

pub exactly-same : (a d c l : ℕ) → 0 < d → 0 < l → a * l ≡ c * d → exactly a d ≡ exactly c l
exactly-same a d c l hd hl e = go (eqb (a % d) 0) refl
  where
    go : (t : Bool) → eqb (a % d) 0 ≡ t → exactly a d ≡ exactly c l
    go true q =
        let z = eqb-true (a % d) 0 q in
        exactly-yes a d z ∙ ap Some (quotients a d c l hd hl e) ∙ sym (exactly-yes c l (cross a d c l hd e z))
    go false q =
        let n = eqb-false (a % d) 0 q in
        exactly-no a d n ∙ sym (exactly-no c l (λ z. n (cross c l a d hl (sym e) z)))

-- a fraction between 0 and 1
pub exactly-small : (a d : ℕ) → 0 < a → a < d → exactly a d ≡ None
exactly-small a d p h = exactly-no a d (λ z. let e = mod-eq_of_lt h in omega arith)

-- a fraction above k, integer or not
pub exactly-large : (k a d : ℕ) → 0 < d → suc k * d ≤ a → up_to k (exactly a d) ≡ None
unfolding up_to
exactly-large k a d hd h = go (eqb (a % d) 0) refl
  where
    go : (t : Bool) → eqb (a % d) 0 ≡ t → up_to k (exactly a d) ≡ None
    go true q = simp (exactly-yes a d (eqb-true (a % d) 0 q), lt-leb (a / d) k ((le-div_iff_mul-le hd).1 h))
    go false q = simp (exactly-no a d (eqb-false (a % d) 0 q))
