-- The cases that the code tells apart, by the exponent's field: below 1, in reach of 65,536, beyond it. Assumes nothing.
use Rattle.std.specs.Prelude.{Some, None}
use Prim.Native.Nat.{ℕ, zero, suc, ◌+◌, ◌-◌, ◌*◌, ◌/◌, ◌%◌, ◌^◌, ◌≤◌, ◌<◌}
use mathlib.Core.Bool.{Bool, true, false}
use mathlib.Core.Path.{◌≡◌, refl, sym, ap, ◌∙◌, subst}
use native.Mathlib.Nat.{mul_assoc, mul-le-mul, lt_of_lt_of_le, le_trans, mul-pos, mul-lt-mul_of_pos_right, one-mul}
use native.Mathlib.Omega.{arith}
use borrow.Author.Tests.{ltb-true, ltb-false, eqb-true, eqb-false, le-leb, lt-leb}
use lib.Dec.{ltb, eqb, lit<, lit≤}
use lib.Ieee.{of_bits}
use lib.Pow.{pow-add, pow_pos, pow_mono, shl_exact}
use Rattle.whole.specs.Number.{exactly, whole_float, whole_of, up_to}
use Rattle.whole.proofs.Fraction.{exactly-yes, exactly-no, exactly-same, exactly-small, exactly-large}
use Rattle.whole.proofs.Double.{lead, exponent, digits, normal, subnormal, all_ones, minus}

pub of_zero : (b : ℕ) → b ≡ 0 → up_to 65536 (whole_of b) ≡ Some 0
unfolding up_to whole_of of_bits whole_float exactly
of_zero b z = rw z refl

pub below_one : (b : ℕ) → 0 < b → exponent b < 1023 → up_to 65536 (whole_of b) ≡ None
unfolding up_to
below_one b p h = ap (up_to 65536) (go (exponent b) refl h)
  where
    go : (x : ℕ) → exponent b ≡ x → x < 1023 → whole_of b ≡ None
    go zero e h =
        let s : b < lead = omega arith in
        subnormal b s ∙ exactly-small b (2 ^ 1074) (omega arith) (lt_of_lt_of_le s (pow_mono {i = 52} {j = 1074} (lit≤ tt)))
    go (suc k) e h =
        let q : digits b < 2 ^ 53 = omega arith in
        let least : 2 ^ 53 * 2 ^ k ≤ 2 ^ 1074 = subst (λ (n : ℕ). n ≤ 2 ^ 1074) (pow-add 2 53 k) (pow_mono {i = 53 + k} {j = 1074} (omega arith)) in
        normal b k e (omega arith)
        ∙ exactly-small _ _ (mul-pos (omega arith) (pow_pos k)) (lt_of_lt_of_le (mul-lt-mul_of_pos_right q (pow_pos k)) least)

pub beyond : (b : ℕ) → 1039 < exponent b → up_to 65536 (whole_of b) ≡ None
unfolding up_to
beyond b h = go (ltb (exponent b) 2047) (eqb (exponent b) 2047) refl refl
  where
    go : (s t : Bool) → ltb (exponent b) 2047 ≡ s → eqb (exponent b) 2047 ≡ t → up_to 65536 (whole_of b) ≡ None
    go true t q r =
        let l = ltb-true (exponent b) 2047 q in
        let k = exponent b - 1 in
        let least : 65537 * 2 ^ 1074 ≤ lead * 2 ^ 1039 = lit≤ tt in
        ap (up_to 65536) (normal b k (omega arith) (omega arith))
        ∙ exactly-large 65536 (digits b * 2 ^ k) (2 ^ 1074) (pow_pos 1074) (le_trans least (mul-le-mul {n₁ = lead} {n₂ = digits b} (omega arith) (pow_mono {i = 1039} {j = k} (omega arith))))
    go false true q r = ap (up_to 65536) (all_ones b (eqb-true _ _ r))
    go false false q r =
        let l = ltb-false (exponent b) 2047 q in
        let n = eqb-false (exponent b) 2047 r in
        ap (up_to 65536) (minus b (omega arith))

-- ---- in reach: the power of two is a shift

-- the code's unit
abbrev pub unit : ℕ → ℕ
unit k = 1 * 2 ^ k % 18446744073709551616

pub unit-is : (k : ℕ) → k < 64 → unit k ≡ 2 ^ k
unit-is k h = shl_exact {a = 1} 1 k 64 (lit< tt) (omega arith) ∙ one-mul (2 ^ k)

pub unit-pos : (k : ℕ) → k < 64 → 0 < unit k
unit-pos k h = rw (unit-is k h) (pow_pos k)

module _ (b : ℕ) (lo : 1023 ≤ exponent b) (hi : exponent b ≤ 1039) where
  abbrev u : ℕ
  u = unit (1075 - exponent b)

  in_reach : whole_of b ≡ exactly (digits b) u
  in_reach =
      let k = exponent b - 1 in
      let l = 1075 - exponent b in
      let s : k + l ≡ 1074 = omega arith in
      normal b k (omega arith) (omega arith)
      ∙ exactly-same (digits b * 2 ^ k) (2 ^ 1074) (digits b) (2 ^ l) (pow_pos 1074) (pow_pos l) (mul_assoc (digits b) (2 ^ k) (2 ^ l) ∙ ap (λ (n : ℕ). digits b * n) (sym (pow-add 2 k l) ∙ ap (λ (n : ℕ). 2 ^ n) s))
      ∙ ap (exactly (digits b)) (sym (unit-is l (omega arith)))

  pub no-integer : 0 < digits b % u → up_to 65536 (whole_of b) ≡ None
  unfolding up_to
  no-integer n = ap (up_to 65536) (in_reach ∙ exactly-no (digits b) u (λ z. omega arith))

  module _ (z : digits b % u ≡ 0) where
    integer : whole_of b ≡ Some (digits b / u)
    integer = in_reach ∙ exactly-yes (digits b) u z

    pub above : 65536 < digits b / u → up_to 65536 (whole_of b) ≡ None
    unfolding up_to
    above h = simp (integer, lt-leb (digits b / u) 65536 h)

    pub within : digits b / u ≤ 65536 → up_to 65536 (whole_of b) ≡ Some (digits b / u)
    unfolding up_to
    within h = simp (integer, le-leb (digits b / u) 65536 h)
