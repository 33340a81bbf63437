-- What `whole_of` gives, by the fields of a double's bits: with the digits q and the exponent's field x the number is q * 2 ^ (x - 1) / 2 ^ 1074.
-- Assumes nothing.
use Rattle.std.specs.Prelude.{None}
use Prim.Native.Nat.{ℕ, zero, suc, ◌+◌, ◌*◌, ◌/◌, ◌%◌, ◌^◌, ◌≤◌, ◌<◌}
use mathlib.Core.Bool.{Bool, true, false, cond, true≢false}
use mathlib.Core.Path.{◌≡◌, refl, sym, ◌∙◌}
use native.Mathlib.Nat.{mod-eq_of_lt, mul-one, div-eq_of_lt}
use native.Mathlib.Omega.{arith}
use borrow.Author.Tests.{ne_eqb, lt-leb, le-leb}
use lib.Dec.{eqb}
use lib.Pow.{pow_pos}
use lib.Ieee.{Float, nan, inf, fin, binary64, up, down, odd, of_fields, of_bits}
use lib.Ieee.Exact.{HasValue, odd_sign}
use lib.Ieee.Fits.{down_pos}
use Rattle.whole.specs.Number.{exactly, whole_float, whole_of}
use Rattle.whole.proofs.Fraction.{exactly-same}

-- the code's LEAD
abbrev pub lead : ℕ
lead = 4503599627370496

-- the exponent's field, above it the sign bit
abbrev pub exponent : ℕ → ℕ
exponent b = b / lead

-- the digits, the leading one put back
abbrev pub digits : ℕ → ℕ
digits b = lead + b % lead

-- ---- the sign bit clear

value : (x : Float) (a c : ℕ) → 0 < c → HasValue x false a c → whole_float x ≡ exactly a c
unfolding whole_float
value nan a c p h = absurd h
value (inf s) a c p h = absurd h
value (fin true m e) a c p h = absurd (true≢false h.0)
value (fin false m e) a c p h = exactly-same (m * up e) (down e) a c (down_pos e) p h.1

plain : (b : ℕ) → exponent b < 2048 → whole_of b ≡ whole_float (of_fields binary64 false (exponent b) (b % lead))
unfolding whole_of of_bits
plain b h =
    let s : b < 9223372036854775808 = omega arith in
    simp (lt-leb 9223372036854775808 b s, mod-eq_of_lt s)

pub normal : (b k : ℕ) → exponent b ≡ suc k → k < 2046 → whole_of b ≡ exactly (digits b * 2 ^ k) (2 ^ 1074)
unfolding of_fields
normal b k e h =
    plain b (omega arith)
    ∙ simp (e, ne_eqb (suc k) 2047 (λ q. omega arith)) (value (odd 53 false (digits b) k 1074) _ _ (pow_pos 1074) (odd_sign 53 false (digits b) k 1074))

-- the exponent's field 0
pub subnormal : (b : ℕ) → b < lead → whole_of b ≡ exactly b (2 ^ 1074)
unfolding of_fields
subnormal b h =
    plain b (omega arith)
    ∙ simp (div-eq_of_lt h, mod-eq_of_lt h) (value (odd 53 false b 0 1074) _ _ (pow_pos 1074) (odd_sign 53 false b 0 1074) ∙ simp mul-one)

-- ---- no number

-- a field of all ones: an infinity or not a number
endless : (s t : Bool) → whole_float (cond t (inf s) nan) ≡ None
unfolding whole_float
endless s true = refl
endless s false = refl

pub all_ones : (b : ℕ) → exponent b ≡ 2047 → whole_of b ≡ None
unfolding of_fields
all_ones b e = plain b (omega arith) ∙ simp e (endless false (eqb (b % lead) 0))

-- ---- the sign bit set

negative : (x : Float) (a c : ℕ) → HasValue x true a c → whole_float x ≡ None
unfolding whole_float
negative nan a c h = absurd h
negative (inf s) a c h = absurd h
negative (fin true m e) a c h = refl
negative (fin false m e) a c h = absurd (true≢false (sym h.0))

signed : (x t : ℕ) → whole_float (of_fields binary64 true x t) ≡ None
unfolding of_fields
signed zero t = negative _ _ _ (odd_sign 53 true t 0 1074)
signed (suc k) t = go (eqb (suc k) 2047)
  where
    go : (a : Bool) → whole_float (cond a (cond (eqb t 0) (inf true) nan) (odd 53 true (lead + t) k 1074)) ≡ None
    go true = endless true (eqb t 0)
    go false = negative _ _ _ (odd_sign 53 true (lead + t) k 1074)

pub minus : (b : ℕ) → 2048 ≤ exponent b → whole_of b ≡ None
unfolding whole_of of_bits
minus b h = simp (le-leb 9223372036854775808 b (omega arith)) (signed (b % 9223372036854775808 / lead) (b % lead))
