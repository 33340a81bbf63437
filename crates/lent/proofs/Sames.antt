-- The laws of the test whether two runs are the same.
use Rattle.std.proofs.Common.{◌≡◌, ℕ, ◌+◌, ◌-◌, ◌<◌, ◌≤◌, Bool, true, false, eqb, List, [], ◌∷◌, ◌++◌, length, get_or, take, drop, sym, refl, ap, ◌∙◌, suc-ne-zero, add-one, arith, length-drop, take-append-drop, drop_of_length-le, length-take-le, take_all, drop-cons, eq-eqb, ne_eqb, eqb-true}
use native.Mathlib.Nat.{suc_inj}
use lib.Bits.{bit_or, or_zero_l, or_add_and, and_le_r}
use borrow.Author.Tests.{eqb-false}
use Rattle.lent.specs.Lists.{also}
use Rattle.lent.specs.Part.{part}
use Rattle.lent.specs.Same.{same}
use Rattle.lent.specs.Write.{zeros, pad}
use Rattle.lent.proofs.Lists.{also-true, also-assoc, not_so}
use Rattle.lent.proofs.Writes.{length-zeros, get_or-zeros, length-pad}

pub same_refl : (a : List ℕ) → same a a ≡ true
unfolding same
same_refl [] = refl
same_refl (x ∷ xs) = rw (eq-eqb x x refl) (same_refl xs)

pub true_same : {a b : List ℕ} → a ≡ b → same a b ≡ true
true_same {a} {b} e = rw e (same_refl b)

pub same_true : (a b : List ℕ) → same a b ≡ true → a ≡ b
unfolding same
same_true [] [] e = refl
same_true [] (y ∷ ys) e = cc
same_true (x ∷ xs) [] e = cc
same_true (x ∷ xs) (y ∷ ys) e =
    let p = also-true (eqb x y) (same xs ys) e in
    let h : x ≡ y = eqb-true x y p.0 in
    let t : xs ≡ ys = same_true xs ys p.1 in
    cc

pub not_same : {a b : List ℕ} → (a ≡ b → ⊥) → same a b ≡ false
not_same {a} {b} h = not_so (λ e. h (same_true a b e))

-- what a loop that compares asks: a turn, the turn that finds a difference, and the end
pub same_step : (a b : List ℕ) (i : ℕ) → i < length a → i < length b → get_or a i 0 ≡ get_or b i 0
    → same (drop i a) (drop i b) ≡ same (drop (i + 1) a) (drop (i + 1) b)
unfolding same
same_step a b i h k e = rw (add-one, drop-cons a i 0 h, drop-cons b i 0 k, eq-eqb (get_or a i 0) (get_or b i 0) e)

pub same_stop : (a b : List ℕ) (i : ℕ) → i < length a → i < length b → (get_or a i 0 ≡ get_or b i 0 → ⊥) → same (drop i a) (drop i b) ≡ false
unfolding same
same_stop a b i h k e = rw (drop-cons a i 0 h, drop-cons b i 0 k, ne_eqb (get_or a i 0) (get_or b i 0) e)

pub same_end : (a b : List ℕ) (i : ℕ) → length a ≤ i → length b ≤ i → same (drop i a) (drop i b) ≡ true
unfolding same
same_end a b i h k = rw (drop_of_length-le a h, drop_of_length-le b k)

-- runs of other lengths
pub same-long : (a b : List ℕ) → (length a ≡ length b → ⊥) → same a b ≡ false
same-long a b h = not_same (λ e. h (ap length e))

-- compared in two parts
pub same-append : (a b c d : List ℕ) → length a ≡ length c → same (a ++ b) (c ++ d) ≡ also (same a c) (same b d)
unfolding same
same-append [] b [] d e = refl
same-append [] b (y ∷ ys) d e = absurd (suc-ne-zero (length ys) (sym e))
same-append (x ∷ xs) b [] d e = absurd (suc-ne-zero (length xs) e)
same-append (x ∷ xs) b (y ∷ ys) d e = rw (same-append xs b ys d (suc_inj e)) (also-assoc (eqb x y) (same xs ys) (same b d))

-- a run against one that is padded: its length, and then what is to stand there and the zeros
pub same-pad-long : (a : List ℕ) (n : ℕ) (xs : List ℕ) → length xs ≤ n → (length a ≡ n → ⊥) → same a (pad n xs) ≡ false
same-pad-long a n xs h k = same-long a (pad n xs) (λ e. k (e ∙ length-pad n xs h))

pub same-pad : (a : List ℕ) (n : ℕ) (xs : List ℕ) → length xs ≤ n → length a ≡ n
    → same a (pad n xs) ≡ also (same (take (length xs) a) xs) (same (part (length xs) (length a) a) (zeros (length (part (length xs) (length a) a))))
unfolding pad
same-pad a n xs h e =
    let k = length xs in
    let t : part k (length a) a ≡ drop k a = take_all (length a - k) (drop k a) (simp length-drop (omega arith)) in
    let l : length (drop k a) ≡ n - k = simp length-drop (omega arith) in
    ap (λ (r : List ℕ). same r (xs ++ zeros (n - k))) (sym (take-append-drop k a))
    ∙ same-append (take k a) (drop k a) xs (zeros (n - k)) (length-take-le k a (omega arith))
    ∙ rw (t, l) refl

-- ---- zeros, by joining the bytes: the join is 0 and what is left is zeros

or-zero : (a b : ℕ) → also (eqb a 0) (eqb b 0) ≡ eqb (bit_or a b) 0
or-zero a b = go (eqb a 0) refl
  where
    go : (t : Bool) → eqb a 0 ≡ t → also t (eqb b 0) ≡ eqb (bit_or a b) 0
    go true e = rw (eqb-true a 0 e, or_zero_l b)
    go false e = sym (ne_eqb (bit_or a b) 0 (λ q. eqb-false a 0 e (omega (arith, or_add_and a b, and_le_r a b))))

-- the bytes from byte i on
abbrev pub zeros_from : List ℕ → ℕ → Bool
zeros_from a i = same (drop i a) (drop i (zeros (length a)))

pub zeros-step : (a : List ℕ) (m i : ℕ) → i < length a → also (eqb m 0) (zeros_from a i) ≡ also (eqb (bit_or m (get_or a i 0)) 0) (zeros_from a (i + 1))
unfolding same
zeros-step a m i h =
    rw (
      add-one,
      drop-cons a i 0 h,
      drop-cons (zeros (length a)) i 0 (omega (arith, length-zeros (length a))),
      get_or-zeros (length a) i,
      ← or-zero m (get_or a i 0),
    ) (also-assoc (eqb m 0) _ _)
