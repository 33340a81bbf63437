-- The laws of `greatest`: what it says in plain ∀ facts, both ways.
use Rattle.std.proofs.Common.{◌≡◌, ℕ, zero, suc, ◌<◌, ◌≤◌, Bool, true, false, cond, refl, ap, ◌∙◌, ⊎_elim, arith}
use Rattle.lent.specs.Greatest.{greatest, Highest}
use Rattle.lent.proofs.Lists.{lt-or-ge, true≢false}

pub greatest-highest : (p : ℕ → Bool) (n : ℕ) → Highest p n (greatest p n)
unfolding greatest
greatest-highest p zero = record { high = omega arith; takes = λ h. absurd (omega arith); above = λ s a b. absurd (omega arith) }
greatest-highest p (suc n) = go (p (suc n)) refl (greatest-highest p n)
  where
    go : (t : Bool) → p (suc n) ≡ t → Highest p n (greatest p n) → Highest p (suc n) (cond t (suc n) (greatest p n))
    go true e h = record { high = omega arith; takes = λ k. e; above = λ s a b. absurd (omega arith) }
    go false e h =
        record {
          high = omega (arith, h.high);
          takes = h.takes;
          above = λ s a b.
              ⊎_elim (λ (k : n < s). let q : s ≡ suc n = omega arith in ap p q ∙ e) (λ (k : s ≤ n). h.above s a k) (lt-or-ge n s);
        }

-- one of two is not above the other
not-above : {p : ℕ → Bool} {n j k : ℕ} → Highest p n j → Highest p n k → j < k → ⊥
not-above {p} {n} {j} {k} a b h = true≢false (b.takes (omega arith)) (a.above k h b.high)

pub highest-greatest : {p : ℕ → Bool} {n k : ℕ} → Highest p n k → greatest p n ≡ k
highest-greatest {p} {n} {k} h =
    let g : Highest p n (greatest p n) = greatest-highest p n in
    ⊎_elim (λ (l : greatest p n < k). absurd (not-above g h l))
    (λ (l : k ≤ greatest p n). ⊎_elim (λ (m : k < greatest p n). absurd (not-above h g m)) (λ (m : greatest p n ≤ k). omega arith) (lt-or-ge k (greatest p n)))
    (lt-or-ge (greatest p n) k)

-- tests that agree on 1 to n
pub greatest-same : (p q : ℕ → Bool) (n : ℕ) → ((s : ℕ) → 1 ≤ s → s ≤ n → p s ≡ q s) → greatest p n ≡ greatest q n
greatest-same p q n e =
    let h : Highest q n (greatest q n) = greatest-highest q n in
    highest-greatest (record { high = h.high; takes = λ k. e _ (omega arith) h.high ∙ h.takes k; above = λ s a b. e s (omega arith) b ∙ h.above s a b })
