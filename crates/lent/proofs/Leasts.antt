-- The laws of `least`: what it says in plain ∀ facts, both ways, and what a loop over 1 to n keeps.
use Rattle.std.proofs.Common.{◌≡◌, ℕ, zero, suc, ◌+◌, ◌<◌, ◌≤◌, Bool, true, false, ltb, refl, add-one, arith, ltb-false, le-ltb}
use native.Mathlib.Decide.{dec_le}
use Rattle.lent.specs.Least.{or_else, least, None, Lowest}
use Rattle.lent.proofs.Lists.{true≢false, not_so}

-- s is at most n or is n + 1
top : (P : ℕ → Type 0) (n s : ℕ) → s ≤ suc n → (s ≤ n → P s) → P (suc n) → P s
top P n s h f e = pick (dec_le s n)
  where
    pick : Dec (s ≤ n) → P s
    pick (yes l) = f l
    pick (no m) = let q : suc n ≡ s = omega arith in rw (← q) e

pub none-zero : (p : ℕ → Bool) → None p 0
none-zero p = record { none = λ s a b. absurd (omega arith) }

pub none-suc : {p : ℕ → Bool} {n : ℕ} → None p n → p (suc n) ≡ false → None p (suc n)
none-suc {p} {n} h t = record { none = λ s a b. top (λ k. p k ≡ false) n s b (h.none s a) t }

-- a turn of a loop that has passed i numbers
pub none_more : {p : ℕ → Bool} {i : ℕ} → None p i → p (i + 1) ≡ false → None p (i + 1)
none_more {p} {i} h t = rw add-one (none-suc h (rw add-one at t))

lowest-more : {p : ℕ → Bool} {n k : ℕ} → Lowest p n k → Lowest p (suc n) k
lowest-more h = record { low = h.low; high = omega arith; takes = h.takes; below = h.below }

or_else-pos : (k : ℕ) (t : Bool) (n : ℕ) → 0 < k → or_else k t n ≡ k
or_else-pos zero t n h = absurd (omega arith)
or_else-pos (suc k) t n h = refl

-- `least` finds none, or finds the lowest
data View (p : ℕ → Bool) (n : ℕ) : ℕ → Type 0 where
  nothing : None p n → View p n 0
  lowest : {k : ℕ} → Lowest p n k → View p n k

view : (p : ℕ → Bool) (n : ℕ) → View p n (least p n)
unfolding least
view p zero = nothing (none-zero p)
view p (suc n) = go (least p n) (view p n) (p (suc n)) refl
  where
    go : (k : ℕ) → View p n k → (t : Bool) → p (suc n) ≡ t → View p (suc n) (or_else k t (suc n))
    go k (nothing v) true e =
        lowest {k = suc n} (record { low = omega arith; high = omega arith; takes = e; below = λ s a b. v.none s a (omega arith) })
    go k (nothing v) false e = nothing (none-suc v e)
    go k (lowest v) t e = rw (or_else-pos k t (suc n) v.low) (lowest (lowest-more v))

clash : {p : ℕ → Bool} {n k : ℕ} → None p n → Lowest p n k → ⊥
clash {p} {n} {k} h l = true≢false l.takes (h.none k l.low l.high)

lowest-le : {p : ℕ → Bool} {n j k : ℕ} → Lowest p n j → Lowest p n k → j ≤ k
lowest-le {p} {n} {j} {k} v w = go (dec_le j k)
  where
    go : Dec (j ≤ k) → j ≤ k
    go (yes h) = h
    go (no h) = absurd (true≢false w.takes (v.below k w.low (omega arith)))

-- what `least` says, both ways
pub least-none : {p : ℕ → Bool} {n : ℕ} → None p n → least p n ≡ 0
least-none {p} {n} h = go (least p n) (view p n)
  where
    go : (k : ℕ) → View p n k → k ≡ 0
    go k (nothing v) = refl
    go k (lowest v) = absurd (clash h v)

pub none-least : {p : ℕ → Bool} {n : ℕ} → least p n ≡ 0 → None p n
none-least {p} {n} h = go (least p n) h (view p n)
  where
    go : (k : ℕ) → k ≡ 0 → View p n k → None p n
    go k e (nothing v) = v
    go k e (lowest v) = absurd (let q = v.low in omega arith)

pub least-lowest : {p : ℕ → Bool} {n k : ℕ} → Lowest p n k → least p n ≡ k
least-lowest {p} {n} {k} l = go (least p n) (view p n)
  where
    go : (j : ℕ) → View p n j → j ≡ k
    go j (nothing v) = absurd (clash v l)
    go j (lowest v) = omega (arith, lowest-le v l, lowest-le l v)

pub lowest-least : {p : ℕ → Bool} {n k : ℕ} → least p n ≡ k → 0 < k → Lowest p n k
lowest-least {p} {n} {k} e h = go (least p n) e (view p n)
  where
    go : (j : ℕ) → j ≡ k → View p n j → Lowest p n k
    go j q (nothing v) = absurd (omega arith)
    go j q (lowest v) = rw (← q) v

-- a loop that has passed i numbers and stops at the next
pub least-here : {p : ℕ → Bool} {n i : ℕ} → None p i → p (i + 1) ≡ true → i < n → least p n ≡ i + 1
least-here {p} {n} {i} h t lt =
    least-lowest (record { low = omega arith; high = omega arith; takes = t; below = λ s a b. h.none s a (omega arith) })

-- what is found lies among the n
pub least-le : (p : ℕ → Bool) (n : ℕ) → least p n ≤ n
least-le p n = go (least p n) (view p n)
  where
    go : (k : ℕ) → View p n k → k ≤ n
    go k (nothing v) = omega arith
    go k (lowest v) = v.high

-- tests that agree on 1 to n
pub least-same : (p q : ℕ → Bool) (n : ℕ) → ((s : ℕ) → 0 < s → s ≤ n → p s ≡ q s) → least p n ≡ least q n
unfolding least
least-same p q zero h = refl
least-same p q (suc n) h =
    let a : least p n ≡ least q n = least-same p q n (λ s x y. h s x (omega arith)) in
    let b : p (suc n) ≡ q (suc n) = h (suc n) (omega arith) (omega arith) in
    rw (a, b)

-- a loop that has passed every number to n
pub least-end : {p : ℕ → Bool} {i n : ℕ} → None p i → n ≤ i → least p n ≡ 0
least-end h l = least-none (record { none = λ s a b. h.none s a (omega arith) })

-- none of 1 to n is taken, and the test that one is
pub none-test : (p : ℕ → Bool) (n : ℕ) → ((s : ℕ) → 1 ≤ s → s ≤ n → p s ≡ true → ⊥) → ltb 0 (least p n) ≡ false
none-test p n h = le-ltb 0 (least p n) (omega (arith, least-none {p = p} {n = n} (record { none = λ s a b. not_so (h s a b) })))

pub test-none : (p : ℕ → Bool) (n : ℕ) → ltb 0 (least p n) ≡ false → (s : ℕ) → 1 ≤ s → s ≤ n → p s ≡ true → ⊥
test-none p n e s a b t =
    let z : least p n ≡ 0 = omega (arith, ltb-false 0 (least p n) e) in
    true≢false t ((none-least z).none s a b)
