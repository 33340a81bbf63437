-- The highest number of 1 to n that a test takes, and 0 where there is none.
use Rattle.std.specs.Prelude.{◌≡◌, ℕ, zero, suc, ◌<◌, ◌≤◌, Bool, true, false, cond}

unfoldable pub greatest : (ℕ → Bool) → ℕ → ℕ
greatest p zero = 0
greatest p (suc n) = cond (p (suc n)) (suc n) (greatest p n)

-- k is the highest of 1 to n that is taken, or 0
pub record Highest (p : ℕ → Bool) (n k : ℕ) : Type 0 where
  pub high : k ≤ n
  pub takes : 0 < k → p k ≡ true
  pub above : (s : ℕ) → k < s → s ≤ n → p s ≡ false
