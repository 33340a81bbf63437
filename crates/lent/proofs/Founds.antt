-- A number that was found, or none: what a search answers in terms of `least`, and what such an answer says.
use Rattle.std.proofs.Common.{◌≡◌, ℕ, zero, suc, ◌+◌, ◌<◌, ◌≤◌, Bool, true, refl, ap, sym, ◌∙◌, arith}
use Rattle.std.specs.Prelude.{Some, None as Nothing}
use Rattle.lent.specs.Least.{least, some_number, None}
use Rattle.lent.proofs.Leasts.{least-here, least-end}

pub found : (n : ℕ) → 0 < n → Some n ≡ some_number n
found zero h = absurd (omega arith)
found (suc n) h = refl

pub found-none : Nothing ≡ some_number 0
found-none = refl

-- a loop that has passed i numbers and stops at the next, and one that has passed all
pub found-here : {p : ℕ → Bool} {n i : ℕ} → None p i → p (i + 1) ≡ true → i < n → Some (i + 1) ≡ some_number (least p n)
found-here h t l = found _ (omega arith) ∙ ap some_number (sym (least-here h t l))

pub found-end : {p : ℕ → Bool} {i n : ℕ} → None p i → n ≤ i → Nothing ≡ some_number (least p n)
found-end h l = ap some_number (sym (least-end h l))

-- what was answered
pub was-found : (k s : ℕ) → some_number k ≡ Some s → (s ≡ k) × (0 < s)
was-found zero s e = absurd cc
was-found (suc k) s e = let q : suc k ≡ s = cc in (omega arith, omega arith)

pub was-none : (k : ℕ) → some_number k ≡ Nothing → k ≡ 0
was-none zero e = refl
was-none (suc k) e = absurd cc
