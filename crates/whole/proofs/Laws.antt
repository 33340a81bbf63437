-- What an answer up to k says of the length itself. Assumes nothing.
use Rattle.std.specs.Prelude.{Some, None, Option}
use Prim.Native.Nat.{ℕ, ◌≤◌, ◌<◌}
use mathlib.Core.Bool.{Bool, true, false, cond, true≢false}
use mathlib.Core.Path.{◌≡◌, refl, sym, ap, subst}
use borrow.Author.Tests.{leb-true, leb-false}
use lib.Dec.{leb}
use Rattle.whole.specs.Number.{up_to}
use Rattle.whole.specs.Length.{is_whole, size_of}

pub is-whole : {n : ℕ} {w : Option ℕ} → w ≡ Some n → is_whole w ≡ true
unfolding is_whole
is-whole e = ap is_whole e

pub is-size : {n : ℕ} {w : Option ℕ} → w ≡ Some n → size_of w ≡ n
unfolding size_of
is-size e = ap size_of e

pub whole_is : (w : Option ℕ) → is_whole w ≡ true → w ≡ Some (size_of w)
unfolding is_whole size_of
whole_is (Some n) e = refl
whole_is None e = absurd (true≢false (sym e))

no_size : {n : ℕ} → None ≡ Some n → ⊥
unfolding is_whole
no_size e = true≢false (sym (is-whole e))

pub is-up-to : {k n : ℕ} {w : Option ℕ} → up_to k w ≡ Some n → (w ≡ Some n) × (n ≤ k)
unfolding up_to size_of
is-up-to {k = k} {n = n} {w = None} e = absurd (no_size e)
is-up-to {k = k} {n = n} {w = Some m} e = go (leb m k) refl e
  where
    go : (t : Bool) → leb m k ≡ t → cond t (Some m) None ≡ Some n → (Some m ≡ Some n) × (n ≤ k)
    go true q e = (e, subst (λ (x : ℕ). x ≤ k) (is-size e) (leb-true m k q))
    go false q e = absurd (no_size e)

pub not-up-to : {k : ℕ} (w : Option ℕ) → up_to k w ≡ None → is_whole w ≡ true → k < size_of w
unfolding up_to is_whole size_of
not-up-to {k = k} None e h = absurd (true≢false (sym h))
not-up-to {k = k} (Some m) e h = go (leb m k) refl e
  where
    go : (t : Bool) → leb m k ≡ t → cond t (Some m) None ≡ None → k < m
    go true q e = absurd (no_size (sym e))
    go false q e = leb-false m k q
