-- The reader meets the classes 1 to the count, each once and in order, and then stays behind the last.
use Prim.Native.Nat.{ℕ, zero, suc, ◌+◌, ◌≤◌, ◌<◌}
use mathlib.Core.Path.{◌≡◌, refl, ◌∙◌, ap}
use mathlib.Core.List.{List}
use native.Mathlib.Omega.{arith}
use borrow.Author.Tests.{le-leb, lt-leb}
use Rattle.paper.specs.Scan.{classes_of}
use Rattle.classes.specs.Walk.{next_of, reached_by}

pub next_one : (s : List ℕ) (number : ℕ) → number ≤ classes_of s → next_of s number ≡ number + 1
unfolding next_of
next_one s number h = rw (le-leb number (classes_of s) h)

pub next-stays : (s : List ℕ) (number : ℕ) → classes_of s < number → next_of s number ≡ number
unfolding next_of
next-stays s number h = rw (lt-leb number (classes_of s) h)

pub in_order : (s : List ℕ) (k : ℕ) → k ≤ classes_of s → reached_by s k ≡ k + 1
unfolding reached_by
in_order s zero h = refl
in_order s (suc k) h = ap (next_of s) (in_order s k (omega arith)) ∙ next_one s (k + 1) (omega arith) ∙ omega arith

pub stays-behind : (s : List ℕ) (k : ℕ) → reached_by s (classes_of s + k) ≡ classes_of s + 1
unfolding reached_by
stays-behind s zero = let e : classes_of s + 0 ≡ classes_of s = omega arith in rw e (in_order s (classes_of s) (omega arith))
stays-behind s (suc k) =
    let e : classes_of s + suc k ≡ suc (classes_of s + k) = omega arith in
    rw e (ap (next_of s) (stays-behind s k) ∙ next-stays s (classes_of s + 1) (omega arith))
