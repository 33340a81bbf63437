-- The highest slot with a scan: what it says of the entries, and that it rests on their runs alone.
use Prim.Native.Nat.{ℕ, ◌+◌, ◌≤◌, ◌<◌}
use mathlib.Core.Path.{◌≡◌, ap}
use mathlib.Core.Bool.{not}
use mathlib.Core.List.{List}
use mathlib.Core.Logic.{⊎_elim}
use native.Mathlib.Omega.{arith}
use borrow.Author.Tests.{not-true, not-false}
use Rattle.lent.specs.Greatest.{Highest}
use Rattle.lent.proofs.Lists.{lt-or-ge}
use Rattle.lent.proofs.Greatests.{greatest-highest, highest-greatest, greatest-same}
use Rattle.paper.specs.declared.sizes.Sizes.{Sizes}
use Rattle.paper.specs.declared.sizes.Run.{Run}
use Rattle.paper.specs.Sizes.{capacity_of}
use Rattle.paper.specs.Index.{run_of, empty, Full}
use Rattle.paper.specs.Store.{highest}
use Rattle.paper.proofs.Opening.{empty-facts, facts-empty, full-facts, facts-full}
use Rattle.paper.proofs.Frame.{Kept}

module _ (f : List ℕ) (z : Sizes) where
  here : Highest (λ s. not (empty (run_of f z s))) (capacity_of z) (highest f z)
  here = greatest-highest (λ s. not (empty (run_of f z s))) (capacity_of z)

  pub highest-le : highest f z ≤ capacity_of z
  highest-le = here.high

  -- it has a scan
  pub highest-full : 0 < highest f z → Full (run_of f z (highest f z))
  highest-full h = full-facts (run_of f z (highest f z)) (not-true _ (here.takes h))

  -- and no slot above it has
  pub highest-above : (s : ℕ) → highest f z < s → s ≤ capacity_of z → (run_of f z s).first + (run_of f z s).last ≡ 0
  highest-above s a b = empty-facts (run_of f z s) (not-false _ (here.above s a b))

  pub full-highest : (s : ℕ) → s ≤ capacity_of z → Full (run_of f z s) → s ≤ highest f z
  full-highest s b h = ⊎_elim (λ (l : highest f z < s). absurd (omega (arith, highest-above s l b))) (λ (l : s ≤ highest f z). l) (lt-or-ge (highest f z) s)

  pub highest-below : (k : ℕ) → ((s : ℕ) → k < s → s ≤ capacity_of z → (run_of f z s).first + (run_of f z s).last ≡ 0) → highest f z ≤ k
  highest-below k over =
      ⊎_elim (λ (l : k < highest f z). absurd (omega (arith, highest-full (omega arith), over (highest f z) l highest-le))) (λ (l : highest f z ≤ k). l)
      (lt-or-ge k (highest f z))

  -- that fixes it
  pub highest-is : (k : ℕ) → k ≤ capacity_of z → (0 < k → Full (run_of f z k)) → ((s : ℕ) → k < s → s ≤ capacity_of z → (run_of f z s).first + (run_of f z s).last ≡ 0)
      → highest f z ≡ k
  highest-is k h full over =
      highest-greatest
      (record { high = h; takes = λ p. ap not (facts-full (run_of f z k) (full p)); above = λ s a b. ap not (facts-empty (run_of f z s) (over s a b)) })

-- a file that shows the same
pub highest-kept : {z : Sizes} {f g : List ℕ} → Kept z f g → highest g z ≡ highest f z
highest-kept {z} {f} {g} k =
    greatest-same (λ s. not (empty (run_of g z s))) (λ s. not (empty (run_of f z s))) (capacity_of z) (λ s a b. ap (λ (r : Run). not (empty r)) (k.runs s a b))
