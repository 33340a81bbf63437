-- Down from the top: what a loop has passed, and where it stops.
use Prim.Native.Nat.{ℕ, ◌+◌, ◌-◌, ◌≤◌, ◌<◌, max}
use mathlib.Core.Path.{◌≡◌, sym, ◌∙◌, ap, subst}
use mathlib.Core.Bool.{Bool, true, false}
use mathlib.Core.List.{List}
use native.Mathlib.Omega.{arith}
use Rattle.paper.specs.declared.sizes.Sizes.{Sizes}
use Rattle.paper.specs.declared.sizes.Run.{Run}
use Rattle.paper.specs.Sizes.{capacity_of}
use Rattle.paper.specs.Index.{run_of, empty, Full}
use Rattle.paper.specs.Store.{highest}
use Rattle.paper.proofs.Opening.{empty-facts, full-facts}
use Rattle.paper.proofs.Used.{highest-below, highest-is}
use Rattle.entries.specs.Row.{Stated, Bare}
use Rattle.entries.proofs.Judging.{bare-more}

module _ {f : List ℕ} {z : Sizes} where
  pub eight-down : {i top : ℕ} → 8 ≤ i → Bare f z i top → Bare f z (i - 8) (i - 8 + 8) → Bare f z (i - 8) top
  eight-down {i} {top} h a b = let e : i - 8 + 8 ≡ i = omega arith in bare-more f z (i - 8) i top (subst (Bare f z (i - 8)) e b) a

  -- a slot that was looked at and is empty
  pub one_down : {i top : ℕ} (a : Run) (b : Bool) → 1 ≤ i → Bare f z i top → Stated f z i a → b ≡ empty a → b ≡ true → Bare f z (i - 1) top
  one_down {i} {top} a b h p t e q =
      let n : (run_of f z i).first + (run_of f z i).last ≡ 0 = empty-facts (run_of f z i) (ap empty (sym t.is) ∙ sym e ∙ q) in
      bare-more f z (i - 1) i top (record { low = omega arith; empty = λ s l m. let k : s ≡ i = omega arith in rw k n }) p

  -- and one that is not
  pub here : {i s : ℕ} (a : Run) (b : Bool) → s < i → i ≤ capacity_of z → Bare f z i (capacity_of z) → Stated f z i a → b ≡ empty a → b ≡ false
      → i ≡ max (highest f z) s
  here {i} {s} a b h k p t e q =
      let n : Full (run_of f z i) = full-facts (run_of f z i) (ap empty (sym t.is) ∙ sym e ∙ q) in
      let top : highest f z ≡ i = highest-is f z i k (λ x. n) (λ r l m. p.empty r l m) in
      omega arith

  -- none is above s
  pub nowhere : {i s : ℕ} → i ≤ s → Bare f z i (capacity_of z) → s ≡ max (highest f z) s
  nowhere {i} {s} h p = omega (arith, highest-below f z i (λ r l m. p.empty r l m))
