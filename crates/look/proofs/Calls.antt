-- A call that judges the file first: its own checks then decide, over the sizes that the file opened with.
use Rattle.std.specs.Prelude.{Ok, Err}
use Prim.Native.Nat.{ℕ}
use mathlib.Core.Path.{◌≡◌, refl, sym, ◌∙◌, ap, subst}
use mathlib.Core.List.{List, ◌++◌}
use Rattle.lent.specs.Checks.{Check, answer, judge}
use Rattle.lent.proofs.Checks.{judge-fires}
use Rattle.paper.specs.declared.sizes.Sizes.{Sizes}
use Rattle.paper.specs.declared.refusal.Refusal.{Refusal}
use Rattle.paper.specs.Sizes.{sizes_of}
use Rattle.paper.specs.Index.{open_checks, open_of}
use Rattle.paper.proofs.Opening.{then-opens, then-refused, open-reads}

module _ (f : List ℕ) {A : Type 0} (refuse : Refusal → A) (own : Sizes → List (Check Refusal)) (a : Sizes → A) where
  abbrev pub called : A
  called = judge refuse (open_checks f ++ own (sizes_of f)) (a (sizes_of f))

  pub call_opens : {z : Sizes} → open_of f ≡ Ok z → called ≡ judge refuse (own z) (a z)
  call_opens o =
      ap (answer refuse (a (sizes_of f))) (then-opens f (own (sizes_of f)) o)
      ∙ subst (λ (y : Sizes). judge refuse (own (sizes_of f)) (a (sizes_of f)) ≡ judge refuse (own y) (a y)) (open-reads f o) refl

  pub call-refused : {r : Refusal} → open_of f ≡ Err r → refuse r ≡ called
  call-refused {r} o = sym (judge-fires refuse (open_checks f ++ own (sizes_of f)) (a (sizes_of f)) r (then-refused f (own (sizes_of f)) o))
