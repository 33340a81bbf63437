-- The answers of a conversion, check by check, and what it leaves in the second buffer.
use Rattle.std.specs.Prelude.{Ok, Err}
use Prim.Native.Nat.{ℕ, ◌*◌, ◌≤◌, ◌<◌}
use mathlib.Core.Path.{◌≡◌, sym, ◌∙◌, ap}
use mathlib.Core.Bool.{true, false}
use mathlib.Core.List.{List, ◌∷◌}
use borrow.Author.Tests.{lt-ltb, le-ltb}
use lib.ListN.{length}
use Rattle.lent.specs.Checks.{fires, fired}
use Rattle.lent.specs.Write.{write}
use Rattle.lent.proofs.Checks.{fires-here, judge-fires}
use Rattle.paper.specs.declared.sizes.Sizes.{Sizes}
use Rattle.paper.specs.declared.refusal.Refusal.{Refusal}
use Rattle.paper.specs.declared.refusal.Refusal.TheVariants.{TooSmall, NotConvertible}
use Rattle.paper.specs.Answers.{Taken}
use Rattle.paper.specs.Sizes.{sizes_of}
use Rattle.paper.specs.Index.{open_of, Sound}
use Rattle.paper.specs.Convert.{carried_at, records_as, too-small, form_checks, convert_checks, convert_of, converted_out, Convertible}
use Rattle.paper.proofs.Opening.{open-reads, open-sound, then-refused, then-opens}
use Rattle.paper.proofs.Converting.{form-facts, taken-convert, taken_out}
use Rattle.convert.specs.Going.{fits_form}
use Rattle.convert.proofs.Fitting.{fits-clear, fits-fires}

-- no check fires
pub convertible : (v : ℕ) (f out : List ℕ) (z : Sizes) → open_of f ≡ Ok z → z.n * z.l ≤ length out → fits_form v f z ≡ true → Convertible v f out z
convertible v f out z opens h e =
    let S : Sound f z = open-sound opens in
    let q = form-facts v f z S.booted.ranged.known (fits-clear v f z e) in
    record { sound = S; room = h; other = q.0; sayable = q.1 }

module _ (v : ℕ) (f out : List ℕ) (r : Taken) (g : List ℕ) where
  -- a check fires
  refused : (q : Refusal) → fired (convert_checks v f out) ≡ fires q → r ≡ Err q → g ≡ out → (r ≡ convert_of v f out) × (g ≡ converted_out v f out)
  unfolding convert_of converted_out
  refused q e p h = (
    p ∙ sym (judge-fires Err (convert_checks v f out) (Ok tt) q e),
    h ∙ sym (judge-fires (λ (x : Refusal). out) (convert_checks v f out) _ q e),
  )

  -- open's own
  pub not_opened : (q : Refusal) → open_of f ≡ Err q → r ≡ Err q → g ≡ out → (r ≡ convert_of v f out) × (g ≡ converted_out v f out)
  not_opened q o = refused q (then-refused f (too-small out (sizes_of f) ∷ form_checks v f (sizes_of f)) o)

  module _ (z : Sizes) (opens : open_of f ≡ Ok z) where
    checks-left : fired (convert_checks v f out) ≡ fired (too-small out z ∷ form_checks v f z)
    checks-left =
        then-opens f (too-small out (sizes_of f) ∷ form_checks v f (sizes_of f)) opens
        ∙ ap (λ (y : Sizes). fired (too-small out y ∷ form_checks v f y)) (open-reads f opens)

    -- 17
    pub too_small : length out < z.n * z.l → r ≡ Err TooSmall → g ≡ out → (r ≡ convert_of v f out) × (g ≡ converted_out v f out)
    too_small h = refused TooSmall (checks-left ∙ fires-here _ TooSmall (form_checks v f z) (lt-ltb (length out) (z.n * z.l) h))

    -- 19
    pub not-sayable : z.n * z.l ≤ length out → fits_form v f z ≡ false → r ≡ Err NotConvertible → g ≡ out
        → (r ≡ convert_of v f out) × (g ≡ converted_out v f out)
    not-sayable h e = refused NotConvertible (checks-left ∙ rw (le-ltb (length out) (z.n * z.l) h) (fits-fires v f z e))

    -- none
    pub accepted : z.n * z.l ≤ length out → fits_form v f z ≡ true → r ≡ Ok tt → g ≡ write out 0 (records_as v z (carried_at f z))
        → (r ≡ convert_of v f out) × (g ≡ converted_out v f out)
    accepted h e p q = let C = convertible v f out z opens h e in (p ∙ sym (taken-convert v f out C), q ∙ sym (taken_out v f out C))
