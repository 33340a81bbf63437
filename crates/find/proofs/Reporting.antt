-- Each answer of the call, and what is lent afterwards: refused by the bootstrap, refused with 17, and done.
use Rattle.std.specs.Prelude.{Ok, Err}
use Prim.Native.Nat.{ℕ, ◌*◌, ◌≤◌, ◌<◌}
use mathlib.Core.Path.{◌≡◌, refl, sym, ◌∙◌, ap}
use mathlib.Core.Bool.{Bool}
use mathlib.Core.List.{List, [], ◌∷◌}
use native.Mathlib.Omega.{arith}
use borrow.Author.Tests.{lt-ltb, le-ltb}
use lib.Dec.{ltb}
use lib.ListN.{length}
use Rattle.lent.specs.Checks.{check, clear, fires, fired}
use Rattle.lent.specs.Write.{write}
use Rattle.lent.proofs.Checks.{clear-append, fires-append, cons-clear, fires-here, judge-clear, judge-fires}
use Rattle.paper.specs.declared.sizes.Sizes.{Sizes}
use Rattle.paper.specs.declared.refusal.Refusal.{Refusal}
use Rattle.paper.specs.declared.refusal.Refusal.TheVariants.{TooSmall}
use Rattle.paper.specs.Sizes.{sizes_of, boot_checks}
use Rattle.paper.specs.Index.{boot_of, Booted}
use Rattle.paper.specs.Find.{Find, find_of, find_lines, find_checks, report_of, report_out}
use Rattle.paper.proofs.Opening.{booted-clear, boot-fires}

module _ (f out : List ℕ) where
  abbrev small : Bool
  small = ltb (length out) (3 * length (find_of f (sizes_of f)))

  -- a check that fires is the answer, and nothing is written
  refuses : {r : Refusal} → fired (find_checks f out) ≡ fires r → (Err r ≡ report_of f out) × (out ≡ report_out f out)
  unfolding report_of report_out
  refuses {r} e = (sym (judge-fires Err (find_checks f out) _ r e), sym (judge-fires (λ (r : Refusal). out) (find_checks f out) _ r e))

  pub report-refused : {r : Refusal} → boot_of f ≡ Err r → (Err r ≡ report_of f out) × (out ≡ report_out f out)
  report-refused {r} o = refuses (fires-append (boot_checks f) (check small TooSmall ∷ []) r (boot-fires f o))

  module _ {z : Sizes} (B : Booted f z) {n : ℕ} (e : n ≡ length (find_of f z)) where
    finds : find_of f (sizes_of f) ≡ find_of f z
    finds = ap (find_of f) B.reads

    pub report-small : length out < 3 * n → (Err TooSmall ≡ report_of f out) × (out ≡ report_out f out)
    report-small h =
        refuses
        (clear-append (boot_checks f) (check small TooSmall ∷ []) (booted-clear B)
        ∙ fires-here small TooSmall [] (lt-ltb (length out) (3 * length (find_of f (sizes_of f))) (omega (arith, ap length finds))))

    pub report-done : {next : List ℕ} → 3 * n ≤ length out → next ≡ write out 0 (find_lines (find_of f z)) → (Ok n ≡ report_of f out) × (next ≡ report_out f out)
    unfolding report_of report_out
    report-done h p =
        let c : fired (find_checks f out) ≡ clear =
        clear-append (boot_checks f) (check small TooSmall ∷ []) (booted-clear B)
        ∙ cons-clear small TooSmall [] (le-ltb (length out) (3 * length (find_of f (sizes_of f))) (omega (arith, ap length finds))) refl in (
          sym (judge-clear Err (find_checks f out) _ c ∙ ap (λ (xs : List Find). Ok (length xs)) finds ∙ ap Ok (sym e)),
          p ∙ sym (judge-clear (λ (r : Refusal). out) (find_checks f out) _ c ∙ ap (λ (xs : List Find). write out 0 (find_lines xs)) finds),
        )
