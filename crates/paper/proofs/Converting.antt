-- A conversion is accepted exactly under its facts, and what each refusal's test says.
use Rattle.std.specs.Prelude.{Ok, Err}
use Prim.Native.Nat.{ℕ, ◌+◌, ◌*◌, ◌≤◌}
use mathlib.Core.Path.{◌≡◌, sym, ◌∙◌, ap, subst}
use mathlib.Core.Bool.{Bool, false, not}
use mathlib.Core.List.{List, ◌∷◌}
use native.Mathlib.Omega.{arith}
use borrow.Author.Tests.{ltb-false, leb-true, eqb-true, eqb-false, le-ltb, le-leb, eq-eqb, ne_eqb, not-true, not-false}
use lib.Dec.{eqb}
use lib.ListN.{length}
use Rattle.lent.specs.Checks.{Check, clear, fired}
use Rattle.lent.specs.Number.{be16}
use Rattle.lent.specs.Write.{write}
use Rattle.lent.proofs.Lists.{All, all_true, true-all, true≢false, not_so, is-so, also-true, true-also}
use Rattle.lent.proofs.Leasts.{none-test, test-none}
use Rattle.lent.proofs.Checks.{clear-all, all-clear, clear-cons, cons-clear, judge-clear, judged-ok}
use Rattle.paper.specs.declared.sizes.Sizes.{Sizes}
use Rattle.paper.specs.declared.sizes.Run.{Run}
use Rattle.paper.specs.declared.refusal.Refusal.{Refusal}
use Rattle.paper.specs.Sizes.{sizes_of, home_of}
use Rattle.paper.specs.Index.{run_of, Full, Sound}
use Rattle.paper.specs.Convert.{carried_at, records_as, too-small, magic_tests, other_magic, narrow_tests, wide_run, going_old, form_checks, convert_checks, convert_of, converted_out, Sayable, Convertible}
use Rattle.paper.proofs.Forms.{one-facts, facts-one}
use Rattle.paper.proofs.Opening.{full-facts, facts-full, then-clear, then-opens, open-sound, sound-open}

-- ---- one cause at a time

-- slot s has magic 2, or no scan, or the file is of the current form
module _ (f : List ℕ) (z : Sizes) (s : ℕ) where
  pub magic-facts : other_magic f z s ≡ false → Full (run_of f z s) → z.version ≡ 0 → be16 f (home_of z s + 4) ≡ 2
  unfolding other_magic
  magic-facts e full =
      one-facts z.version f (home_of z s)
      (is-so (λ h. true≢false (true-all (magic_tests f z s) (ap not (facts-full (run_of f z s) full), (ap not h, tt))) e))

  pub facts-magic : (Full (run_of f z s) → z.version ≡ 0 → be16 f (home_of z s + 4) ≡ 2) → other_magic f z s ≡ false
  unfolding other_magic
  facts-magic h =
      not_so (λ e.
      let t = all_true (magic_tests f z s) e in
      true≢false (facts-one z.version f (home_of z s) (h (full-facts (run_of f z s) (not-true _ t.0)))) (not-true _ t.1.0))

-- a run that 16 bits hold
module _ (run : ℕ → Run) (s : ℕ) where
  pub narrow-facts : wide_run run s ≡ false → ((run s).first ≤ 32767) × ((run s).last ≤ 32767)
  unfolding wide_run
  narrow-facts e = let t : All (narrow_tests (run s)) = all_true (narrow_tests (run s)) (not-false _ e) in (leb-true _ _ t.0, leb-true _ _ t.1.0)

  pub facts-narrow : ((run s).first ≤ 32767) × ((run s).last ≤ 32767) → wide_run run s ≡ false
  unfolding wide_run
  facts-narrow h = ap not (true-all (narrow_tests (run s)) (le-leb _ _ h.0, (le-leb _ _ h.1, tt)))

-- asked only when going old
module _ (v : ℕ) (t : Bool) where
  pub going-facts : going_old v t ≡ false → v ≡ 0 → t ≡ false
  going-facts e h = not_so (λ k. true≢false (true-also (eqb v 0) t (eq-eqb v 0 h) k) e)

  pub facts-going : (v ≡ 0 → t ≡ false) → going_old v t ≡ false
  facts-going h = not_so (λ e. let p = also-true (eqb v 0) t e in true≢false p.1 (h (eqb-true v 0 p.0)))

-- ---- all of them

module _ (v : ℕ) (f : List ℕ) (z : Sizes) where
  pub form-facts : z.kind ≤ 1 → fired (form_checks v f z) ≡ clear → (z.version ≡ v → ⊥) × Sayable v f z
  form-facts k e =
      let c = clear-all (form_checks v f z) e in (
        eqb-false z.version v c.0,
        record {
          data_type = omega (arith, eqb-false z.kind 1 c.1.0);
          magics = λ s a b. magic-facts f z s (not_so (test-none (other_magic f z) z.u c.1.1.0 s a b));
          few = λ h. ltb-false 32767 z.d (going-facts v _ c.1.1.1.0 h);
          counted = λ h. ltb-false 65535 z.counter (going-facts v _ c.1.1.1.1.0 h);
          narrow = λ h s a b. narrow-facts (run_of f z) s (not_so (test-none (wide_run (run_of f z)) z.u (going-facts v _ c.1.1.1.1.1.0 h) s a b));
        },
      )

  pub facts-form : (z.version ≡ v → ⊥) → Sayable v f z → fired (form_checks v f z) ≡ clear
  facts-form o S =
      all-clear (form_checks v f z) (
        ne_eqb z.version v o,
        (
          ne_eqb z.kind 1 (λ h. omega (arith, S.data_type)),
          (
            none-test (other_magic f z) z.u (λ s a b t. true≢false t (facts-magic f z s (S.magics s a b))),
            (
              facts-going v _ (λ h. le-ltb 32767 z.d (S.few h)),
              (
                facts-going v _ (λ h. le-ltb 65535 z.counter (S.counted h)),
                (facts-going v _ (λ h. none-test (wide_run (run_of f z)) z.u (λ s a b t. true≢false t (facts-narrow (run_of f z) s (S.narrow h s a b)))), tt),
              ),
            ),
          ),
        ),
      )

-- ---- the call

module _ (v : ℕ) (f out : List ℕ) where
  -- what is asked after open's own
  abbrev own : List (Check Refusal)
  own = too-small out (sizes_of f) ∷ form_checks v f (sizes_of f)

  pub convert-taken : convert_of v f out ≡ Ok tt → Convertible v f out (sizes_of f)
  unfolding convert_of
  convert-taken e =
      let p = then-clear f own (judged-ok (convert_checks v f out) tt e).0 in
      let S : Sound f (sizes_of f) = open-sound p.0 in
      let c = clear-cons _ _ (form_checks v f (sizes_of f)) p.1 in
      let q = form-facts v f (sizes_of f) S.booted.ranged.known c.1 in
      record { sound = S; room = ltb-false (length out) ((sizes_of f).n * (sizes_of f).l) c.0; other = q.0; sayable = q.1 }

  clear-taken : {z : Sizes} → Convertible v f out z → fired (convert_checks v f out) ≡ clear
  clear-taken {z} C =
      then-opens f own (sound-open C.sound)
      ∙ subst (λ (y : Sizes). fired (too-small out y ∷ form_checks v f y) ≡ clear) (sym C.sound.booted.reads)
      (cons-clear _ _ (form_checks v f z) (le-ltb (length out) (z.n * z.l) C.room) (facts-form v f z C.other C.sayable))

  pub taken-convert : {z : Sizes} → Convertible v f out z → convert_of v f out ≡ Ok tt
  unfolding convert_of
  taken-convert C = judge-clear Err (convert_checks v f out) (Ok tt) (clear-taken C)

  -- what it leaves in the second buffer
  pub taken_out : {z : Sizes} → Convertible v f out z → converted_out v f out ≡ write out 0 (records_as v z (carried_at f z))
  unfolding converted_out
  taken_out {z} C =
      judge-clear (λ r. out) (convert_checks v f out) _ (clear-taken C)
      ∙ ap (λ (y : Sizes). write out 0 (records_as v y (carried_at f y))) C.sound.booted.reads
