-- 19: what each test of the code says of the file, and each answer as the definition's.
use Prim.Native.Nat.{ℕ, ◌+◌, ◌≤◌}
use mathlib.Core.Path.{◌≡◌, refl, sym, ◌∙◌, ap}
use mathlib.Core.Bool.{Bool, true, false, not}
use mathlib.Core.List.{List, [], ◌∷◌}
use mathlib.Core.Logic.{⊎_elim}
use native.Mathlib.Omega.{arith}
use borrow.Author.Tests.{le-ltb, lt-ltb}
use lib.Dec.{ltb}
use Rattle.lent.specs.Lists.{all}
use Rattle.lent.specs.Least.{least}
use Rattle.lent.specs.Number.{be16}
use Rattle.lent.specs.Checks.{Check, check, Fired, clear, fires, fired}
use Rattle.lent.proofs.Lists.{lt-or-ge, true≢false, not_so, also-unit}
use Rattle.lent.proofs.Leasts.{none-test, test-none}
use Rattle.paper.specs.declared.sizes.Sizes.{Sizes}
use Rattle.paper.specs.declared.sizes.Run.{Run}
use Rattle.paper.specs.declared.refusal.Refusal.{Refusal}
use Rattle.paper.specs.declared.refusal.Refusal.TheVariants.{NotConvertible}
use Rattle.paper.specs.Sizes.{home_of}
use Rattle.paper.specs.Index.{run_of, empty, Full, Lies, Sound}
use Rattle.paper.specs.Entry.{version_one}
use Rattle.paper.specs.Convert.{other_magic, narrow_tests, wide_run, form_checks, Sayable}
use Rattle.paper.proofs.Forms.{one-facts}
use Rattle.paper.proofs.Converting.{magic-facts, facts-magic, narrow-facts, facts-narrow, form-facts, facts-form}
use Rattle.convert.specs.Going.{is_clear, fits_form}

-- ---- one slot

-- its run was read and tried
pub wide_read : (run : ℕ → Run) (s : ℕ) (a : Run) (b t : Bool) → a ≡ run s → b ≡ all (narrow_tests a) → not b ≡ t → wide_run run s ≡ t
unfolding wide_run
wide_read run s a b t e q h = ap (λ (r : Run). not (all (narrow_tests r))) (sym e) ∙ ap not (sym q) ∙ h

-- its magic was read
module _ (f : List ℕ) (z : Sizes) (s at x : ℕ) (home : at ≡ home_of z s) (magic : x ≡ be16 f (at + 4)) where
  magic-is : x ≡ be16 f (home_of z s + 4)
  magic-is = magic ∙ ap (λ (k : ℕ). be16 f (k + 4)) home

  pub magic-two : x ≡ 2 → false ≡ other_magic f z s
  magic-two e = sym (facts-magic f z s (λ full v. sym magic-is ∙ e))

  pub magic-other : z.version ≡ 0 → (x ≡ 2 → ⊥) → (a : Run) (b : Bool) → a ≡ run_of f z s → b ≡ empty a → not b ≡ other_magic f z s
  unfolding other_magic
  magic-other v n a b e q =
      let o : version_one z.version f (home_of z s) ≡ false = not_so (λ t. n (magic-is ∙ one-facts z.version f (home_of z s) t v)) in
      rw o (ap not q ∙ ap (λ (r : Run). not (empty r)) e ∙ sym (also-unit _))

-- ---- all slots

-- what a loop over them found, as the test that there is one
pub some-found : (n i : ℕ) → n ≡ i + 1 → true ≡ ltb 0 n
some-found n i e = sym (lt-ltb 0 n (omega arith))

pub none-found : (n : ℕ) → n ≡ 0 → false ≡ ltb 0 n
none-found n e = sym (le-ltb 0 n (omega arith))

-- a run that is empty or ends in the data section
lies-narrow : (z : Sizes) (r : Run) → z.n + z.d ≤ 32767 → Lies z r → (r.first ≤ 32767) × (r.last ≤ 32767)
lies-narrow z r h l =
    ⊎_elim (λ (k : Full r). (omega (arith, l.order k, l.high), omega (arith, l.high))) (λ (k : r.first + r.last ≤ 0). (omega arith, omega arith))
    (lt-or-ge 0 (r.first + r.last))

pub none-wide : (f : List ℕ) (z : Sizes) → Sound f z → z.n + z.d ≤ 32767 → false ≡ ltb 0 (least (wide_run (run_of f z)) z.u)
none-wide f z S h =
    sym (none-test (wide_run (run_of f z)) z.u (λ s a b t. true≢false t (facts-narrow (run_of f z) s (lies-narrow z (run_of f z s) h (S.laid.inside s a b)))))

pub version-small : (f : List ℕ) (z : Sizes) → Sound f z → z.version ≤ 1
version-small f z S = let e = ap (λ (y : Sizes). y.version) S.booted.reads in omega (arith, S.booted.version)

-- ---- the tests as one

-- every check of the list refuses with r
abbrev Only : Refusal → List (Check Refusal) → Type 0
Only r [] = Unit
Only r (check t q ∷ cs) = (q ≡ r) × Only r cs

only-fires : (r : Refusal) (cs : List (Check Refusal)) → Only r cs → is_clear (fired cs) ≡ false → fired cs ≡ fires r
only-fires r [] h e = absurd (true≢false refl e)
only-fires r (check true q ∷ cs) h e = ap fires h.0
only-fires r (check false q ∷ cs) h e = only-fires r cs h.1 e

clear-is : (x : Fired Refusal) → is_clear x ≡ true → x ≡ clear
clear-is clear e = refl
clear-is (fires r) e = absurd (true≢false e refl)

module _ (v : ℕ) (f : List ℕ) (z : Sizes) where
  pub fits-clear : fits_form v f z ≡ true → fired (form_checks v f z) ≡ clear
  unfolding fits_form
  fits-clear e = clear-is (fired (form_checks v f z)) e

  pub fits-fires : fits_form v f z ≡ false → fired (form_checks v f z) ≡ fires NotConvertible
  unfolding fits_form
  fits-fires e = only-fires NotConvertible (form_checks v f z) (refl, (refl, (refl, (refl, (refl, (refl, tt)))))) e

  -- a file that can be said in the form, and one that cannot
  pub form-yes : (z.version ≡ v → ⊥) → Sayable v f z → true ≡ fits_form v f z
  unfolding fits_form
  form-yes o S = sym (ap is_clear (facts-form v f z o S))

  pub form-no : Sound f z → ((z.version ≡ v → ⊥) → Sayable v f z → ⊥) → false ≡ fits_form v f z
  form-no S h =
      sym (not_so (λ e. let p = form-facts v f z S.booted.ranged.known (fits-clear e) in h p.0 p.1))

-- ---- going old

module _ (f : List ℕ) (z : Sizes) (S : Sound f z) (b : Bool) (test : b ≡ ltb 0 (least (wide_run (run_of f z)) z.u)) where
  pub old-wide : b ≡ true → false ≡ fits_form 0 f z
  old-wide e =
      form-no 0 f z S
      (λ o A. true≢false (sym test ∙ e) (none-test (wide_run (run_of f z)) z.u (λ s l h t. true≢false t (facts-narrow (run_of f z) s (A.narrow refl s l h)))))

  pub old-fits : z.version ≡ 1 → z.kind ≡ 0 → z.d ≤ 32767 → z.counter ≤ 65535 → b ≡ false → true ≡ fits_form 0 f z
  old-fits v k d n e =
      form-yes 0 f z (λ h. omega arith)
      (record {
        data_type = k;
        magics = λ s l h full w. absurd (omega arith);
        few = λ h. d;
        counted = λ h. n;
        narrow = λ w s l h. narrow-facts (run_of f z) s (not_so (test-none (wide_run (run_of f z)) z.u (sym test ∙ e) s l h));
      })

pub old-told : (f : List ℕ) (z : Sizes) → Sound f z → (b : Bool) → b ≡ ltb 0 (least (wide_run (run_of f z)) z.u) → z.version ≡ 1 → z.kind ≡ 0
    → z.d ≤ 32767 → z.counter ≤ 65535 → not b ≡ fits_form 0 f z
old-told f z S true q v k d n = old-wide f z S true q refl
old-told f z S false q v k d n = old-fits f z S false q v k d n refl

-- ---- going to the current form

module _ (f : List ℕ) (z : Sizes) (S : Sound f z) (b : Bool) (test : b ≡ ltb 0 (least (other_magic f z) z.u)) where
  pub current-other : b ≡ true → false ≡ fits_form 1 f z
  current-other h =
      form-no 1 f z S
      (λ o A.
      let e = none-test (other_magic f z) z.u (λ s l m t. true≢false t (facts-magic f z s (A.magics s l m))) in
      true≢false (sym test ∙ h) e)

  current-yes : z.version ≡ 0 → z.kind ≡ 0 → b ≡ false → true ≡ fits_form 1 f z
  current-yes v t e =
      form-yes 1 f z (λ h. omega arith)
      (record {
        data_type = t;
        magics = λ s l h. magic-facts f z s (not_so (test-none (other_magic f z) z.u (sym test ∙ e) s l h));
        few = λ h. absurd (omega arith);
        counted = λ h. absurd (omega arith);
        narrow = λ h. absurd (omega arith);
      })

pub current-fits : (f : List ℕ) (z : Sizes) → Sound f z → (b : Bool) → b ≡ ltb 0 (least (other_magic f z) z.u) → z.version ≡ 0 → z.kind ≡ 0
    → not b ≡ fits_form 1 f z
current-fits f z S true q v t = current-other f z S true q refl
current-fits f z S false q v t = current-yes f z S false q v t refl
