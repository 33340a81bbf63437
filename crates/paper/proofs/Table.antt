-- 01, "Numbers to hold us to": the lines marked P, as one fact over the definitions.
use Rattle.std.specs.Prelude.{Err}
use Prim.Native.Nat.{ℕ, ◌≤◌, ◌<◌}
use mathlib.Core.Path.{◌≡◌, refl, ap}
use mathlib.Core.Bool.{false}
use mathlib.Core.List.{List, ◌∷◌, ◌++◌}
use native.Mathlib.Omega.{arith}
use lib.ListN.{length}
use borrow.Author.Tests.{lt-ltb, le-ltb}
use Rattle.lent.specs.Number.{number, value, be16, widened}
use Rattle.lent.specs.Least.{least}
use Rattle.lent.proofs.Lists.{not_so}
use Rattle.lent.proofs.Checks.{judge-fires}
use Rattle.whole.proofs.Table.{doubles}
use Rattle.paper.specs.declared.refusal.Refusal.{Refusal}
use Rattle.paper.specs.declared.refusal.Refusal.TheVariants.{TooShort, OldForm, UnknownForm, OutOfRange}
use Rattle.paper.specs.Answers.{Opened, Begun, taken_in}
use Rattle.paper.specs.Refusals.{number_of, opened_says, taken_says}
use Rattle.paper.specs.Sizes.{sizes_of, version_of, word_at, counter_of, type_of, shaped, in_range, Ranged}
use Rattle.paper.specs.Index.{empty, in_data, bad_at, above_at, shared_at, change_checks, boot_of, open_of}
use Rattle.paper.specs.Look.{no_slot}
use Rattle.paper.specs.Store.{scan_checks, save_of}
use Rattle.paper.specs.Numbers.{answered, saving, least_old, Numbers}
use Rattle.paper.proofs.Opening.{range-facts, open-refused, change-old}

-- ---- the refusals among them

module _ (f : List ℕ) where
  refuses : (r : Refusal) → boot_of f ≡ Err r → answered f ≡ number_of r
  refuses r e = ap (λ (o : Opened). (opened_says o).number) (open-refused f e)

  short : length f < 512 → answered f ≡ 1
  unfolding boot_of
  short a = refuses TooShort (simp (lt-ltb _ _ a))

  module _ (a : 512 ≤ length f) where
    old : (slot : ℕ) (scan about : List ℕ) → version_of f ≡ 0 → saving f slot scan about ≡ 2
    unfolding save_of
    old slot scan about v =
        ap (λ (b : Begun). (taken_says (taken_in b)).number)
        (judge-fires Err (change_checks f ++ (no_slot (sizes_of f) slot ∷ scan_checks f scan)) _ OldForm (change-old f (no_slot (sizes_of f) slot ∷ scan_checks f scan) a v))

    unknown : version_of f ≡ 2 → answered f ≡ 3
    unfolding boot_of
    unknown v = refuses UnknownForm (simp (le-ltb _ _ a, lt-ltb 1 (version_of f) (omega arith)))

    out : version_of f ≤ 1 → (Ranged (sizes_of f) → ⊥) → answered f ≡ 4
    unfolding boot_of
    out v h =
        let q : in_range (sizes_of f) ≡ false = not_so (λ e. h (range-facts (sizes_of f) e)) in
        refuses OutOfRange (simp (le-ltb _ _ a, le-ltb 1 (version_of f) v, q))

    minus : version_of f ≡ 0 → be16 f 2 ≡ 65535 → (sizes_of f).d ≡ 4294967295
    unfolding word_at widened
    minus v e = simp (v, e)

least-opens : answered least_old ≡ 0
unfolding number value widened word_at counter_of type_of shaped in_range least bad_at above_at shared_at empty in_data open_of
least-opens = refl

pub numbers : Numbers
numbers =
    record {
      none_lent = λ f e. short f (omega arith);
      lent_511 = λ f e. short f (omega arith);
      word_8_is_0 = λ f slot scan about a v. old f a slot scan about v;
      word_8_is_2 = λ f a v. unknown f a v;
      slots_129 = refl;
      slots_513 = refl;
      n_514 = λ f s. out f s.long s.version (λ r. omega (arith, s.n_is, r.shape.n_high));
      m_96 = λ f n s. out f s.long s.version (λ r. let d = r.shape.divides in let e = rw (s.l_is, s.m_is) at d in omega arith);
      old_opens = least-opens;
      old_minus_d = λ f a v e. out f a (omega arith) (λ r. omega (arith, minus f a v e, r.records));
      record_8 = λ n. refl;
      place_8 = λ n. refl;
      record_9 = λ n. refl;
      place_9 = λ n. refl;
      double_256 = doubles.0;
      minus_zero = doubles.1;
      two_records = λ n m. refl;
      three_records = λ n m. refl;
    }
