-- A file that is to be changed: the test of refusal 2, and what it comes to for the judgements.
use Rattle.std.specs.Prelude.{Err}
use Prim.Native.Nat.{ℕ, ◌≤◌, ◌<◌}
use mathlib.Core.Path.{◌≡◌, sym, ◌∙◌}
use mathlib.Core.Bool.{Bool, true, false}
use mathlib.Core.List.{List}
use borrow.Author.Tests.{leb-true, eqb-true, le-leb, lt-leb, eq-eqb}
use lib.Dec.{leb, eqb}
use lib.ListN.{length}
use Rattle.lent.proofs.Lists.{also-true, true-also, true≢false}
use Rattle.paper.specs.declared.refusal.Refusal.TheVariants.{OldForm}
use Rattle.paper.specs.Answers.{Opened}
use Rattle.paper.specs.Sizes.{version_of}
use Rattle.paper.specs.Index.{boot_of, open_of, change_boot_of, change_of}
use Rattle.paper.proofs.Opening.{old-boot, other_boot, old-file, other-file}
use Rattle.bootstrap.specs.Old.{is_old}

module _ (f : List ℕ) where
  pub short-not : length f < 512 → false ≡ is_old f
  unfolding is_old
  short-not h = rw (lt-leb 512 (length f) h)

  pub long-is : 512 ≤ length f → eqb (version_of f) 0 ≡ is_old f
  unfolding is_old
  long-is h = rw (le-leb 512 (length f) h)

  -- the test, as a fact
  is-old : is_old f ≡ true → (512 ≤ length f) × (version_of f ≡ 0)
  unfolding is_old
  is-old e = let p = also-true (leb 512 (length f)) (eqb (version_of f) 0) e in (leb-true _ _ p.0, eqb-true _ _ p.1)

  not-old : is_old f ≡ false → 512 ≤ length f → version_of f ≡ 0 → ⊥
  unfolding is_old
  not-old e a v = true≢false (true-also (leb 512 (length f)) (eqb (version_of f) 0) (le-leb _ _ a) (eq-eqb _ _ v)) e

  -- one law for each return
  module _ {b : Bool} (test : b ≡ is_old f) where
    pub boot_old : b ≡ true → Err OldForm ≡ change_boot_of f
    boot_old e = let p = is-old (sym test ∙ e) in sym (old-boot f p.0 p.1)

    pub boot-on : b ≡ false → {r : Opened} → r ≡ boot_of f → r ≡ change_boot_of f
    boot-on e h = h ∙ sym (other_boot f (not-old (sym test ∙ e)))

    pub change-old : b ≡ true → Err OldForm ≡ change_of f
    change-old e = let p = is-old (sym test ∙ e) in sym (old-file f p.0 p.1)

    pub change-on : b ≡ false → {r : Opened} → r ≡ open_of f → r ≡ change_of f
    change-on e h = h ∙ sym (other-file f (not-old (sym test ∙ e)))
