-- What is printed: the list, or that the input is too long.
use Prim.Native.Nat.{ℕ, ◌≤◌, ◌<◌}
use mathlib.Core.Path.{◌≡◌, refl, sym, ◌∙◌, ap}
use mathlib.Core.List.{List}
use mathlib.Core.Logic.{⊎_elim}
use native.Mathlib.Omega.{arith}
use borrow.Author.Tests.{le-leb, lt-leb}
use lib.ListN.{length, take}
use lib.Seq.{length-take-le, take_all}
use Rattle.lent.specs.Write.{write}
use Rattle.lent.proofs.Lists.{lt-or-ge}
use Rattle.paper.specs.Lister.{list_text, too_long, printed}
use Rattle.listing.proofs.Texts.{list-short}

list-printed : (f : List ℕ) → length f ≤ 65536 → list_text f ≡ printed f
unfolding printed
list-printed f h = rw (le-leb _ _ h) refl

long-printed : (f : List ℕ) → 65536 < length f → too_long ≡ printed f
unfolding printed
long-printed f h = rw (lt-leb _ _ h) refl

-- a file of at most 65,536 bytes: its list
pub prints-list : (f l : List ℕ) {m : List ℕ} {r : ℕ} → length f ≤ 65536 → r ≡ length (list_text f) → m ≡ write l 0 (list_text f)
    → (r ≡ length (printed f)) × (m ≡ write l 0 (printed f))
prints-list f l h p q = (p ∙ ap length (list-printed f h), q ∙ ap (write l 0) (list-printed f h))

-- a longer input: that it is too long
pub prints-long : (f l : List ℕ) {m : List ℕ} → 65536 < length f → m ≡ write l 0 too_long → (9 ≡ length (printed f)) × (m ≡ write l 0 (printed f))
prints-long f l h q = (ap length (long-printed f h), q ∙ ap (write l 0) (long-printed f h))

-- neither is longer than 90,000 bytes
pub printed-short : (f : List ℕ) → length (printed f) ≤ 90000
printed-short f = ⊎_elim long short (lt-or-ge 65536 (length f))
  where
    long : 65536 < length f → length (printed f) ≤ 90000
    long h = omega (arith, ap length (long-printed f h))

    short : length f ≤ 65536 → length (printed f) ≤ 90000
    short h = omega (arith, ap length (list-printed f h), list-short f)

-- so that 65,537 bytes of an input are enough to print what the whole asks for
pub front-printed : (f : List ℕ) → printed (take 65537 f) ≡ printed f
front-printed f = ⊎_elim long short (lt-or-ge 65536 (length f))
  where
    long : 65536 < length f → printed (take 65537 f) ≡ printed f
    long h = sym (long-printed (take 65537 f) (omega (arith, length-take-le 65537 f (omega arith)))) ∙ long-printed f h

    short : length f ≤ 65536 → printed (take 65537 f) ≡ printed f
    short h = ap printed (take_all 65537 f (omega arith))
