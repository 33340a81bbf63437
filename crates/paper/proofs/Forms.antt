-- The two forms: what rests on which bytes in either, and what the current form's numbers are.
use Prim.Native.Nat.{ℕ, ◌+◌, ◌*◌, ◌≤◌}
use mathlib.Core.Path.{◌≡◌, sym, ◌∙◌, ap}
use mathlib.Core.Bool.{true}
use mathlib.Core.List.{List}
use mathlib.Core.Logic.{◌≢◌, ⊎_elim}
use native.Mathlib.Omega.{arith}
use native.Mathlib.Nat.{add-zero}
use borrow.Author.Tests.{eqb-true, eq-eqb, ne_eqb}
use Rattle.lent.specs.Number.{big, be16, be32, widened}
use Rattle.lent.specs.Part.{Alike}
use Rattle.lent.proofs.Lists.{same_or}
use Rattle.lent.proofs.Numbers.{number_same}
use Rattle.paper.specs.declared.sizes.Sizes.{Sizes}
use Rattle.paper.specs.Sizes.{by_form, sizes_of, version_of, word_at, counter_of, type_of, home_of}
use Rattle.paper.specs.Index.{run_of}
use Rattle.paper.specs.Entry.{magic_of, position_of, version_one}

-- ---- files that are alike

module _ (f g : List ℕ) (a b : ℕ) (h : Alike f g a b) where
  pub word_same : (v at i : ℕ) → a ≤ at → at + (4 * i + 4) ≤ b → word_at v g at i ≡ word_at v f at i
  unfolding word_at
  word_same v at i lo hi =
      rw (number_same big 2 f g a b (at + 2 * i) h (omega arith) (omega arith), number_same big 4 f g a b (at + 4 * i) h (omega arith) (omega arith))

  -- an entry's own fields
  pub magic-same : (v at : ℕ) → a ≤ at → at + 62 ≤ b → magic_of v g at ≡ magic_of v f at
  unfolding magic_of
  magic-same v at lo hi = rw (number_same big 2 f g a b (at + 4) h (omega arith) (omega arith))

  pub position-same : (v at : ℕ) → a ≤ at → at + 62 ≤ b → position_of v g at ≡ position_of v f at
  unfolding position_of
  position-same v at lo hi =
      rw (number_same big 2 f g a b (at + 6) h (omega arith) (omega arith), number_same big 2 f g a b (at + 60) h (omega arith) (omega arith))

  pub one_same : (v at : ℕ) → a ≤ at → at + 62 ≤ b → version_one v g at ≡ version_one v f at
  unfolding version_one
  one_same v at lo hi = rw (magic-same v at lo hi)

-- the bootstrap is read from the first 32 bytes
module _ (f g : List ℕ) (h : Alike f g 0 32) where
  pub version-same : version_of g ≡ version_of f
  version-same = number_same big 4 f g 0 32 28 h (omega arith) (omega arith)

  pub counter-same : counter_of g ≡ counter_of f
  unfolding counter_of
  counter-same = rw (version-same, number_same big 2 f g 0 32 10 h (omega arith) (omega arith), number_same big 4 f g 0 32 20 h (omega arith) (omega arith))

  pub type-same : type_of g ≡ type_of f
  unfolding type_of
  type-same = rw (version-same, number_same big 4 f g 0 32 24 h (omega arith) (omega arith))

  pub sizes-same : sizes_of g ≡ sizes_of f
  sizes-same =
      rw (
        version-same,
        word_same f g 0 32 h (version_of f) 0 0 (omega arith) (omega arith),
        word_same f g 0 32 h (version_of f) 0 1 (omega arith) (omega arith),
        word_same f g 0 32 h (version_of f) 0 2 (omega arith) (omega arith),
        word_same f g 0 32 h (version_of f) 0 3 (omega arith) (omega arith),
        word_same f g 0 32 h (version_of f) 0 4 (omega arith) (omega arith),
        counter-same,
        type-same,
      )

-- ---- one form or the other

-- what has another place in each form
module _ {A : Type 0} (v : ℕ) (old new : A) where
  pub by_old : v ≡ 0 → old ≡ by_form v old new
  by_old e = simp (eq-eqb v 0 e)

  pub by-current : (v ≡ 0 → ⊥) → new ≡ by_form v old new
  by-current h = simp (ne_eqb v 0 h)

module _ (f : List ℕ) (v at i : ℕ) {r : ℕ} where
  pub word-old : {x : ℕ} → v ≡ 0 → x ≡ be16 f (at + 2 * i) → r ≡ widened x → r ≡ word_at v f at i
  unfolding word_at
  word-old e p q = q ∙ ap widened p ∙ by_old v _ _ e

  pub word-current : (v ≡ 0 → ⊥) → r ≡ be32 f (at + 4 * i) → r ≡ word_at v f at i
  unfolding word_at
  word-current h p = p ∙ by-current v _ _ h

-- where each form has its counter and its position code
module _ (f : List ℕ) where
  pub counter-old : version_of f ≡ 0 → counter_of f ≡ be16 f 10
  unfolding counter_of
  counter-old e = sym (by_old (version_of f) _ _ e)

  pub counter-current : (version_of f ≡ 0 → ⊥) → counter_of f ≡ be32 f 20
  unfolding counter_of
  counter-current h = sym (by-current (version_of f) _ _ h)

module _ (v : ℕ) (f : List ℕ) (at : ℕ) where
  pub position-old : v ≡ 0 → position_of v f at ≡ be16 f (at + 6)
  unfolding position_of
  position-old e = sym (by_old v _ _ e)

  pub position-current : (v ≡ 0 → ⊥) → position_of v f at ≡ be16 f (at + 60)
  unfolding position_of
  position-current h = sym (by-current v _ _ h)

-- ---- the current form

pub current-word : (v : ℕ) (f : List ℕ) (at i : ℕ) → v ≡ 1 → word_at v f at i ≡ be32 f (at + 4 * i)
unfolding word_at
current-word v f at i e = rw e

pub current-counter : (f : List ℕ) → version_of f ≡ 1 → counter_of f ≡ be32 f 20
unfolding counter_of
current-counter f e = rw e

pub current-type : (f : List ℕ) → version_of f ≡ 1 → type_of f ≡ be32 f 24
unfolding type_of
current-type f e = rw e

-- "first record, last record": bytes 0-3 and 4-7
module _ (f : List ℕ) (z : Sizes) (s : ℕ) (e : z.version ≡ 1) where
  pub current-first : (run_of f z s).first ≡ be32 f (home_of z s)
  current-first = rw add-zero at (current-word z.version f (home_of z s) 0 e)

  pub current-last : (run_of f z s).last ≡ be32 f (home_of z s + 4)
  current-last = current-word z.version f (home_of z s) 1 e

-- ---- "Magic 2 is a version 1 scan"

module _ (v : ℕ) (f : List ℕ) (at : ℕ) where
  pub one-facts : version_one v f at ≡ true → v ≡ 0 → be16 f (at + 4) ≡ 2
  unfolding version_one magic_of
  one-facts e h = eqb-true _ _ (rw (eq-eqb v 0 h) at e)

  pub facts-one : (v ≡ 0 → be16 f (at + 4) ≡ 2) → version_one v f at ≡ true
  unfolding version_one magic_of
  facts-one k = ⊎_elim (λ (h : v ≡ 0). rw (eq-eqb v 0 h) (eq-eqb _ _ (k h))) (λ (h : v ≢ 0). rw (ne_eqb v 0 h)) (same_or v 0)
