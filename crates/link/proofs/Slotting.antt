-- The slots, one after the other: what a slot's numbers are after the bytes, and what the row is once all have been gone through.
use Prim.Native.Nat.{ℕ, ◌+◌, ◌-◌, ◌*◌, ◌/◌, ◌%◌, ◌≤◌, ◌<◌, max, min}
use mathlib.Core.Path.{◌≡◌, refl, sym, ◌∙◌, subst}
use mathlib.Core.Bool.{false}
use mathlib.Core.List.{List, [], ◌∷◌}
use mathlib.Core.Logic.{◌≢◌, ◌⊎◌, inl, inr, ⊎_elim}
use native.Mathlib.Omega.{arith}
use native.Mathlib.Nat.{mul-le-mul_right}
use lib.ListN.{length, take, get_or, set, length-set, length-take}
use lib.Seq.{take_all, get_or-set_same, get_or-set_other}
use borrow.Author.Tests.{eq-eqb, ne_eqb}
use Rattle.lent.specs.Number.{widened}
use Rattle.lent.specs.Part.{part}
use Rattle.lent.proofs.Lists.{lt-or-ge, same_or, table_same}
use Rattle.paper.specs.declared.sizes.Sizes.{Sizes}
use Rattle.paper.specs.Sizes.{by_form, word_at, capacity_of, shaped, Shaped}
use Rattle.paper.specs.Link.{more_of, shifted, width_of, number_at, element_after, elements_of, row_after}
use Rattle.paper.proofs.Linking.{width-most, elements-shaped, row-after-is, element-after-none}
use Rattle.link.specs.Taking.{shape_of, home_at, Put, Went, TakenTo, Passed}
use Rattle.link.proofs.Elements.{number-first, number-last, element-passed, element-ahead, element-word, element-more, element-later, element-done, element-all}

-- an element rests on what stood there, and on nothing else of the row
element-same : (z : Sizes) (at : ℕ) (bytes row cur : List ℕ) (e : ℕ) → get_or cur e 0 ≡ get_or row e 0 → element_after z at bytes cur e ≡ element_after z at bytes row e
unfolding element_after
element-same z at bytes row cur e h = rw h

-- ---- one slot

module _ (z : Sizes) (at : ℕ) (bytes row₀ : List ℕ) (i : ℕ) (S : Shaped z) (b : (8192 ≤ length row₀) × (i < capacity_of z)) where
  abbrev home : ℕ
  home = home_at z i

  abbrev w : ℕ
  w = width_of z.version

  in_row : 2 * i + 1 < length row₀
  in_row = omega (arith, b.0, b.1, S.slots)

  -- before the first of its bytes
  pub cut-none : (p : ℕ) → p ≡ max home at → Put z at (take (p - at) bytes) row₀ row₀ i
  cut-none p e =
      record {
        as_long = refl;
        first = sym (start (2 * i) (omega (arith, number-first z i)));
        last = sym (start (2 * i + 1) (omega (arith, number-last z i)));
        below = λ x h. refl;
        above = λ x h. refl;
      }
    where
      start : (x : ℕ) → home ≤ number_at z x → element_after z at (take (p - at) bytes) row₀ x ≡ get_or row₀ x 0
      start x h =
          ⊎_elim (λ (l : home < at).
          let q : p - at ≡ 0 = omega arith in
          rw q (element-after-none z at row₀ x))
          (λ (l : at ≤ home). element-ahead z at (take (p - at) bytes) row₀ x (omega (arith, length-take (p - at) bytes))) (lt-or-ge home at)

  -- one byte more
  module _ (row : List ℕ) (p v : ℕ) (P : Put z at (take (p - at) bytes) row₀ row i) (lo : at ≤ p) (hi : p < at + length bytes) where
    abbrev j : ℕ
    j = p - at

    more-first : home ≤ p → p < home + w → v ≡ more_of z.version (get_or row (2 * i) 0) (get_or bytes j 0) → Put z at (take (j + 1) bytes) row₀ (set row (2 * i) v) i
    more-first a b h =
        record {
          as_long = length-set row (2 * i) v ∙ P.as_long;
          first =
              get_or-set_same row (2 * i) v 0 (omega (arith, in_row, P.as_long)) ∙ h
              ∙ sym (element-more z at bytes row₀ row (2 * i) j P.first (omega arith) (omega (arith, number-first z i)) (omega (arith, number-first z i)));
          last =
              get_or-set_other row (2 * i) (2 * i + 1) v 0 (λ q. omega arith)
              ∙ sym (element-later z at bytes row₀ row (2 * i + 1) j P.last (omega arith) (omega (arith, number-last z i)));
          below = λ x k. get_or-set_other row (2 * i) x v 0 (λ q. omega arith) ∙ P.below x k;
          above = λ x k. get_or-set_other row (2 * i) x v 0 (λ q. omega arith) ∙ P.above x k;
        }

    more-last : home + w ≤ p → p < home + w + w → v ≡ more_of z.version (get_or row (2 * i + 1) 0) (get_or bytes j 0)
        → Put z at (take (j + 1) bytes) row₀ (set row (2 * i + 1) v) i
    more-last a b h =
        record {
          as_long = length-set row (2 * i + 1) v ∙ P.as_long;
          first =
              get_or-set_other row (2 * i + 1) (2 * i) v 0 (λ q. omega arith)
              ∙ sym (element-done z at bytes row₀ row (2 * i) j P.first (omega arith) (omega (arith, number-first z i)));
          last =
              get_or-set_same row (2 * i + 1) v 0 (omega (arith, in_row, P.as_long)) ∙ h
              ∙ sym (element-more z at bytes row₀ row (2 * i + 1) j P.last (omega arith) (omega (arith, number-last z i)) (omega (arith, number-last z i)));
          below = λ x k. get_or-set_other row (2 * i + 1) x v 0 (λ q. omega arith) ∙ P.below x k;
          above = λ x k. get_or-set_other row (2 * i + 1) x v 0 (λ q. omega arith) ∙ P.above x k;
        }

    pub cut-more : (e : ℕ) → home ≤ p → p < home + w + w → (p < home + w → e ≡ 2 * i) × (home + w ≤ p → e ≡ 2 * i + 1)
        → v ≡ more_of z.version (get_or row e 0) (get_or bytes j 0) → Put z at (take (p + 1 - at) bytes) row₀ (set row e v) i
    cut-more e a b (f, g) h =
        let n : j + 1 ≡ p + 1 - at = omega arith in
        subst (λ (k : ℕ). Put z at (take k bytes) row₀ (set row e v) i) n
        (⊎_elim (λ (l : p < home + w).
        subst (λ (x : ℕ). Put z at (take (j + 1) bytes) row₀ (set row x v) i) (sym (f l)) (more-first a l (rw (f l) at h)))
        (λ (l : home + w ≤ p).
        subst (λ (x : ℕ). Put z at (take (j + 1) bytes) row₀ (set row x v) i) (sym (g l)) (more-last l b (rw (g l) at h))) (lt-or-ge p (home + w)))

  -- all of its bytes that there are
  pub cut-end : (row : List ℕ) (p : ℕ) → Put z at (take (p - at) bytes) row₀ row i → at ≤ p → min (home + w + w) (at + length bytes) ≤ p → Put z at bytes row₀ row i
  cut-end row p P lo h =
      ⊎_elim (λ (l : p < at + length bytes).
      record {
        as_long = P.as_long;
        first = sym (element-all z at bytes row₀ row (2 * i) (p - at) P.first (omega (arith, number-first z i)) (omega arith));
        last = sym (element-all z at bytes row₀ row (2 * i + 1) (p - at) P.last (omega (arith, number-last z i)) (omega arith));
        below = P.below;
        above = P.above;
      })
      (λ (l : at + length bytes ≤ p). subst (λ (s : List ℕ). Put z at s row₀ row i) (take_all (p - at) bytes (omega arith)) P)
      (lt-or-ge p (at + length bytes))

  -- both numbers at once
  pub whole-put : (from a b : ℕ) → from ≡ home - at → ((x : ℕ) → get_or bytes x 0 < 256) → at ≤ home → home + 8 ≤ at + length bytes → a ≡ word_at z.version bytes from 0
      → b ≡ word_at z.version bytes from 1 → Put z at bytes row₀ (set (set row₀ (2 * i) a) (2 * i + 1) b) i
  whole-put from a b f small lo hi ha hb =
      let row : List ℕ = set row₀ (2 * i) a in
      let n : length row ≡ length row₀ = length-set row₀ (2 * i) a in
      let m : w ≤ 4 = width-most z.version in
      record {
        as_long = length-set row (2 * i + 1) b ∙ n;
        first =
            get_or-set_other row (2 * i + 1) (2 * i) b 0 (λ q. omega arith) ∙ get_or-set_same row₀ (2 * i) a 0 (omega (arith, in_row)) ∙ ha
            ∙ sym (element-word z at bytes row₀ (2 * i) from 0 small (omega (arith, number-first z i)) (omega arith));
        last =
            get_or-set_same row (2 * i + 1) b 0 (omega (arith, in_row)) ∙ hb
            ∙ sym (element-word z at bytes row₀ (2 * i + 1) from 1 small (omega (arith, number-last z i)) (omega arith));
        below = λ x k. get_or-set_other row (2 * i + 1) x b 0 (λ q. omega arith) ∙ get_or-set_other row₀ (2 * i) x a 0 (λ q. omega arith);
        above = λ x k. get_or-set_other row (2 * i + 1) x b 0 (λ q. omega arith) ∙ get_or-set_other row₀ (2 * i) x a 0 (λ q. omega arith);
      }

-- ---- all slots

-- the numbers of an element lie in its slot's entry
module _ (z : Sizes) (e : ℕ) where
  number-low : z.l + e / 2 * z.m ≤ number_at z e
  number-low = let p : e / 2 + 1 - 1 ≡ e / 2 = omega arith in rw p (omega arith)

  number-high : number_at z e + width_of z.version ≤ z.l + e / 2 * z.m + 8
  number-high =
      let p : e / 2 + 1 - 1 ≡ e / 2 = omega arith in
      let h : e % 2 ≤ 1 = omega arith in
      let k : e % 2 * width_of z.version ≤ 1 * width_of z.version = mul-le-mul_right (width_of z.version) h in
      rw p (omega (arith, width-most z.version))

elements-none : (z : Sizes) → shaped z ≡ false → elements_of z ≡ 0
unfolding elements_of
elements-none z h = rw h

-- sizes outside their ranges have no slots
pub unshaped-row : (z : Sizes) (at : ℕ) (bytes row : List ℕ) → shaped z ≡ false → row ≡ row_after z at bytes row
unshaped-row z at bytes row h =
    let n : elements_of z ≡ 0 = elements-none z h in
    row-after-is z at bytes row row refl (omega arith) (λ e k. absurd (omega arith)) (λ e k. refl)

-- D, U, counter and type are not asked, and of the version whether it is 0
same-form : {A : Type 0} (v : ℕ) (a b : A) → by_form (by_form v 0 1) a b ≡ by_form v a b
same-form v a b =
    ⊎_elim (λ (e : v ≡ 0). rw (eq-eqb v 0 e)) (λ (n : v ≢ 0). rw (ne_eqb v 0 n)) (same_or v 0)

same-shift : (v x : ℕ) (bs : List ℕ) → shifted (by_form v 0 1) x bs ≡ shifted v x bs
unfolding shifted more_of
same-shift v x [] = refl
same-shift v x (b ∷ bs) = rw (same-form v (widened ((x * 256 + b) % 65536)) ((x * 256 + b) % 4294967296)) (same-shift v (more_of v x b) bs)

same-element : (z : Sizes) (at : ℕ) (bytes row : List ℕ) (e : ℕ) → element_after (shape_of z) at bytes row e ≡ element_after z at bytes row e
unfolding element_after
same-element z at bytes row e =
    rw (same-form {A = ℕ} z.version 2 4) (same-shift z.version (get_or row e 0) (part (number_at z e - at) (number_at z e + width_of z.version - at) bytes))

pub shape_row : (z : Sizes) (at : ℕ) (bytes row : List ℕ) → row_after (shape_of z) at bytes row ≡ row_after z at bytes row
unfolding row_after elements_of shaped
shape_row z at bytes row = rw (table_same (elements_of z) (element_after (shape_of z) at bytes row) (element_after z at bytes row) (λ e h. same-element z at bytes row e))

module _ (z : Sizes) (at : ℕ) (bytes row : List ℕ) where
  module _ (S : Shaped z) where
    pub to_none : (from : ℕ) → Passed z at from → TakenTo z at bytes row row from
    to_none from P =
        record {
          as_long = refl;
          before = λ e h. sym (element-passed z at bytes row e (omega (arith, number-high z e, P (e / 2) (omega arith), S.m_low)));
          rest = λ e h. refl;
        }

    pub to_end : (next : List ℕ) (i : ℕ) → 8192 ≤ length row → TakenTo z at bytes row next i → i ≤ capacity_of z
        → (i < capacity_of z → at + length bytes ≤ home_at z i) → next ≡ row_after z at bytes row
    to_end next i w T m h =
        let n : elements_of z ≡ 2 * capacity_of z = elements-shaped z S in
        row-after-is z at bytes row next T.as_long (omega (arith, S.slots)) (λ e k. front e (omega arith) (lt-or-ge e (2 * i))) (λ e k. T.rest e (omega arith))
      where
        front : (e : ℕ) → e < 2 * capacity_of z → (e < 2 * i) ⊎ (2 * i ≤ e) → get_or next e 0 ≡ element_after z at bytes row e
        front e k (inl a) = T.before e a
        front e k (inr a) =
            T.rest e a
            ∙ sym (element-ahead z at bytes row e (omega (arith, number-low z e, mul-le-mul_right {m = i} {n = e / 2} z.m (omega arith), h (omega arith))))

  -- slots more
  pub to-went : (cur next : List ℕ) (i j : ℕ) → TakenTo z at bytes row cur i → Went z at bytes cur next i j → TakenTo z at bytes row next j
  to-went cur next i j T W =
      record {
        as_long = W.as_long ∙ T.as_long;
        before = λ e h. before e h (lt-or-ge e (2 * i));
        rest = λ e h. W.above e h ∙ T.rest e (omega (arith, W.low));
      }
    where
      before : (e : ℕ) → e < 2 * j → (e < 2 * i) ⊎ (2 * i ≤ e) → get_or next e 0 ≡ element_after z at bytes row e
      before e h (inl a) = W.below e a ∙ T.before e a
      before e h (inr a) = W.here e a h ∙ element-same z at bytes row cur e (T.rest e a)

  pub went-more : (cur next : List ℕ) (i j : ℕ) → Went z at bytes row cur i j → Put z at bytes cur next j → Went z at bytes row next i (j + 1)
  went-more cur next i j W P =
      record {
        as_long = P.as_long ∙ W.as_long;
        low = omega (arith, W.low);
        here = λ e a b. here e a b (lt-or-ge e (2 * j)) (lt-or-ge e (2 * j + 1));
        below = λ e a. P.below e (omega (arith, W.low)) ∙ W.below e a;
        above = λ e a. P.above e (omega arith) ∙ W.above e (omega arith);
      }
    where
      last : (e : ℕ) → 2 * j ≤ e → get_or next e 0 ≡ element_after z at bytes cur e → get_or next e 0 ≡ element_after z at bytes row e
      last e l h = h ∙ element-same z at bytes row cur e (W.above e l)

      here : (e : ℕ) → 2 * i ≤ e → e < 2 * (j + 1) → (e < 2 * j) ⊎ (2 * j ≤ e) → (e < 2 * j + 1) ⊎ (2 * j + 1 ≤ e) → get_or next e 0 ≡ element_after z at bytes row e
      here e a h (inl b) c = P.below e b ∙ W.here e a b
      here e a h (inr b) (inl c) = let q : e ≡ 2 * j = omega arith in last e b (rw q P.first)
      here e a h (inr b) (inr c) = let q : e ≡ 2 * j + 1 = omega arith in last e b (rw q P.last)
