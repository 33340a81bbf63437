-- The answers of the bootstrap's judgement, one law for each return.
use Rattle.std.specs.Prelude.{Ok, Err}
use Prim.Native.Nat.{ℕ, ◌-◌, ◌*◌, ◌≤◌, ◌<◌}
use mathlib.Core.Path.{◌≡◌, sym, ◌∙◌, ap, refl}
use mathlib.Core.Bool.{Bool, true, false, not}
use mathlib.Core.List.{List}
use native.Mathlib.Omega.{arith}
use native.Mathlib.Nat.{mul-le-mul}
use lib.ListN.{length}
use borrow.Author.Tests.{lt-ltb, le-ltb, not-true, not-false}
use native.Mathlib.Decide.{dec_le}
use Rattle.std.proofs.Common.{Less, Equal}
use Rattle.std.specs.Ordering.{is_le, nat_cmp}
use Rattle.std.specs.Cmp.{nat_cmp_is}
use Rattle.std.proofs.lemmas.Map.Keys.{le_from_is_le}
use Rattle.std.specs.Prelude.{Some}
use Rattle.std.specs.declared.ops.RangeInclusive.{RangeInclusive}
use Rattle.std.specs.Range.{range_inclusive_start, range_inclusive_end, range_inclusive_exhausted, range_inclusive_contains}
use Rattle.lent.specs.Number.{be16, be32}
use Rattle.lent.proofs.Lists.{not_so, true≢false}
use Rattle.paper.specs.declared.sizes.Sizes.{Sizes}
use Rattle.paper.specs.declared.refusal.Refusal.TheVariants.{TooShort, UnknownForm, OutOfRange, PastEnd}
use Rattle.paper.specs.Answers.{Opened}
use Rattle.paper.specs.Sizes.{word_at, counter_of, type_of, sizes_of, version_of, bytes_of, shaped, in_range, Shaped, Ranged}
use Rattle.paper.specs.Index.{boot_of, sized_of}
use Rattle.paper.proofs.Forms.{by_old, by-current}
use Rattle.paper.proofs.Opening.{shaped-facts, facts-shaped, range-facts, facts-range}

module _ (f : List ℕ) {r : ℕ} where
  pub counter-old : version_of f ≡ 0 → r ≡ be16 f 10 → r ≡ counter_of f
  unfolding counter_of
  counter-old e p = p ∙ by_old (version_of f) _ _ e

  pub counter-current : (version_of f ≡ 0 → ⊥) → r ≡ be32 f 20 → r ≡ counter_of f
  unfolding counter_of
  counter-current h p = p ∙ by-current (version_of f) _ _ h

  pub type-old : version_of f ≡ 0 → r ≡ 0 → r ≡ type_of f
  unfolding type_of
  type-old e p = p ∙ by_old (version_of f) _ _ e

  pub type-current : (version_of f ≡ 0 → ⊥) → r ≡ be32 f 24 → r ≡ type_of f
  unfolding type_of
  type-current h p = p ∙ by-current (version_of f) _ _ h

-- the sizes are right where each of them is
pub sizes-is : (f : List ℕ) (v : ℕ) {n d l m u c k : ℕ}
    → v ≡ version_of f
    → n ≡ word_at v f 0 0
    → d ≡ word_at v f 0 1
    → l ≡ word_at v f 0 2
    → m ≡ word_at v f 0 3
    → u ≡ word_at v f 0 4
    → c ≡ counter_of f
    → k ≡ type_of f
    → ◌≡◌ {A = Sizes} (record { n = n; d = d; l = l; m = m; u = u; counter = c; kind = k; version = v }) (sizes_of f)
sizes-is f v e0 e1 e2 e3 e4 e5 e6 e7 = cc

-- sizes that break a range
pub not-shaped : (z : Sizes) → (Shaped z → ⊥) → false ≡ shaped z
not-shaped z h = sym (not_so (λ e. h (shaped-facts z e)))

pub not-ranged : (z : Sizes) → (Ranged z → ⊥) → false ≡ in_range z
not-ranged z h = sym (not_so (λ e. h (range-facts z e)))

-- what `contains` answers at a range `a..=b` of numbers
at-most : (a b : ℕ) → a ≤ b → is_le (nat_cmp a b) ≡ true
at-most a b h = go (dec_le b a)
  where
    go : Dec (b ≤ a) → is_le (nat_cmp a b) ≡ true
    go (yes k) = ap is_le (sym (nat_cmp_is a b Equal (omega arith)))
    go (no k) = ap is_le (sym (nat_cmp_is a b Less (omega arith)))

pub within : {i j a b x : ℕ} → i ≡ a → j ≡ b → (is_le (nat_cmp i x) ≡ true) × (is_le (nat_cmp x j) ≡ true) → (a ≤ x) × (x ≤ b)
within {i} {j} {a} {b} {x} p q h = let l = le_from_is_le i x h.0 in let m = le_from_is_le x j h.1 in (omega arith, omega arith)

pub outside : (s : RangeInclusive ℕ) (a b x : ℕ) → range_inclusive_start s ≡ a → range_inclusive_end s ≡ b → range_inclusive_exhausted s ≡ false
    → {t : Bool} → t ≡ range_inclusive_contains (λ k l. Some (nat_cmp k l)) s x → t ≡ false → (a ≤ x) × (x ≤ b) → ⊥
outside s a b x p q whole e n h = true≢false (e ∙ rw (whole, at-most (range_inclusive_start s) x (omega (arith, h.0)), at-most x (range_inclusive_end s) (omega (arith, h.1))) refl) n

-- tests that a call has made
pub shape-kept : (z : Sizes) {b : Bool} → b ≡ shaped z → not b ≡ false → Shaped z
shape-kept z e h = shaped-facts z (sym e ∙ not-false _ h)

pub shape-broken : (z : Sizes) {b : Bool} → b ≡ shaped z → not b ≡ true → false ≡ in_range z
shape-broken z e h = not-ranged z (λ r. true≢false (facts-shaped z r.shape) (sym e ∙ not-true _ h))

pub range-kept : (z : Sizes) {b : Bool} → b ≡ in_range z → not b ≡ false → Ranged z
range-kept z e h = range-facts z (sym e ∙ not-false _ h)

-- the bytes of the index, before the capacity is known
pub index-bytes : (z : Sizes) → z.n ≤ 513 → z.l ≤ 4096 → (z.n - 1) * z.l ≤ 2097152
index-bytes z a b = let p : (z.n - 1) * z.l ≤ 512 * 4096 = mul-le-mul {n₁ = z.n - 1} {n₂ = 512} (omega arith) b in p

module _ (len : ℕ) (z : Sizes) where
  pub sized-unknown : 1 < z.version → Err UnknownForm ≡ sized_of len z
  unfolding sized_of
  sized-unknown a = simp (lt-ltb _ _ a)

  module _ (known : z.version ≤ 1) where
    pub sized_range : {b : Bool} → b ≡ in_range z → not b ≡ true → Err OutOfRange ≡ sized_of len z
    unfolding sized_of
    sized_range e h = simp (le-ltb _ _ known, ← e, h)

    pub sized_past : Ranged z → len < bytes_of z → Err PastEnd ≡ sized_of len z
    unfolding sized_of
    sized_past c d = simp (le-ltb _ _ known, facts-range z c, lt-ltb _ _ d)

    pub sized-opens : Ranged z → bytes_of z ≤ len → Ok z ≡ sized_of len z
    unfolding sized_of
    sized-opens c d = simp (le-ltb _ _ known, facts-range z c, le-ltb _ _ d)

module _ (f : List ℕ) where
  pub boot-short : length f < 512 → Err TooShort ≡ boot_of f
  unfolding boot_of
  boot-short a = simp (lt-ltb _ _ a)

  judged : 512 ≤ length f → sized_of (length f) (sizes_of f) ≡ boot_of f
  unfolding boot_of sized_of
  judged a = simp (le-ltb _ _ a)

  pub boot-sized : 512 ≤ length f → {z : Sizes} {r : Opened} → z ≡ sizes_of f → r ≡ sized_of (length f) z → r ≡ boot_of f
  boot-sized a e h = h ∙ ap (sized_of (length f)) e ∙ judged a
