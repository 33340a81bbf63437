-- One element of the row: which bytes it takes, one by one and all at once.
use Prim.Native.Nat.{ℕ, suc, ◌+◌, ◌-◌, ◌*◌, ◌/◌, ◌%◌, ◌≤◌, ◌<◌}
use mathlib.Core.Path.{◌≡◌, refl, sym, ◌∙◌, ap}
use mathlib.Core.List.{List, [], ◌∷◌, ◌++◌}
use native.Mathlib.Omega.{arith}
use native.Mathlib.Nat.{sub-zero}
use lib.ListN.{length, take, drop, get_or, take-append-drop}
use lib.Seq.{take-nil, take-suc, length-take-le}
use Rattle.lent.specs.Number.{be16, be32, widened}
use Rattle.lent.proofs.Parts.{part_none, part-past}
use Rattle.paper.specs.declared.sizes.Sizes.{Sizes}
use Rattle.paper.specs.Sizes.{word_at}
use Rattle.paper.specs.Link.{more_of, shifted, width_of, number_at, element_after}
use Rattle.paper.proofs.Forms.{by_old, by-current}
use Rattle.paper.proofs.Linking.{shifted-word, element-after-join}

-- ---- numbers

pub more_old : (v x b : ℕ) {y r : ℕ} → v ≡ 0 → b < 256 → y ≡ x % 256 * 256 + b → r ≡ widened y → r ≡ more_of v x b
unfolding more_of
more_old v x b {y} e l h k = k ∙ ap widened (let q : y ≡ (x * 256 + b) % 65536 = omega arith in q) ∙ by_old v _ _ e

pub more-current : (v x b : ℕ) {r : ℕ} → (v ≡ 0 → ⊥) → b < 256 → r ≡ x % 16777216 * 256 + b → r ≡ more_of v x b
unfolding more_of
more-current v x b {r} n l h = let q : r ≡ (x * 256 + b) % 4294967296 = omega arith in q ∙ by-current v _ _ n

-- number i of those at place `at`, in either form, which stands at place p
module _ (v : ℕ) (f : List ℕ) (at i p : ℕ) {r : ℕ} where
  pub word-old : {x : ℕ} → v ≡ 0 → x ≡ be16 f p → p ≡ at + 2 * i → r ≡ widened x → r ≡ word_at v f at i
  unfolding word_at
  word-old e h q k = k ∙ ap widened (h ∙ ap (be16 f) q) ∙ by_old v _ _ e

  pub word-current : (v ≡ 0 → ⊥) → r ≡ be32 f p → p ≡ at + 4 * i → r ≡ word_at v f at i
  unfolding word_at
  word-current n h q = h ∙ ap (be32 f) q ∙ by-current v _ _ n

-- ---- where a slot's numbers begin, slots counted from 0

module _ (z : Sizes) (i : ℕ) where
  pub number-first : number_at z (2 * i) ≡ z.l + i * z.m
  number-first =
      let p : 2 * i / 2 + 1 - 1 ≡ i = omega arith in
      let q : 2 * i % 2 ≡ 0 = omega arith in
      rw (p, q) (omega arith)

  pub number-last : number_at z (2 * i + 1) ≡ z.l + i * z.m + width_of z.version
  number-last =
      let p : (2 * i + 1) / 2 + 1 - 1 ≡ i = omega arith in
      let q : (2 * i + 1) % 2 ≡ 1 = omega arith in
      rw (p, q) (omega arith)

-- ---- an element and bytes

module _ (z : Sizes) (at : ℕ) (bytes row : List ℕ) (e : ℕ) where
  -- its number lies before them, or after them
  pub element-passed : number_at z e + width_of z.version ≤ at → element_after z at bytes row e ≡ get_or row e 0
  unfolding element_after shifted
  element-passed h = rw (part_none (number_at z e - at) (number_at z e + width_of z.version - at) bytes (omega arith))

  pub element-ahead : at + length bytes ≤ number_at z e → element_after z at bytes row e ≡ get_or row e 0
  unfolding element_after shifted
  element-ahead h = rw (part-past (number_at z e - at) (number_at z e + width_of z.version - at) bytes (omega arith))

  -- among them
  pub element-word : (from k : ℕ) → ((i : ℕ) → get_or bytes i 0 < 256) → number_at z e ≡ at + (from + width_of z.version * k)
      → from + width_of z.version * k + width_of z.version ≤ length bytes → element_after z at bytes row e ≡ word_at z.version bytes from k
  unfolding element_after
  element-word from k small h l =
      let v : ℕ = z.version in
      let p : number_at z e - at ≡ from + width_of v * k = omega arith in
      let q : number_at z e + width_of v - at ≡ from + width_of v * k + width_of v = omega arith in
      rw (p, q) (shifted-word v (get_or row e 0) from k bytes small l)

  -- one of them
  pub element-one : (b : ℕ) → bytes ≡ b ∷ [] → number_at z e ≤ at → at < number_at z e + width_of z.version
      → element_after z at bytes row e ≡ more_of z.version (get_or row e 0) b
  unfolding element_after shifted
  element-one b h lo hi =
      let v : ℕ = z.version in
      let k : ℕ = number_at z e + width_of v - at - 1 in
      let p : number_at z e - at ≡ 0 = omega arith in
      let q : number_at z e + width_of v - at ≡ suc k = omega arith in
      rw (h, p, q, sub-zero, take-nil {A = ℕ} k)

-- as far as the first j bytes
module _ (z : Sizes) (at : ℕ) (bytes row new : List ℕ) (e j : ℕ) (is : get_or new e 0 ≡ element_after z at (take j bytes) row e) where
  module _ (l : j < length bytes) where
    abbrev b : ℕ
    b = get_or bytes j 0

    next : element_after z at (take (j + 1) bytes) row e ≡ element_after z (at + j) (b ∷ []) new e
    next =
        let p : j + 1 ≡ suc j = omega arith in
        let n : length (take j bytes) ≡ j = length-take-le j bytes (omega arith) in
        let q : take (j + 1) bytes ≡ take j bytes ++ (b ∷ []) = ap (λ (k : ℕ). take k bytes) p ∙ take-suc bytes j 0 l in
        ap (λ (s : List ℕ). element_after z at s row e) q ∙ sym (element-after-join z at (take j bytes) (b ∷ []) row new e is)
        ∙ ap (λ (k : ℕ). element_after z (at + k) (b ∷ []) new e) n

    -- byte j is one of its number, or not
    pub element-more : number_at z e ≤ at + j → at + j < number_at z e + width_of z.version
        → element_after z at (take (j + 1) bytes) row e ≡ more_of z.version (get_or new e 0) b
    element-more lo hi = next ∙ element-one z (at + j) (b ∷ []) new e b refl lo hi

    pub element-later : at + j < number_at z e → element_after z at (take (j + 1) bytes) row e ≡ get_or new e 0
    element-later h = next ∙ element-ahead z (at + j) (b ∷ []) new e (omega arith)

    pub element-done : number_at z e + width_of z.version ≤ at + j → element_after z at (take (j + 1) bytes) row e ≡ get_or new e 0
    element-done h = next ∙ element-passed z (at + j) (b ∷ []) new e h

  -- no byte from there on is one of its number
  pub element-all : number_at z e + width_of z.version ≤ at + j → j ≤ length bytes → element_after z at bytes row e ≡ get_or new e 0
  element-all h l =
      let n : length (take j bytes) ≡ j = length-take-le j bytes l in
      ap (λ (s : List ℕ). element_after z at s row e) (sym (take-append-drop j bytes)) ∙ sym (element-after-join z at (take j bytes) (drop j bytes) row new e is)
      ∙ ap (λ (k : ℕ). element_after z (at + k) (drop j bytes) new e) n ∙ element-passed z (at + j) (drop j bytes) new e h
