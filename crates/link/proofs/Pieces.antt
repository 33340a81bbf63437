-- A piece: where the index ends, and link and row after its bytes.
use Rattle.std.specs.Prelude.{Ok, Err}
use Prim.Native.Nat.{ℕ, ◌+◌, ◌-◌, ◌*◌, ◌≤◌, ◌<◌, min}
use mathlib.Core.Path.{◌≡◌, sym, ◌∙◌, ap, subst}
use mathlib.Core.List.{List, []}
use mathlib.Core.Logic.{⊎_elim}
use native.Mathlib.Omega.{arith}
use native.Mathlib.Nat.{sub-zero, sub-eq-zero_of_le, mul-le-mul}
use lib.ListN.{length, take, drop, length-take, length-drop}
use lib.Seq.{take_all, take-length}
use borrow.Author.Tests.{le-ltb, not-false}
use Rattle.lent.specs.Part.{part}
use Rattle.lent.proofs.Lists.{lt-or-ge}
use Rattle.lent.proofs.Checks.{clear-all, judge-clear, judge-fires}
use Rattle.paper.specs.declared.sizes.Sizes.{Sizes}
use Rattle.paper.specs.declared.refusal.Refusal.{Refusal}
use Rattle.paper.specs.declared.refusal.Refusal.TheVariants.{TooSmall}
use Rattle.paper.specs.Answers.{Opened, Linked, taken_in}
use Rattle.paper.specs.declared.link.Link.{Link}
use Rattle.paper.specs.Refusals.{taken_says}
use Rattle.paper.specs.Sizes.{by_form, version_of, word_at, sizes_of, size_checks, Ranged}
use Rattle.paper.specs.Index.{sized_of}
use Rattle.paper.specs.Link.{head_of, headed, index_end, end_after, body_of, row_after, took_link, took_row, take_of, take_row, link_in}
use Rattle.paper.proofs.Forms.{by_old, by-current}
use Rattle.paper.proofs.Opening.{opens-clear, refused-fires, range-facts}
use Rattle.paper.proofs.Linking.{elements-most, row-after-none, head_short, head-min, took-headless, took-row-headless, took-still, took-row-still, take_short, take_long, take-row-short, take-row-long}
use Rattle.link.specs.Taking.{counted, shaping, shape_of}
use Rattle.link.proofs.Slotting.{shape_row}

pub head-none : (k : Link) (p : List ℕ) → 32 ≤ k.came → head_of k p ≡ 0
head-none k p l =
    ⊎_elim (λ (s : k.span < 512). head_short k p s) (λ (s : 512 ≤ k.span). omega (arith, head-min k p s)) (lt-or-ge k.span 512)

-- ---- the answers of begin and take

-- what the calls promise of an answer
pub says : (k : Link) {x is : Linked} → x ≡ is → (taken_says (taken_in x) ≡ taken_says (taken_in is)) × (link_in k x ≡ link_in k is)
says k e = (ap (λ (l : Linked). taken_says (taken_in l)) e, ap (link_in k) e)

module _ (k : Link) (p row : List ℕ) where
  pub taken-short : length row < 8192 → (Err TooSmall ≡ take_of k p row) × (row ≡ take_row k p row)
  taken-short h = (sym (take_short k p row h), sym (take-row-short k p row h))

  -- all has come that counts
  pub taken-full : 8192 ≤ length row → 32 ≤ k.came → k.ends ≤ k.came → (Ok k ≡ take_of k p row) × (row ≡ take_row k p row)
  taken-full h a b =
      let q : take (k.ends - k.came) p ≡ [] = ap (λ (n : ℕ). take n p) (sub-eq-zero_of_le b) in
      let s : head_of k p ≡ 0 = head-none k p a in (
        sym (take_long k p row h ∙ ap Ok (took-still k p s q)),
        sym (take-row-long k p row h ∙ took-row-still k p s q row h),
      )

  pub taken-long : 8192 ≤ length row → (d : Link) (next : List ℕ) → d ≡ took_link k p → next ≡ took_row k p row → (Ok d ≡ take_of k p row) × (next ≡ take_row k p row)
  taken-long h d next a b = (ap Ok a ∙ sym (take_long k p row h), b ∙ sym (take-row-long k p row h))

-- ---- where the index ends

-- sizes that were judged are in their ranges, so that N x L is no large number
pub sized_range : (len : ℕ) (z : Sizes) {j : Opened} {y : Sizes} → j ≡ sized_of len z → j ≡ Ok y → Ranged y
unfolding sized_of
sized_range len z {j} {y} e h =
    let p = opens-clear (size_checks len z) z y (sym e ∙ h) in
    subst Ranged p.1 (range-facts z (not-false _ (clear-all (size_checks len z) p.0).1.0))

pub head_bytes : (z : Sizes) → Ranged z → z.n * z.l ≤ 2101248
head_bytes z R = let p : z.n * z.l ≤ 513 * 4096 = mul-le-mul {n₁ = z.n} {n₂ = 513} R.shape.n_high R.shape.l_high in p

index-refused : (len : ℕ) (z : Sizes) (r : Refusal) → sized_of len z ≡ Err r → index_end len z ≡ 0
unfolding index_end sized_of
index-refused len z r e = judge-fires (λ (q : Refusal). 0) (size_checks len z) (z.n * z.l) r (refused-fires (size_checks len z) z r e)

index-opens : (len : ℕ) (z y : Sizes) → sized_of len z ≡ Ok y → index_end len z ≡ y.n * y.l
unfolding index_end sized_of
index-opens len z y e =
    let p = opens-clear (size_checks len z) z y e in
    judge-clear (λ (q : Refusal). 0) (size_checks len z) (z.n * z.l) p.0 ∙ ap (λ (x : Sizes). x.n * x.l) p.1

module _ (len came : ℕ) (boot : List ℕ) where
  module _ (all : 32 ≤ came) {z : Sizes} (s : z ≡ sizes_of boot) {j : Opened} (e : j ≡ sized_of len z) where
    known : end_after len came boot ≡ index_end len z
    known = rw (le-ltb _ _ all) (ap (index_end len) (sym s))

    pub end_refused : (r : Refusal) → j ≡ Err r → 0 ≡ end_after len came boot
    end_refused r h = sym (known ∙ index-refused len z r (sym e ∙ h))

    pub end-opens : (y : Sizes) → j ≡ Ok y → y.n * y.l ≡ end_after len came boot
    end-opens y h = sym (known ∙ index-opens len z y (sym e ∙ h))

-- ---- link and row after a piece

-- the front of a piece, and what follows it
pub front-all : (n m : ℕ) (p : List ℕ) → n ≡ min (length p) m → part 0 n p ≡ take m p
front-all n m p e =
    ⊎_elim (λ (h : m < length p). let q : n ≡ m = omega arith in rw (q, sub-zero))
    (λ (h : length p ≤ m). let q : n ≡ length p = omega arith in rw (q, sub-zero) (take-length p ∙ sym (take_all m p h))) (lt-or-ge m (length p))

pub after_front : (h : ℕ) (p : List ℕ) → part h (length p) p ≡ drop h p
after_front h p = take_all (length p - h) (drop h p) (omega (arith, length-drop h p))

-- the bootstrap's bytes find room in the link's 32
pub head-room : (k : Link) (p : List ℕ) → 0 < head_of k p → k.came + head_of k p ≤ 32
head-room k p h =
    ⊎_elim (λ (s : k.span < 512). absurd (omega (arith, head_short k p s))) (λ (s : 512 ≤ k.span). omega (arith, head-min k p s)) (lt-or-ge k.span 512)

-- the sizes that are asked for, in either form
pub shape-old : (f : List ℕ) {n l m : ℕ} → version_of f ≡ 0 → n ≡ word_at (version_of f) f 0 0 → l ≡ word_at (version_of f) f 0 2 → m ≡ word_at (version_of f) f 0 3
    → shaping n l m 0 ≡ shape_of (sizes_of f)
shape-old f v e1 e2 e3 = let q : ◌≡◌ {A = ℕ} 0 (by_form (version_of f) 0 1) = by_old (version_of f) 0 1 v in cc

pub shape-current : (f : List ℕ) {n l m : ℕ} → (version_of f ≡ 0 → ⊥) → n ≡ word_at (version_of f) f 0 0 → l ≡ word_at (version_of f) f 0 2
    → m ≡ word_at (version_of f) f 0 3 → shaping n l m 1 ≡ shape_of (sizes_of f)
shape-current f v e1 e2 e3 = let q : ◌≡◌ {A = ℕ} 1 (by_form (version_of f) 0 1) = by-current (version_of f) 0 1 v in cc

-- bytes after the first 32
module _ (boot : List ℕ) (came ends : ℕ) (p row : List ℕ) where
  -- no byte counts
  pub body-none : 8192 ≤ length row → ends ≤ came → row ≡ row_after (sizes_of boot) came (counted came ends p) row
  body-none w h = let q : ends - came ≡ 0 = omega arith in rw q (sym (row-after-none (sizes_of boot) came row (omega (arith, elements-most (sizes_of boot)))))

  -- the first n do
  pub body-some : (z : Sizes) (n : ℕ) → z ≡ shape_of (sizes_of boot) → n ≡ min (length p) (ends - came) → (bytes : List ℕ) → bytes ≡ part 0 n p → (next : List ℕ)
      → next ≡ row_after z came bytes row
      → (came + n ≡ came + length (counted came ends p)) × (next ≡ row_after (sizes_of boot) came (counted came ends p) row)
  body-some z n s e bytes b next h =
      let c : bytes ≡ counted came ends p = b ∙ front-all n (ends - came) p e in (
        omega (arith, length-take (ends - came) p),
        h ∙ ap (λ (y : Sizes). row_after y came bytes row) s ∙ shape_row (sizes_of boot) came bytes row ∙ ap (λ (x : List ℕ). row_after (sizes_of boot) came x row) c,
      )

-- where the bytes after the first 32 have been taken
module _ (k : Link) (p row : List ℕ) (c : ℕ) (next : List ℕ) where
  -- none of the piece is the bootstrap's
  pub took-body : head_of k p ≡ 0 → c ≡ k.came + length (counted k.came k.ends p) → next ≡ row_after (sizes_of k.boot) k.came (counted k.came k.ends p) row
      → (◌≡◌ {A = Link} (record { span = k.span; came = c; ends = k.ends; boot = k.boot }) (took_link k p)) × (next ≡ took_row k p row)
  took-body h a b = (
    ap (λ (x : ℕ). record { span = k.span; came = x; ends = k.ends; boot = k.boot }) a ∙ sym (took-headless k p h),
    b ∙ sym (took-row-headless k p h row),
  )

  -- its first bytes are
  took-both : c ≡ (headed k p).came + length (body_of k p) → next ≡ row_after (sizes_of (headed k p).boot) (headed k p).came (body_of k p) row
      → (◌≡◌ {A = Link} (record { span = (headed k p).span; came = c; ends = (headed k p).ends; boot = (headed k p).boot }) (took_link k p)) × (next ≡ took_row k p row)
  unfolding took_link took_row
  took-both a b = (ap (λ (x : ℕ). record { span = (headed k p).span; came = x; ends = (headed k p).ends; boot = (headed k p).boot }) a, b)

  pub took-rest : (h : ℕ) (e : Link) (rest : List ℕ) → h ≡ head_of k p → e ≡ headed k p → rest ≡ part h (length p) p → c ≡ e.came + length (counted e.came e.ends rest)
      → next ≡ row_after (sizes_of e.boot) e.came (counted e.came e.ends rest) row
      → (◌≡◌ {A = Link} (record { span = e.span; came = c; ends = e.ends; boot = e.boot }) (took_link k p)) × (next ≡ took_row k p row)
  took-rest h e rest q s t a b =
      let u : rest ≡ drop (head_of k p) p = t ∙ after_front h p ∙ ap (λ (n : ℕ). drop n p) q in
      let x = took-both
      (a ∙ ap (λ (y : List ℕ). e.came + length (counted e.came e.ends y)) u ∙ ap (λ (y : Link). y.came + length (counted y.came y.ends (drop (head_of k p) p))) s)
      (b ∙ ap (λ (y : List ℕ). row_after (sizes_of e.boot) e.came (counted e.came e.ends y) row) u
      ∙ ap (λ (y : Link). row_after (sizes_of y.boot) y.came (counted y.came y.ends (drop (head_of k p) p)) row) s) in
      (ap (λ (y : Link). record { span = y.span; came = c; ends = y.ends; boot = y.boot }) s ∙ x.0, x.1)
