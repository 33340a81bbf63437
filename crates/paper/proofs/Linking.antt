-- The laws of a link: what a piece leaves in link and row, that two pieces are as good as the one that they make, and what is known of a file whose bytes came.
use Rattle.std.specs.Prelude.{Ok, Err}
use Prim.Native.Nat.{ℕ, ◌+◌, ◌-◌, ◌*◌, ◌%◌, ◌≤◌, ◌<◌, min}
use mathlib.Core.Path.{◌≡◌, refl, sym, ◌∙◌, ap, subst}
use mathlib.Core.Bool.{Bool, true, false, cond}
use mathlib.Core.List.{List, [], ◌∷◌, ◌++◌}
use mathlib.Core.Logic.{◌≢◌, ⊎_elim}
use native.Mathlib.Omega.{arith}
use native.Mathlib.Nat.{add-zero, sub-eq-zero_of_le, le_trans, add-mul, mul-le-mul_left}
use lib.Dec.{ltb, eqb}
use lib.ListN.{length, take, drop, get_or, length-append, length-take, length-drop, replicate, take-append-drop, get_or-append}
use lib.Seq.{length-take-le, take_all, get_or-take, take-nil, take-length, drop-length, take-append-le, drop-append-le, take-append-add, drop-append-add, get_or-append-add, get_or-drop, ext_get_or}
use borrow.Author.Tests.{ltb-false, lt-ltb, le-ltb, eq-eqb, ne_eqb}
use Rattle.lent.specs.Number.{be16, be32, widened}
use Rattle.lent.specs.Lists.{table}
use Rattle.lent.specs.Checks.{Check, Fired, clear, fires, fired, answer, judge}
use Rattle.lent.specs.Part.{part, Alike}
use Rattle.lent.specs.Write.{write}
use Rattle.lent.proofs.Lists.{lt-or-ge, same_or, length-table, table_at}
use Rattle.lent.proofs.Checks.{clear-cons, clear-all, judge-clear, judge-fires, judge-append}
use Rattle.lent.proofs.Writes.{write-nothing, write-all, write-next}
use Rattle.lent.proofs.Parts.{length-part-min, length_part, part_at, part-past, take-append, part-append}
use Rattle.lent.proofs.Numbers.{number-two, number-four}
use Rattle.paper.specs.declared.sizes.Sizes.{Sizes}
use Rattle.paper.specs.declared.refusal.Refusal.{Refusal}
use Rattle.paper.specs.declared.refusal.Refusal.TheVariants.{TooShort, TooSmall, NotAllCame}
use Rattle.paper.specs.declared.link.Link.{Link}
use Rattle.paper.specs.Sizes.{sizes_of, word_at, capacity_of, home_of, bytes_of, shaped, short, size_checks, word_checks, boot_checks, Shaped}
use Rattle.paper.specs.Index.{run_of, row_run, boot_of, index_of, open_of, Booted}
use Rattle.paper.specs.Link.{fresh_link, index_end, head_of, boot_after, end_after, headed, body_of, took_link, took_row, more_of, shifted, width_of, number_at, element_after, elements_of, row_after, begin_of, take_of, take_row, came_checks, finish_of}
use Rattle.paper.proofs.Sizing.{head-long, home-end, head_in}
use Rattle.paper.proofs.Forms.{sizes-same}
use Rattle.paper.proofs.Opening.{shaped-facts, facts-shaped, booted-clear, sound-boot, boot-fires, open-index}
use Rattle.paper.proofs.Frame.{index-runs}

-- ---- numbers of which some bytes came

pub shifted-append : (v x : ℕ) (xs ys : List ℕ) → shifted v x (xs ++ ys) ≡ shifted v (shifted v x xs) ys
unfolding shifted
shifted-append v x [] ys = refl
shifted-append v x (b ∷ xs) ys = shifted-append v (more_of v x b) xs ys

-- the low 16 bits of a number are those of its 32
widened-low : (y : ℕ) → widened y % 65536 ≡ y % 65536
unfolding widened
widened-low y =
    ⊎_elim (λ (l : y < 32768). rw (lt-ltb y 32768 l)) (λ (l : 32768 ≤ y). rw (le-ltb y 32768 l) (omega arith)) (lt-or-ge y 32768)

-- whatever was there before is shifted out by two bytes, or by four
two : (x a b : ℕ) → a < 256 → b < 256 → widened ((widened ((x * 256 + a) % 65536) * 256 + b) % 65536) ≡ widened (a * 256 + b)
two x a b h i =
    let y : ℕ = (x * 256 + a) % 65536 in
    let w : ℕ = widened y in
    let l : w % 65536 ≡ y % 65536 = widened-low y in
    let e : (w * 256 + b) % 65536 ≡ a * 256 + b = omega arith in
    ap widened e

more : (x b : ℕ) → (x % 4294967296 * 256 + b) % 4294967296 ≡ (x * 256 + b) % 4294967296
more x b = omega arith

four : (x a b c d : ℕ) → a < 256 → b < 256 → c < 256 → d < 256
    → ((((x * 256 + a) % 4294967296 * 256 + b) % 4294967296 * 256 + c) % 4294967296 * 256 + d) % 4294967296 ≡ a * 16777216 + b * 65536 + c * 256 + d
four x a b c d h i j k =
    rw (more (x * 256 + a) b, more ((x * 256 + a) * 256 + b) c, more (((x * 256 + a) * 256 + b) * 256 + c) d) (omega arith)

-- the bytes of a part, one by one
part_bytes : (a n : ℕ) (f : List ℕ) → a + n ≤ length f → part a (a + n) f ≡ table n (λ i. get_or f (a + i) 0)
part_bytes a n f h =
    let g : ℕ → ℕ = λ i. get_or f (a + i) 0 in
    let l : length (part a (a + n) f) ≡ n = length_part a (a + n) f h ∙ omega arith in
    ext_get_or 0 (part a (a + n) f) (table n g) (l ∙ sym (length-table n g))
    (λ i k. part_at a (a + n) f i (omega arith) ∙ sym (table_at n g i 0 (omega arith)))

module _ (f : List ℕ) (low : (j : ℕ) → get_or f j 0 < 256) (v x a : ℕ) where
  shifted-two : v ≡ 0 → a + 2 ≤ length f → shifted v x (part a (a + 2) f) ≡ widened (be16 f a)
  unfolding shifted more_of table
  shifted-two e h =
      rw (part_bytes a 2 f h, eq-eqb v 0 e, number-two f a, add-zero a) (two x (get_or f a 0) (get_or f (a + 1) 0) (low a) (low (a + 1)))

  shifted-four : (v ≡ 0 → ⊥) → a + 4 ≤ length f → shifted v x (part a (a + 4) f) ≡ be32 f a
  unfolding shifted more_of table
  shifted-four e h =
      rw (part_bytes a 4 f h, ne_eqb v 0 e, number-four f a, add-zero a)
      (four x (get_or f a 0) (get_or f (a + 1) 0) (get_or f (a + 2) 0) (get_or f (a + 3) 0) (low a) (low (a + 1)) (low (a + 2)) (low (a + 3)))

-- all the bytes of a number: it, whatever was there before
pub shifted-word : (v x at i : ℕ) (f : List ℕ) → ((j : ℕ) → get_or f j 0 < 256) → at + width_of v * i + width_of v ≤ length f
    → shifted v x (part (at + width_of v * i) (at + width_of v * i + width_of v) f) ≡ word_at v f at i
unfolding word_at
shifted-word v x at i f low h =
    ⊎_elim (λ (e : v ≡ 0). rw (eq-eqb v 0 e) (shifted-two f low v x (at + 2 * i) e (rw (eq-eqb v 0 e) at h)))
    (λ (e : v ≢ 0). rw (ne_eqb v 0 e) (shifted-four f low v x (at + 4 * i) e (rw (ne_eqb v 0 e) at h))) (same_or v 0)

-- ---- the row

pub elements-most : (z : Sizes) → elements_of z ≤ 8192
unfolding elements_of
elements-most z = go (shaped z) refl
  where
    go : (t : Bool) → shaped z ≡ t → cond t (2 * capacity_of z) 0 ≤ 8192
    go true e = omega (arith, (shaped-facts z e).slots)
    go false e = omega arith

module _ (z : Sizes) (at : ℕ) (bytes row : List ℕ) where
  pub length-row-after : elements_of z ≤ length row → length (row_after z at bytes row) ≡ length row
  unfolding row_after
  length-row-after h = simp (length-append, length-table, length-drop) (omega arith)

  pub row-after-at : (e : ℕ) → e < elements_of z → get_or (row_after z at bytes row) e 0 ≡ element_after z at bytes row e
  unfolding row_after
  row-after-at e h =
      let f : ℕ → ℕ = element_after z at bytes row in
      get_or-append (table (elements_of z) f) (drop (elements_of z) row) 0 e (omega (arith, length-table (elements_of z) f)) ∙ table_at (elements_of z) f e 0 h

  pub row-after-past : (e : ℕ) → elements_of z ≤ e → get_or (row_after z at bytes row) e 0 ≡ get_or row e 0
  unfolding row_after
  row-after-past e h =
      let n : ℕ = elements_of z in
      let f : ℕ → ℕ = element_after z at bytes row in
      let i : e ≡ length (table n f) + (e - n) = omega (arith, length-table n f) in
      let j : n + (e - n) ≡ e = omega arith in
      ap (λ (k : ℕ). get_or (table n f ++ drop n row) k 0) i ∙ get_or-append-add (table n f) (drop n row) (e - n) 0 ∙ get_or-drop n row (e - n) 0
      ∙ ap (λ (k : ℕ). get_or row k 0) j

  pub row-after-is : (g : List ℕ) → length g ≡ length row → elements_of z ≤ length row
      → ((e : ℕ) → e < elements_of z → get_or g e 0 ≡ element_after z at bytes row e)
      → ((e : ℕ) → elements_of z ≤ e → get_or g e 0 ≡ get_or row e 0) → g ≡ row_after z at bytes row
  row-after-is g l h front rest =
      ext_get_or 0 g (row_after z at bytes row) (l ∙ sym (length-row-after h))
      (λ e i. ⊎_elim (λ (k : e < elements_of z). front e k ∙ sym (row-after-at e k)) (λ (k : elements_of z ≤ e). rest e k ∙ sym (row-after-past e k)) (lt-or-ge e (elements_of z)))

module _ (z : Sizes) (at : ℕ) where
  pub element-after-none : (row : List ℕ) (e : ℕ) → element_after z at [] row e ≡ get_or row e 0
  unfolding element_after shifted
  element-after-none row e = rw (part-past (number_at z e - at) (number_at z e + width_of z.version - at) [] (omega arith))

  pub row-after-none : (row : List ℕ) → elements_of z ≤ length row → row_after z at [] row ≡ row
  row-after-none row h = sym (row-after-is z at [] row row refl h (λ e k. sym (element-after-none row e)) (λ e k. refl))

  -- two runs of bytes, one after the other
  pub element-after-join : (xs ys row new : List ℕ) (e : ℕ) → get_or new e 0 ≡ element_after z at xs row e
      → element_after z (at + length xs) ys new e ≡ element_after z at (xs ++ ys) row e
  unfolding element_after
  element-after-join xs ys row new e h =
      let v : ℕ = z.version in
      let a : ℕ = number_at z e in
      let b : ℕ = a + width_of v in
      let x : ℕ = get_or row e 0 in
      let i : a - (at + length xs) ≡ a - at - length xs = omega arith in
      let j : b - (at + length xs) ≡ b - at - length xs = omega arith in
      rw (i, j, h, part-append (a - at) (b - at) xs ys) (sym (shifted-append v x (part (a - at) (b - at) xs) (part (a - at - length xs) (b - at - length xs) ys)))

  pub row-after-join : (xs ys row : List ℕ) → elements_of z ≤ length row
      → row_after z (at + length xs) ys (row_after z at xs row) ≡ row_after z at (xs ++ ys) row
  row-after-join xs ys row h =
      let new : List ℕ = row_after z at xs row in
      let l : length new ≡ length row = length-row-after z at xs row h in
      row-after-is z at (xs ++ ys) row (row_after z (at + length xs) ys new) (length-row-after z (at + length xs) ys new (omega arith) ∙ l) h
      (λ e k. row-after-at z (at + length xs) ys new e k ∙ element-after-join xs ys row new e (row-after-at z at xs row e k))
      (λ e k. row-after-past z (at + length xs) ys new e k ∙ row-after-past z at xs row e k)

-- ---- a piece

-- every index has its place in the row
fits : (boot row : List ℕ) → 8192 ≤ length row → elements_of (sizes_of boot) ≤ length row
fits boot row h = le_trans (elements-most (sizes_of boot)) h

module _ (k : Link) (p : List ℕ) where
  -- how many bytes of it are the bootstrap's
  pub head_short : k.span < 512 → head_of k p ≡ 0
  unfolding head_of
  head_short h = rw (lt-ltb k.span 512 h)

  pub head-min : 512 ≤ k.span → head_of k p ≡ min (32 - k.came) (length p)
  unfolding head_of
  head-min h = rw (le-ltb k.span 512 h)

  pub head-most : head_of k p ≤ length p
  head-most =
      ⊎_elim (λ (h : k.span < 512). omega (arith, head_short h)) (λ (h : 512 ≤ k.span). omega (arith, head-min h)) (lt-or-ge k.span 512)

  -- no more counts than came
  pub took-most : (took_link k p).came ≤ k.came + length p
  unfolding took_link
  took-most =
      let l = length-take ((headed k p).ends - (headed k p).came) (drop (head_of k p) p) in
      omega (arith, head-most, length-drop (head_of k p) p)

  -- where the index ends, as long as that was not known before
  pub ends-new : k.came < 32 → k.ends ≡ 0 → (headed k p).ends ≡ end_after k.span (k.came + head_of k p) (boot_after k p)
  ends-new h e =
      ⊎_elim
      (λ (i : head_of k p ≡ 0). rw (eq-eqb (head_of k p) 0 i, lt-ltb (k.came + head_of k p) 32 (omega arith)) e)
      (λ (i : head_of k p ≢ 0). rw (ne_eqb (head_of k p) 0 i)) (same_or (head_of k p) 0)

  -- link and row, by the bytes that count
  module _ {c e : ℕ} {boot rest : List ℕ} (came : k.came + head_of k p ≡ c) (ends : (headed k p).ends ≡ e) (boots : boot_after k p ≡ boot)
      (rests : drop (head_of k p) p ≡ rest) where
    took-is : took_link k p ≡ record { span = k.span; came = c + length (take (e - c) rest); ends = e; boot = boot }
    unfolding took_link
    took-is = rw (ends, boots, rests, came)

    took-row-is : (row : List ℕ) → took_row k p row ≡ row_after (sizes_of boot) c (take (e - c) rest) row
    unfolding took_row
    took-row-is row =
        ap (λ (x : List ℕ). row_after (sizes_of x) (headed k p).came (body_of k p) row) boots
        ∙ ap (λ (x : List ℕ). row_after (sizes_of boot) (headed k p).came (take ((headed k p).ends - (headed k p).came) x) row) rests
        ∙ ap (λ (x : ℕ). row_after (sizes_of boot) (headed k p).came (take (x - (headed k p).came) rest) row) ends
        ∙ ap (λ (x : ℕ). row_after (sizes_of boot) x (take (e - x) rest) row) came

  -- no byte of it is the bootstrap's
  module _ (none : head_of k p ≡ 0) where
    headless-came : k.came + head_of k p ≡ k.came
    headless-came = omega arith

    headless-ends : (headed k p).ends ≡ k.ends
    headless-ends = rw (eq-eqb (head_of k p) 0 none)

    headless-boot : boot_after k p ≡ k.boot
    headless-boot = rw none (write-nothing k.boot k.came)

    headless-rest : drop (head_of k p) p ≡ p
    headless-rest = rw none

    pub took-headless : took_link k p ≡ record { span = k.span; came = k.came + length (take (k.ends - k.came) p); ends = k.ends; boot = k.boot }
    took-headless = took-is headless-came headless-ends headless-boot headless-rest

    pub took-row-headless : (row : List ℕ) → took_row k p row ≡ row_after (sizes_of k.boot) k.came (take (k.ends - k.came) p) row
    took-row-headless = took-row-is headless-came headless-ends headless-boot headless-rest

    -- nor does any count
    module _ (over : take (k.ends - k.came) p ≡ []) where
      pub took-still : took_link k p ≡ k
      took-still = took-headless ∙ rw (over, add-zero k.came)

      pub took-row-still : (row : List ℕ) → 8192 ≤ length row → took_row k p row ≡ row
      took-row-still row h =
          took-row-headless row ∙ ap (λ (xs : List ℕ). row_after (sizes_of k.boot) k.came xs row) over
          ∙ row-after-none (sizes_of k.boot) k.came row (fits k.boot row h)

-- ---- two pieces

-- nothing came
module _ (k : Link) where
  pub took-none : took_link k [] ≡ k
  took-none = took-still k [] (omega (arith, head-most k [])) (take-nil (k.ends - k.came))

  pub took-row-none : (row : List ℕ) → 8192 ≤ length row → took_row k [] row ≡ row
  took-row-none = took-row-still k [] (omega (arith, head-most k [])) (take-nil (k.ends - k.came))

-- the first leaves some bytes of the bootstrap to come
module _ (k : Link) (a b : List ℕ) (made : length k.boot ≡ 32) (long : 512 ≤ k.span) (some : 0 < length a) (few : k.came + length a < 32) where
  abbrev early : Link
  early = record { span = k.span; came = k.came + length a; ends = 0; boot = write k.boot k.came a }

  head_all : head_of k a ≡ length a
  head_all = omega (arith, head-min k a long)

  early-came : k.came + head_of k a ≡ k.came + length a
  early-came = omega (arith, head_all)

  early-ends : (headed k a).ends ≡ 0
  early-ends = rw (ne_eqb (head_of k a) 0 (λ e. omega (arith, head_all)), lt-ltb (k.came + head_of k a) 32 (omega (arith, head_all)))

  early-boot : boot_after k a ≡ write k.boot k.came a
  early-boot = ap (write k.boot k.came) (ap (λ (n : ℕ). take n a) head_all ∙ take-length a)

  early-rest : drop (head_of k a) a ≡ []
  early-rest = ap (λ (n : ℕ). drop n a) head_all ∙ drop-length a

  took-early : took_link k a ≡ early
  took-early = took-is k a early-came early-ends early-boot early-rest ∙ rw (take-nil {A = ℕ} (0 - (k.came + length a)), add-zero (k.came + length a))

  took-row-early : (row : List ℕ) → 8192 ≤ length row → took_row k a row ≡ row
  took-row-early row h =
      took-row-is k a early-came early-ends early-boot early-rest row
      ∙ ap (λ (xs : List ℕ). row_after (sizes_of (write k.boot k.came a)) (k.came + length a) xs row) (take-nil (0 - (k.came + length a)))
      ∙ row-after-none (sizes_of (write k.boot k.came a)) (k.came + length a) row (fits (write k.boot k.came a) row h)

  head-sum : head_of k (a ++ b) ≡ length a + head_of early b
  head-sum = omega (arith, head-min k (a ++ b) long, head-min early b long, length-append a b)

  sum-came : k.came + head_of k (a ++ b) ≡ k.came + length a + head_of early b
  sum-came = omega (arith, head-sum)

  sum-boot : boot_after k (a ++ b) ≡ boot_after early b
  sum-boot =
      ap (write k.boot k.came) (ap (λ (n : ℕ). take n (a ++ b)) head-sum ∙ take-append-add a b (head_of early b))
      ∙ sym (write-next k.boot k.came a (take (head_of early b) b) (omega arith))

  sum-ends : (headed k (a ++ b)).ends ≡ (headed early b).ends
  sum-ends =
      rw (ne_eqb (head_of k (a ++ b)) 0 (λ e. omega (arith, head-sum))) refl
      ∙ ap (λ (n : ℕ). end_after k.span n (boot_after k (a ++ b))) sum-came
      ∙ ap (λ (x : List ℕ). end_after k.span (k.came + length a + head_of early b) x) sum-boot
      ∙ sym (ends-new early b few refl)

  sum-rest : drop (head_of k (a ++ b)) (a ++ b) ≡ drop (head_of early b) b
  sum-rest = ap (λ (n : ℕ). drop n (a ++ b)) head-sum ∙ drop-append-add a b (head_of early b)

  early-uncut : took_link (took_link k a) b ≡ took_link k (a ++ b)
  early-uncut =
      ap (λ (j : Link). took_link j b) took-early ∙ took-is early b refl refl refl refl
      ∙ sym (took-is k (a ++ b) sum-came sum-ends sum-boot sum-rest)

  early-row-uncut : (row : List ℕ) → 8192 ≤ length row → took_row (took_link k a) b (took_row k a row) ≡ took_row k (a ++ b) row
  early-row-uncut row h =
      ap (took_row (took_link k a) b) (took-row-early row h) ∙ ap (λ (j : Link). took_row j b row) took-early
      ∙ took-row-is early b refl refl refl refl row ∙ sym (took-row-is k (a ++ b) sum-came sum-ends sum-boot sum-rest row)

-- the first brings the bootstrap's bytes, or none is asked for
module _ (k : Link) (a b : List ℕ) (all : 512 ≤ k.span → 32 ≤ k.came + length a) where
  head-same : head_of k (a ++ b) ≡ head_of k a
  head-same =
      ⊎_elim (λ (s : k.span < 512). head_short k (a ++ b) s ∙ sym (head_short k a s))
      (λ (s : 512 ≤ k.span). omega (arith, head-min k (a ++ b) s, head-min k a s, length-append a b, all s)) (lt-or-ge k.span 512)

  head-over : head_of (took_link k a) b ≡ 0
  unfolding took_link
  head-over =
      ⊎_elim (λ (s : k.span < 512). head_short (took_link k a) b s)
      (λ (s : 512 ≤ k.span). head-min (took_link k a) b s ∙ omega (arith, head-min k a s, all s)) (lt-or-ge k.span 512)

  late-boot : boot_after k (a ++ b) ≡ boot_after k a
  late-boot = ap (write k.boot k.came) (ap (λ (n : ℕ). take n (a ++ b)) head-same ∙ take-append-le (head_of k a) a b (head-most k a))

  late-ends : (headed k (a ++ b)).ends ≡ (headed k a).ends
  late-ends =
      let by : ℕ → List ℕ → ℕ = λ h boot. cond (eqb h 0) k.ends (end_after k.span (k.came + h) boot) in
      ap (λ (h : ℕ). by h (boot_after k (a ++ b))) head-same ∙ ap (by (head_of k a)) late-boot

  late-rest : drop (head_of k (a ++ b)) (a ++ b) ≡ drop (head_of k a) a ++ b
  late-rest = ap (λ (n : ℕ). drop n (a ++ b)) head-same ∙ drop-append-le (head_of k a) a b (head-most k a)

  abbrev came₁ : ℕ
  came₁ = (headed k a).came + length (body_of k a)

  body-join : take ((headed k a).ends - (headed k a).came) (drop (head_of k a) a ++ b) ≡ body_of k a ++ take ((headed k a).ends - came₁) b
  body-join =
      let e : ℕ = (headed k a).ends in
      let c : ℕ = (headed k a).came in
      let x : List ℕ = drop (head_of k a) a in
      let n : e - c - length x ≡ e - (c + length (take (e - c) x)) = omega (arith, length-take (e - c) x) in
      take-append (e - c) x b ∙ ap (λ (m : ℕ). take (e - c) x ++ take m b) n

  late-uncut : took_link (took_link k a) b ≡ took_link k (a ++ b)
  unfolding took_link
  late-uncut =
      let n : came₁ + length (take ((headed k a).ends - came₁) b) ≡ (headed k a).came + length (take ((headed k a).ends - (headed k a).came) (drop (head_of k a) a ++ b)) =
      omega (arith, ap length body-join, length-append (body_of k a) (take ((headed k a).ends - came₁) b)) in
      took-headless (took_link k a) b head-over
      ∙ ap (λ (m : ℕ). record { span = k.span; came = m; ends = (headed k a).ends; boot = boot_after k a }) n
      ∙ sym (took-is k (a ++ b) (ap (λ (m : ℕ). k.came + m) head-same) late-ends late-boot late-rest)

  late-row-uncut : (row : List ℕ) → 8192 ≤ length row → took_row (took_link k a) b (took_row k a row) ≡ took_row k (a ++ b) row
  unfolding took_link took_row
  late-row-uncut row h =
      took-row-headless (took_link k a) b head-over (took_row k a row)
      ∙ row-after-join (sizes_of (boot_after k a)) (headed k a).came (body_of k a) (take ((headed k a).ends - came₁) b) row (fits (boot_after k a) row h)
      ∙ ap (λ (xs : List ℕ). row_after (sizes_of (boot_after k a)) (headed k a).came xs row) (sym body-join)
      ∙ sym (took-row-is k (a ++ b) (ap (λ (m : ℕ). k.came + m) head-same) late-ends late-boot late-rest row)

-- one or the other
either_way : {P : Type 0} (k : Link) (a : List ℕ) → (512 ≤ k.span → k.came + length a < 32 → P) → ((512 ≤ k.span → 32 ≤ k.came + length a) → P) → P
either_way k a early late =
    ⊎_elim (λ (s : k.span < 512). late (λ l. omega arith))
    (λ (s : 512 ≤ k.span). ⊎_elim (early s) (λ (h : 32 ≤ k.came + length a). late (λ l. h)) (lt-or-ge (k.came + length a) 32)) (lt-or-ge k.span 512)

-- cut anywhere
pub took-uncut : (k : Link) (a b : List ℕ) → length k.boot ≡ 32 → took_link (took_link k a) b ≡ took_link k (a ++ b)
took-uncut k [] b made = ap (λ (j : Link). took_link j b) (took-none k)
took-uncut k (x ∷ xs) b made = either_way k (x ∷ xs) (λ s h. early-uncut k (x ∷ xs) b made s (omega arith) h) (late-uncut k (x ∷ xs) b)

pub took-row-uncut : (k : Link) (a b row : List ℕ) → length k.boot ≡ 32 → 8192 ≤ length row
    → took_row (took_link k a) b (took_row k a row) ≡ took_row k (a ++ b) row
took-row-uncut k [] b row made h = ap (took_row (took_link k []) b) (took-row-none k row h) ∙ ap (λ (j : Link). took_row j b row) (took-none k)
took-row-uncut k (x ∷ xs) b row made h =
    either_way k (x ∷ xs) (λ s i. early-row-uncut k (x ∷ xs) b made s (omega arith) i row h) (λ i. late-row-uncut k (x ∷ xs) b i row h)

-- what a piece leaves of the row
module _ (k : Link) (p row : List ℕ) where
  pub took-row-length : 8192 ≤ length row → length (took_row k p row) ≡ length row
  unfolding took_row
  took-row-length h = length-row-after (sizes_of (boot_after k p)) (headed k p).came (body_of k p) row (fits (boot_after k p) row h)

  pub took-row-past : (i : ℕ) → 8192 ≤ i → get_or (took_row k p row) i 0 ≡ get_or row i 0
  unfolding took_row
  took-row-past i h =
      row-after-past (sizes_of (boot_after k p)) (headed k p).came (body_of k p) row i (le_trans (elements-most (sizes_of (boot_after k p))) h)

-- ---- the calls

module _ (len : ℕ) (row : List ℕ) where
  pub begin-long : 8192 ≤ length row → begin_of len row ≡ Ok (fresh_link len)
  unfolding begin_of
  begin-long h = rw (le-ltb (length row) 8192 h)

  pub begin-short : length row < 8192 → begin_of len row ≡ Err TooSmall
  unfolding begin_of
  begin-short h = rw (lt-ltb (length row) 8192 h)

module _ (k : Link) (p row : List ℕ) where
  pub take_long : 8192 ≤ length row → take_of k p row ≡ Ok (took_link k p)
  unfolding take_of
  take_long h = rw (le-ltb (length row) 8192 h)

  pub take_short : length row < 8192 → take_of k p row ≡ Err TooSmall
  unfolding take_of
  take_short h = rw (lt-ltb (length row) 8192 h)

  pub take-row-long : 8192 ≤ length row → take_row k p row ≡ took_row k p row
  unfolding take_row
  take-row-long h = rw (le-ltb (length row) 8192 h)

  pub take-row-short : length row < 8192 → take_row k p row ≡ row
  unfolding take_row
  take-row-short h = rw (lt-ltb (length row) 8192 h)

  pub take-row-length : length (take_row k p row) ≡ length row
  take-row-length =
      ⊎_elim (λ (h : length row < 8192). ap length (take-row-short h)) (λ (h : 8192 ≤ length row). ap length (take-row-long h) ∙ took-row-length k p row h)
      (lt-or-ge (length row) 8192)

  pub take-row-past : (i : ℕ) → 8192 ≤ i → get_or (take_row k p row) i 0 ≡ get_or row i 0
  take-row-past i l =
      ⊎_elim (λ (h : length row < 8192). ap (λ (r : List ℕ). get_or r i 0) (take-row-short h))
      (λ (h : 8192 ≤ length row). ap (λ (r : List ℕ). get_or r i 0) (take-row-long h) ∙ took-row-past k p row i l) (lt-or-ge (length row) 8192)

-- ---- a link that was begun

pub index-end-most : (len : ℕ) (z : Sizes) → index_end len z ≤ len
unfolding index_end
index-end-most len z = go (fired (size_checks len z)) refl
  where
    go : (x : Fired Refusal) → fired (size_checks len z) ≡ x → answer (λ (r : Refusal). 0) (z.n * z.l) x ≤ len
    go clear e = let c = clear-all (size_checks len z) e in omega (arith, ltb-false len (bytes_of z) c.1.1.0, add-mul z.n z.d z.l)
    go (fires r) e = omega arith

module _ (len : ℕ) (p : List ℕ) where
  abbrev fresh : Link
  fresh = fresh_link len

  fresh-ends : (headed fresh p).ends ≤ len
  fresh-ends = omega (arith, ends-new fresh p (omega arith) refl, go (ltb (headed fresh p).came 32))
    where
      go : (t : Bool) → cond t 0 (index_end len (sizes_of (boot_after fresh p))) ≤ len
      go true = omega arith
      go false = index-end-most len (sizes_of (boot_after fresh p))

  -- no more than the length given
  pub took-within : (took_link fresh p).came ≤ len
  unfolding took_link
  took-within =
      let e = fresh-ends in
      let l = length-take ((headed fresh p).ends - (headed fresh p).came) (drop (head_of fresh p) p) in
      ⊎_elim (λ (h : len < 512). omega (arith, head_short fresh p h)) (λ (h : 512 ≤ len). omega (arith, head-min fresh p h)) (lt-or-ge len 512)

  took-whole : length p ≡ len → (took_link fresh p).ends ≤ (took_link fresh p).came
  unfolding took_link
  took-whole h =
      let e = fresh-ends in
      let m = head-most fresh p in
      let l = length-take ((headed fresh p).ends - (headed fresh p).came) (drop (head_of fresh p) p) in
      let d = length-drop (head_of fresh p) p in
      omega arith

  -- and bytes past it count for nothing
  module _ (q : List ℕ) (whole : length p ≡ len) where
    past_head : head_of (took_link fresh p) q ≡ 0
    past_head = head-over fresh p q (λ s. omega arith)

    past-over : take ((took_link fresh p).ends - (took_link fresh p).came) q ≡ []
    past-over = rw (sub-eq-zero_of_le (took-whole whole))

    past-link : took_link fresh (p ++ q) ≡ took_link fresh p
    past-link = sym (took-uncut fresh p q refl) ∙ took-still (took_link fresh p) q past_head past-over

    past_row : (row : List ℕ) → 8192 ≤ length row → took_row fresh (p ++ q) row ≡ took_row fresh p row
    past_row row h =
        sym (took-row-uncut fresh p q row refl h)
        ∙ took-row-still (took_link fresh p) q past_head past-over (took_row fresh p row) (omega (arith, took-row-length fresh p row h))

module _ (len : ℕ) (p : List ℕ) where
  -- whatever rests on a run of bytes and is left as it was by bytes past the length
  to-length : {A : Type 0} (of : List ℕ → A) → ((a b : List ℕ) → length a ≡ len → of (a ++ b) ≡ of a) → of p ≡ of (take len p)
  to-length of over =
      ⊎_elim
      (λ (h : len < length p). ap of (sym (take-append-drop len p)) ∙ over (take len p) (drop len p) (length-take-le len p (omega arith)))
      (λ (h : length p ≤ len). ap of (sym (take_all len p h))) (lt-or-ge len (length p))

  pub took-past : took_link (fresh_link len) p ≡ took_link (fresh_link len) (take len p)
  took-past = to-length (took_link (fresh_link len)) (λ a b e. past-link len a b e)

  pub took-row-over : (row : List ℕ) → 8192 ≤ length row → took_row (fresh_link len) p row ≡ took_row (fresh_link len) (take len p) row
  took-row-over row h = to-length (λ a. took_row (fresh_link len) a row) (λ a b e. past_row len a b e row h)

-- ---- what finish says

pub finish-small : (k : Link) (row : List ℕ) → length row < 8192 → finish_of k row ≡ Err TooSmall
unfolding finish_of
finish-small k row h = rw (lt-ltb (length row) 8192 h)

module _ (k : Link) (row : List ℕ) (enough : 8192 ≤ length row) where
  pub finish-short : k.span < 512 → finish_of k row ≡ Err TooShort
  unfolding finish_of
  finish-short h = rw (le-ltb (length row) 8192 enough, lt-ltb k.span 512 h)

  pub finish-early : 512 ≤ k.span → k.came < 32 → finish_of k row ≡ Err NotAllCame
  unfolding finish_of
  finish-early h l = rw (le-ltb (length row) 8192 enough, le-ltb k.span 512 h, lt-ltb k.came 32 l)

  -- the bootstrap's own, and then the index's
  pub finish-boot : 32 ≤ k.came
      → finish_of k row
      ≡ judge Err (short k.span ∷ size_checks k.span (sizes_of k.boot)) (judge Err (came_checks k (sizes_of k.boot) (row_run row)) (Ok (sizes_of k.boot)))
  unfolding finish_of
  finish-boot h =
      let z : Sizes = sizes_of k.boot in
      let cs : List (Check Refusal) = short k.span ∷ size_checks k.span z in
      rw (le-ltb (length row) 8192 enough, le-ltb k.came 32 h) (judge-append Err cs (came_checks k z (row_run row)) (Ok z))

-- ---- a file whose bytes come

pub width-most : (v : ℕ) → width_of v ≤ 4
width-most v = go (eqb v 0)
  where
    go : (t : Bool) → cond t 2 4 ≤ 4
    go true = omega arith
    go false = omega arith

pub elements-shaped : (z : Sizes) → Shaped z → elements_of z ≡ 2 * capacity_of z
unfolding elements_of
elements-shaped z h = rw (facts-shaped z h)

pub index-end-booted : {f : List ℕ} {z : Sizes} → Booted f z → index_end (length f) z ≡ z.n * z.l
unfolding index_end
index-end-booted {f} {z} B =
    let c : fired (size_checks (length f) (sizes_of f)) ≡ clear = (clear-cons (ltb (length f) 512) TooShort (word_checks f) (booted-clear B)).1 in
    judge-clear (λ (r : Refusal). 0) (size_checks (length f) z) (z.n * z.l) (subst (λ (y : Sizes). fired (size_checks (length f) y) ≡ clear) B.reads c)

-- a part of what came past byte c
came-part : (f b : List ℕ) (c n x y : ℕ) → c ≤ x → y ≤ n → y ≤ length b → y ≤ length f → Alike f b x y → part (x - c) (y - c) (part c n b) ≡ part x y f
came-part f b c n x y h i j k same =
    let p : y - c ≤ length (part c n b) = omega (arith, length-part-min c n b) in
    let q : length (part (x - c) (y - c) (part c n b)) ≡ y - x = length_part (x - c) (y - c) (part c n b) p ∙ omega arith in
    ext_get_or 0 (part (x - c) (y - c) (part c n b)) (part x y f) (q ∙ sym (length_part x y f k))
    (λ m l.
    let e : c + (x - c + m) ≡ x + m = omega arith in
    part_at (x - c) (y - c) (part c n b) m (omega arith) ∙ part_at c n b (x - c + m) (omega arith) ∙ ap (λ (o : ℕ). get_or b o 0) e
    ∙ same (x + m) (omega arith) (omega arith) ∙ sym (part_at x y f m (omega arith)))

module _ (f b : List ℕ) (long : 512 ≤ length f) (begun : 32 ≤ length b) (comes : (i : ℕ) → i < length f → i < length b → get_or b i 0 ≡ get_or f i 0) where
  abbrev given : Link
  given = fresh_link (length f)

  file-head : head_of given b ≡ 32
  file-head = omega (arith, head-min given b long)

  file-came : (headed given b).came ≡ 32
  file-came = omega (arith, file-head)

  file-rest : drop (head_of given b) b ≡ drop 32 b
  file-rest = ap (λ (n : ℕ). drop n b) file-head

  file-boot : boot_after given b ≡ take 32 b
  file-boot =
      ap (λ (n : ℕ). write (replicate 32 0) 0 (take n b)) file-head ∙ write-all (replicate 32 0) (take 32 b) (omega (arith, length-take-le 32 b begun))

  file-sizes : sizes_of (boot_after given b) ≡ sizes_of f
  file-sizes = ap sizes_of file-boot ∙ sizes-same f (take 32 b) (λ i lo hi. get_or-take 32 b i 0 hi ∙ comes i (omega arith) (omega arith))

  pub took-sizes : sizes_of (took_link given b).boot ≡ sizes_of f
  unfolding took_link
  took-sizes = file-sizes

  pub took-begun : 32 ≤ (took_link given b).came
  unfolding took_link
  took-begun = omega (arith, file-head)

  module _ {z : Sizes} (B : Booted f z) where
    file-ends : (headed given b).ends ≡ z.n * z.l
    file-ends =
        ends-new given b (omega arith) refl
        ∙ rw (le-ltb (headed given b).came 32 (omega (arith, file-head))) (ap (index_end (length f)) (file-sizes ∙ B.reads) ∙ index-end-booted B)

    pub took-came : (took_link given b).came ≡ min (z.n * z.l) (length b)
    took-came =
        ap (λ (j : Link). j.came) (took-is given b file-came file-ends refl file-rest)
        ∙ omega (arith, length-part-min 32 (z.n * z.l) b, head-long z B.ranged.shape)

    file-row : (row : List ℕ) → took_row given b row ≡ row_after z 32 (part 32 (z.n * z.l) b) row
    file-row row =
        took-row-is given b file-came file-ends refl file-rest row
        ∙ ap (λ (y : Sizes). row_after y 32 (part 32 (z.n * z.l) b) row) (file-sizes ∙ B.reads)

    -- the run of a slot whose numbers came
    module _ (low : (i : ℕ) → get_or f i 0 < 256) (row : List ℕ) (s : ℕ) (first : 1 ≤ s) (last : s ≤ capacity_of z)
        (held : home_of z s + 2 * width_of z.version ≤ length b) where
      number-came : (i : ℕ) → i ≤ 1 → get_or (took_row given b row) (2 * (s - 1) + i) 0 ≡ word_at z.version f (home_of z s) i
      unfolding element_after
      number-came i h =
          let v : ℕ = z.version in
          let e : ℕ = 2 * (s - 1) + i in
          let x : ℕ = home_of z s + width_of v * i in
          let body : List ℕ = part 32 (z.n * z.l) b in
          let n : number_at z e ≡ x =
          ap (λ (t : ℕ). home_of z t + width_of v * (e % 2)) (omega arith) ∙ ap (λ (t : ℕ). home_of z s + width_of v * t) (omega arith) in
          let w : width_of v ≤ 4 = width-most v in
          let m : width_of v * i ≤ width_of v = omega (arith, mul-le-mul_left (width_of v) h) in
          let end : x + width_of v ≤ z.n * z.l = omega (arith, home-end z B.ranged.shape s first last, B.ranged.shape.m_low) in
          let far : x + width_of v ≤ length f = omega (arith, head_in B) in
          ap (λ (r : List ℕ). get_or r e 0) (file-row row)
          ∙ row-after-at z 32 body row e (omega (arith, elements-shaped z B.ranged.shape))
          ∙ ap (λ (a : ℕ). shifted v (get_or row e 0) (part (a - 32) (a + width_of v - 32) body)) n
          ∙ ap (shifted v (get_or row e 0))
          (came-part f b 32 (z.n * z.l) x (x + width_of v) (omega (arith, B.ranged.shape.l_low)) end (omega arith) far
          (λ j lo hi. comes j (omega arith) (omega arith)))
          ∙ shifted-word v (get_or row e 0) (home_of z s) i f low far

      pub took-run : row_run (took_row given b row) s ≡ run_of f z s
      unfolding row_run
      took-run =
          let a : get_or (took_row given b row) (2 * (s - 1)) 0 ≡ word_at z.version f (home_of z s) 0 =
          ap (λ (i : ℕ). get_or (took_row given b row) i 0) (sym (add-zero (2 * (s - 1)))) ∙ number-came 0 (omega arith) in
          rw (a, number-came 1 (omega arith))

  -- what finish says of it
  module _ (row : List ℕ) (enough : 8192 ≤ length row) where
    abbrev link : Link
    link = took_link given b

    abbrev new : List ℕ
    new = took_row given b row

    finish-file : finish_of link new ≡ judge Err (boot_checks f) (judge Err (came_checks link (sizes_of f) (row_run new)) (Ok (sizes_of f)))
    unfolding took_link
    finish-file =
        finish-boot link new (omega (arith, took-row-length given b row enough)) took-begun
        ∙ ap (λ (y : Sizes). judge Err (short (length f) ∷ size_checks (length f) y) (judge Err (came_checks link y (row_run new)) (Ok y))) took-sizes

    pub finish-refused : {r : Refusal} → boot_of f ≡ Err r → finish_of link new ≡ Err r
    finish-refused {r} e = finish-file ∙ judge-fires Err (boot_checks f) _ r (boot-fires f e)

    module _ {z : Sizes} (B : Booted f z) where
      finish-index : finish_of link new ≡ judge Err (came_checks link z (row_run new)) (Ok z)
      finish-index =
          finish-file ∙ judge-clear Err (boot_checks f) _ (booted-clear B)
          ∙ ap (λ (y : Sizes). judge Err (came_checks link y (row_run new)) (Ok y)) B.reads

      pub finish-part : length b < z.n * z.l → finish_of link new ≡ Err NotAllCame
      finish-part h = finish-index ∙ rw (lt-ltb link.came (z.n * z.l) (omega (arith, took-came B)))

      pub finish-whole : ((i : ℕ) → get_or f i 0 < 256) → z.n * z.l ≤ length b → finish_of link new ≡ open_of f
      unfolding index_of
      finish-whole low h =
          let R = B.ranged.shape in
          let i : judge Err (came_checks link z (row_run new)) (Ok z) ≡ index_of z (row_run new) =
          rw (le-ltb link.came (z.n * z.l) (omega (arith, took-came B))) in
          finish-index ∙ i
          ∙ index-runs z (row_run new) (run_of f z) B.ranged.used
          (λ s p q. took-run B low row s p q (omega (arith, home-end z R s p q, width-most z.version, R.m_low)))
          ∙ sym (open-index f (sound-boot B))
