-- The laws of a part, of two runs with the same bytes in a range, and what a change does to both.
use Rattle.std.proofs.Common.{◌≡◌, ℕ, zero, suc, ◌+◌, ◌-◌, ◌<◌, ◌≤◌, min, ltb, ◌⊎◌, List, [], ◌∷◌, ◌++◌, length, get_or, take, drop, sym, ap, ◌∙◌, inl, inr, ⊎_elim, add_assoc, sub-eq-zero_of_le, arith, length-append, length-drop, drop_of_length-le, length-take, length-take-le, get_or-drop, take_all, get_or-take, get_or-append-add, ext_get_or, drop_at, le-ltb, lt-ltb}
use native.Mathlib.Nat.{add-sub_cancel_left, zero-sub, sub-zero, suc-sub-suc}
use lib.ListN.{get_or-append, get_or-eq_default}
use lib.Seq.{take-nil, take-append_seam}
use Rattle.lent.specs.Part.{part, place_in, bytes_on, Alike}
use Rattle.lent.specs.Write.{write, pad}
use Rattle.lent.proofs.Lists.{lt-or-ge, also-false}
use Rattle.lent.proofs.Writes.{write-before, write-after, length-pad, pad-at}

-- ---- a part

pub length-part-min : (from to : ℕ) (s : List ℕ) → length (part from to s) ≡ min (to - from) (length s - from)
length-part-min from to s = simp (length-take, length-drop)

pub length_part : (from to : ℕ) (s : List ℕ) → to ≤ length s → length (part from to s) ≡ to - from
length_part from to s h = omega (arith, length-part-min from to s)

pub part_at : (from to : ℕ) (s : List ℕ) (i : ℕ) → i < to - from → get_or (part from to s) i 0 ≡ get_or s (from + i) 0
part_at from to s i h = get_or-take (to - from) (drop from s) i 0 h ∙ get_or-drop from s i 0

pub part_none : (from to : ℕ) (s : List ℕ) → to ≤ from → part from to s ≡ []
part_none from to s h = rw (sub-eq-zero_of_le h)

pub part-past : (from to : ℕ) (s : List ℕ) → length s ≤ from → part from to s ≡ []
part-past from to s h = rw (drop_of_length-le s h) (take-nil (to - from))

-- a part that asks for more than there is
pub part-rest : (from to : ℕ) (s : List ℕ) → length s ≤ to → part from (length s) s ≡ part from to s
part-rest from to s h =
    take_all (length s - from) (drop from s) (simp length-drop (omega arith)) ∙ sym (take_all (to - from) (drop from s) (simp length-drop (omega arith)))

-- a part up to there, or up to the end where that comes first
pub part-cut : (from to : ℕ) (s : List ℕ) → part from (min to (length s)) s ≡ part from to s
part-cut from to s =
    ⊎_elim (λ (h : to < length s). ap (λ (n : ℕ). part from n s) (omega arith))
    (λ (h : length s ≤ to). ap (λ (n : ℕ). part from n s) (omega arith) ∙ part-rest from to s h) (lt-or-ge to (length s))

pub part-empty : (from to : ℕ) (s : List ℕ) → min to (length s) ≤ from → part from to s ≡ []
part-empty from to s h = sym (part-cut from to s) ∙ part_none from (min to (length s)) s h

-- at which byte it begins, and the address of that byte
pub place-some : (from to : ℕ) (s : List ℕ) → from < length s → from < to → place_in from to s ≡ from
unfolding place_in
place-some from to s h k = rw (lt-ltb from (length s) h, lt-ltb from to k)

min-le : {a b n : ℕ} → min a b ≤ n → (a ≤ n) ⊎ (b ≤ n)
min-le {a} {b} {n} h = ⊎_elim (λ (k : n < a). inr (omega arith)) (λ (k : a ≤ n). inl k) (lt-or-ge n a)

pub place-empty : (from to : ℕ) (s : List ℕ) → min to (length s) ≤ from → place_in from to s ≡ 0
unfolding place_in
place-empty from to s h =
    ⊎_elim (λ (k : to ≤ from). rw (le-ltb from to k, also-false (ltb from (length s)))) (λ (k : length s ≤ from). rw (le-ltb from (length s) k)) (min-le h)

pub part_placed : (from to : ℕ) (s : List ℕ) (i : ℕ) → i < length (part from to s) → get_or (part from to s) i 0 ≡ get_or s (place_in from to s + i) 0
part_placed from to s i h =
    let l = length-part-min from to s in
    part_at from to s i (omega arith) ∙ ap (λ (p : ℕ). get_or s (p + i) 0) (sym (place-some from to s (omega arith) (omega arith)))

pub on_none : (at : ℕ × ℕ) {n : ℕ} → n ≡ 0 → at ≡ bytes_on n at
on_none at e = ap (λ (o : ℕ). (at.0, o)) (omega arith)

pub on_some : (at : ℕ × ℕ) {n m : ℕ} → m ≡ n → (at.0, n + at.1) ≡ bytes_on m at
on_some at e = ap (λ (o : ℕ). (at.0, o)) (omega arith)

-- a part of a part, and two parts that meet
pub part-part : (a b : ℕ) (s : List ℕ) (i j : ℕ) → a + j ≤ b → b ≤ length s → part i j (part a b s) ≡ part (a + i) (a + j) s
part-part a b s i j h k =
    let l = length_part a b s k in
    let m = length_part i j (part a b s) (omega arith) in
    ext_get_or 0 (part i j (part a b s)) (part (a + i) (a + j) s) (m ∙ sym (length_part (a + i) (a + j) s (omega arith) ∙ omega arith))
    (λ n q.
    part_at i j (part a b s) n (omega arith) ∙ part_at a b s (i + n) (omega arith) ∙ ap (λ (x : ℕ). get_or s x 0) (sym (add_assoc a i n))
    ∙ sym (part_at (a + i) (a + j) s n (omega arith)))

pub part_join : (a b c : ℕ) (s : List ℕ) → a ≤ b → b ≤ c → c ≤ length s → part a b s ++ part b c s ≡ part a c s
part_join a b c s h k m =
    let x = length_part a b s (omega arith) in
    let y = length_part b c s m in
    let w = length-append (part a b s) (part b c s) in
    ext_get_or 0 (part a b s ++ part b c s) (part a c s) (omega (arith, length_part a c s m))
    (λ i l.
    ⊎_elim
    (λ (q : i < b - a).
    get_or-append (part a b s) (part b c s) 0 i (omega arith) ∙ part_at a b s i q ∙ sym (part_at a c s i (omega arith)))
    (λ (q : b - a ≤ i).
    let e : i ≡ length (part a b s) + (i - (b - a)) = omega arith in
    let o : b + (i - (b - a)) ≡ a + i = omega arith in
    ap (λ (n : ℕ). get_or (part a b s ++ part b c s) n 0) e ∙ get_or-append-add (part a b s) (part b c s) (i - (b - a)) 0
    ∙ part_at b c s (i - (b - a)) (omega arith) ∙ ap (λ (n : ℕ). get_or s n 0) o ∙ sym (part_at a c s i (omega arith)))
    (lt-or-ge i (b - a)))

-- the front, the rest and a part of one run after another
pub take-append : (n : ℕ) (xs ys : List ℕ) → take n (xs ++ ys) ≡ take n xs ++ take (n - length xs) ys
take-append zero xs ys = rw zero-sub
take-append (suc n) [] ys = rw sub-zero
take-append (suc n) (x ∷ xs) ys = rw (suc-sub-suc, take-append n xs ys)

pub drop-append : (n : ℕ) (xs ys : List ℕ) → drop n (xs ++ ys) ≡ drop n xs ++ drop (n - length xs) ys
drop-append zero xs ys = rw zero-sub
drop-append (suc n) [] ys = rw sub-zero
drop-append (suc n) (x ∷ xs) ys = rw suc-sub-suc (drop-append n xs ys)

pub part-append : (a b : ℕ) (xs ys : List ℕ) → part a b (xs ++ ys) ≡ part a b xs ++ part (a - length xs) (b - length xs) ys
part-append a b xs ys =
    let e : b - a - length (drop a xs) ≡ b - length xs - (a - length xs) = omega (arith, length-drop a xs) in
    rw (drop-append a xs ys, take-append (b - a) (drop a xs) (drop (a - length xs) ys), e)

-- a part, and zeros after it where the run has them
pub part-pad : (n a e : ℕ) (s xs : List ℕ) → xs ≡ part a (a + e) s → e ≤ n → a + n ≤ length s → ((i : ℕ) → e ≤ i → i < n → get_or s (a + i) 0 ≡ 0)
    → pad n xs ≡ part a (a + n) s
part-pad n a e s xs p h k z =
    let l : length xs ≡ e = ap length p ∙ length_part a (a + e) s (omega arith) ∙ omega arith in
    let m : length (part a (a + n) s) ≡ n = length_part a (a + n) s k ∙ omega arith in
    let q = length-pad n xs (omega arith) in
    ext_get_or 0 (pad n xs) (part a (a + n) s) (q ∙ sym m)
    (λ i b.
    let d : i < a + n - a = omega arith in
    pad-at n xs i
    ∙ ⊎_elim (λ (c : i < e). ap (λ (x : List ℕ). get_or x i 0) p ∙ part_at a (a + e) s i (omega arith))
    (λ (c : e ≤ i). get_or-eq_default xs 0 (omega arith) ∙ sym (z i c (omega arith))) (lt-or-ge i e)
    ∙ sym (part_at a (a + n) s i d))

-- ---- the same bytes from a up to b

pub alike-within : (f g : List ℕ) {a b c d : ℕ} → a ≤ c → d ≤ b → Alike f g a b → Alike f g c d
alike-within f g l r h i lo hi = h i (omega arith) (omega arith)

pub part_same : (f g : List ℕ) (a b : ℕ) → length g ≡ length f → Alike f g a b → part a b g ≡ part a b f
part_same f g a b e h =
    let lg = length-part-min a b g in
    let lf = length-part-min a b f in
    ext_get_or 0 (part a b g) (part a b f) (omega arith)
    (λ i hi. let k : i < b - a = omega arith in part_at a b g i k ∙ h (a + i) (omega arith) (omega arith) ∙ sym (part_at a b f i k))

-- ---- what a change leaves, and what it puts

module _ (f : List ℕ) (at : ℕ) (bs : List ℕ) (fits : at ≤ length f) where
  pub alike-before : (a b : ℕ) → b ≤ at → Alike f (write f at bs) a b
  alike-before a b h i lo hi = write-before f at bs fits i (omega arith)

  pub alike-after : (a b : ℕ) → at + length bs ≤ a → Alike f (write f at bs) a b
  alike-after a b h i lo hi = write-after f at bs fits i (omega arith)

  -- the bytes written, read back
  pub part_in : part at (at + length bs) (write f at bs) ≡ bs
  unfolding write
  part_in =
      rw (drop_at (take at f) (bs ++ drop (at + length bs) f) at (length-take-le at f fits), add-sub_cancel_left at (length bs))
      (take-append_seam bs (drop (at + length bs) f))
