-- The laws of `write`, the one way in which lent memory changes, and of zeros and padding.
use Rattle.std.proofs.Common.{◌≡◌, ℕ, zero, suc, ◌+◌, ◌-◌, ◌*◌, ◌<◌, ◌≤◌, max, List, [], ◌++◌, length, get_or, take, drop, sym, refl, ap, ◌∙◌, ⊎_elim, append_assoc, append-nil, add-zero, zero-add, arith, length-append, length-drop, take-append-drop, drop_of_length-le, length-take-le, get_or-drop, get_or-take, drop-drop, take_at, get_or-append-add, ext_get_or, drop_at}
use lib.ListN.{length-replicate, get_or-append, get_or-eq_default}
use lib.Seq.{sets, sets-eq}
use Rattle.lent.specs.Write.{write, zeros, pad}
use Rattle.lent.specs.Lists.{table, threes}
use Rattle.lent.proofs.Lists.{lt-or-ge, length-table, table_at, length-threes, threes-at}

-- ---- zeros

pub length-zeros : (n : ℕ) → length (zeros n) ≡ n
unfolding zeros
length-zeros n = length-replicate n 0

pub get_or-zeros : (n i : ℕ) → get_or (zeros n) i 0 ≡ 0
unfolding zeros
get_or-zeros zero i = refl
get_or-zeros (suc n) zero = refl
get_or-zeros (suc n) (suc i) = get_or-zeros n i

-- bytes that are all 0
pub all-zeros : (n : ℕ) (xs : List ℕ) → length xs ≡ n → ((i : ℕ) → i < n → get_or xs i 0 ≡ 0) → xs ≡ zeros n
all-zeros n xs e h = ext_get_or 0 xs (zeros n) (e ∙ sym (length-zeros n)) (λ i k. h i (rw e at k) ∙ sym (get_or-zeros n i))

pub table-zeros : (n : ℕ) → table n (λ i. 0) ≡ zeros n
table-zeros n =
    let f : ℕ → ℕ = λ i. 0 in
    ext_get_or 0 (table n f) (zeros n) (length-table n f ∙ sym (length-zeros n)) (λ i h. table_at n f i 0 (rw (length-table n f) at h) ∙ sym (get_or-zeros n i))

-- ---- where the bytes go within the length: the place `at` is at most the length

front_length : (f : List ℕ) (at : ℕ) (a : List ℕ) → at ≤ length f → length (take at f ++ a) ≡ at + length a
front_length f at a h = length-append (take at f) a ∙ ap (λ (k : ℕ). k + length a) (length-take-le at f h)

module _ (f : List ℕ) (at : ℕ) (a : List ℕ) where
  write-cut : write f at a ≡ (take at f ++ a) ++ drop (at + length a) f
  unfolding write
  write-cut = sym (append_assoc (take at f) a (drop (at + length a) f))

  pub length-write-max : at ≤ length f → length (write f at a) ≡ max (length f) (at + length a)
  unfolding write
  length-write-max h = simp (length-append, length-drop) (omega (arith, length-take-le at f h))

  pub length-write : at + length a ≤ length f → length (write f at a) ≡ length f
  length-write h = omega (arith, length-write-max (omega arith))

  pub take-write : at ≤ length f → take at (write f at a) ≡ take at f
  unfolding write
  take-write h = take_at (take at f) (a ++ drop (at + length a) f) at (length-take-le at f h)

  pub drop-write : at ≤ length f → drop (at + length a) (write f at a) ≡ drop (at + length a) f
  drop-write h =
      ap (drop (at + length a)) write-cut
      ∙ drop_at (take at f ++ a) (drop (at + length a) f) (at + length a) (front_length f at a h)

  -- a place outside is as it was
  pub write-before : at ≤ length f → (i : ℕ) → i < at → get_or (write f at a) i 0 ≡ get_or f i 0
  write-before k i h =
      sym (get_or-take at (write f at a) i 0 h) ∙ ap (λ (l : List ℕ). get_or l i 0) (take-write k) ∙ get_or-take at f i 0 h

  pub write-after : at ≤ length f → (i : ℕ) → at + length a ≤ i → get_or (write f at a) i 0 ≡ get_or f i 0
  write-after k i h =
      let n = at + length a in
      let j = i - n in
      let e : n + j ≡ i = omega arith in
      ap (λ (m : ℕ). get_or (write f at a) m 0) (sym e) ∙ sym (get_or-drop n (write f at a) j 0) ∙ ap (λ (l : List ℕ). get_or l j 0) (drop-write k)
      ∙ get_or-drop n f j 0 ∙ ap (λ (m : ℕ). get_or f m 0) e

  -- and one inside holds what was written
  pub write-in : at ≤ length f → (i : ℕ) → i < length a → get_or (write f at a) (at + i) 0 ≡ get_or a i 0
  unfolding write
  write-in k i h =
      ap (λ (m : ℕ). get_or (write f at a) (m + i) 0) (sym (length-take-le at f k))
      ∙ get_or-append-add (take at f) (a ++ drop (at + length a) f) i 0
      ∙ get_or-append a (drop (at + length a) f) 0 i h

-- ---- no bytes, and all bytes

pub write-nothing : (f : List ℕ) (at : ℕ) → write f at [] ≡ f
unfolding write
write-nothing f at = simp add-zero (take-append-drop at f)

pub write-all : (f a : List ℕ) → length f ≤ length a → write f 0 a ≡ a
unfolding write
write-all f a h = ap (λ (r : List ℕ). a ++ r) (drop_of_length-le f {i = 0 + length a} (omega arith)) ∙ append-nil a

-- ---- two changes

-- a write, from what stands before it and after it
write-of : (g : List ℕ) (n : ℕ) (p q b : List ℕ) → take n g ≡ p → drop (n + length b) g ≡ q → write g n b ≡ p ++ (b ++ q)
unfolding write
write-of g n p q b t d = ap (λ (r : List ℕ). r ++ (b ++ drop (n + length b) g)) t ∙ ap (λ (r : List ℕ). p ++ (b ++ r)) d

-- the second right after the first: one change
pub write-next : (f : List ℕ) (at : ℕ) (a b : List ℕ) → at ≤ length f → write (write f at a) (at + length a) b ≡ write f at (a ++ b)
write-next f at a b h =
    let n = at + length a in
    let l : n + length b ≡ at + length (a ++ b) = simp length-append (omega arith) in
    let t : take n (write f at a) ≡ take at f ++ a = ap (take n) (write-cut f at a) ∙ take_at (take at f ++ a) (drop n f) n (front_length f at a h) in
    let d : drop (n + length b) (write f at a) ≡ drop (at + length (a ++ b)) f =
    sym (drop-drop (length b) n (write f at a)) ∙ ap (drop (length b)) (drop-write f at a h) ∙ drop-drop (length b) n f ∙ ap (λ (k : ℕ). drop k f) l in
    write-of (write f at a) n (take at f ++ a) (drop (at + length (a ++ b)) f) b t d
    ∙ sym (append_assoc (take at f ++ a) b (drop (at + length (a ++ b)) f))
    ∙ ap (λ (r : List ℕ). r ++ drop (at + length (a ++ b)) f) (append_assoc (take at f) a b)
    ∙ sym (write-cut f at (a ++ b))

-- the same, of two stores in a row, as calls leave them
pub write_then : (f g h : List ℕ) (at n : ℕ) (a b : List ℕ) → g ≡ write f at a → h ≡ write g n b → at + length a ≡ n → at ≤ length f → h ≡ write f at (a ++ b)
write_then f g h at n a b p q e l =
    q ∙ ap (λ (x : List ℕ). write x n b) p ∙ ap (λ (k : ℕ). write (write f at a) k b) (sym e) ∙ write-next f at a b l

-- ---- what a `&mut` slice holds after its part from `at` up to e was lent to a call

pub put-write : (e at : ℕ) (f ys bytes : List ℕ) → ys ≡ bytes → at + length bytes ≡ e → take at f ++ (ys ++ drop (e - at) (drop at f)) ≡ write f at bytes
unfolding write
put-write e at f ys bytes q h =
    let m : at + (e - at) ≡ at + length bytes = omega arith in
    ap (λ (r : List ℕ). take at f ++ (ys ++ r)) (drop-drop (e - at) at f)
    ∙ ap (λ (m : ℕ). take at f ++ (ys ++ drop m f)) m
    ∙ ap (λ (r : List ℕ). take at f ++ (r ++ drop (at + length bytes) f)) q

-- the same, of a call that left zeros there
pub put-zeros : (e at n : ℕ) (f ys : List ℕ) → ys ≡ zeros (length (take (e - at) (drop at f))) → at + n ≡ e → e ≤ length f
    → take at f ++ (ys ++ drop (e - at) (drop at f)) ≡ write f at (zeros n)
put-zeros e at n f ys q h le =
    let l : length (take (e - at) (drop at f)) ≡ e - at = length-take-le (e - at) (drop at f) (simp length-drop (omega arith)) in
    let m : length (take (e - at) (drop at f)) ≡ n = omega arith in
    put-write e at f ys (zeros n) (q ∙ ap zeros m) (omega (arith, length-zeros n))

-- ---- bytes, and zeros after them

pub length-pad : (n : ℕ) (xs : List ℕ) → length xs ≤ n → length (pad n xs) ≡ n
unfolding pad
length-pad n xs h = simp (length-append, length-zeros) (omega arith)

pub pad-at : (n : ℕ) (xs : List ℕ) (i : ℕ) → get_or (pad n xs) i 0 ≡ get_or xs i 0
unfolding pad
pad-at n xs i =
    ⊎_elim (λ (h : i < length xs). get_or-append xs (zeros (n - length xs)) 0 i h)
    (λ (h : length xs ≤ i).
    let e : length xs + (i - length xs) ≡ i = omega arith in
    ap (λ (k : ℕ). get_or (xs ++ zeros (n - length xs)) k 0) (sym e) ∙ get_or-append-add xs (zeros (n - length xs)) (i - length xs) 0
    ∙ get_or-zeros (n - length xs) (i - length xs) ∙ sym (get_or-eq_default xs 0 h))
    (lt-or-ge i (length xs))

pub pad-none : (n : ℕ) (xs : List ℕ) → n ≤ length xs → pad n xs ≡ xs
unfolding pad zeros
pad-none n xs h = let e : n - length xs ≡ 0 = omega arith in rw e (append-nil xs)

-- ---- stores in a row, and three numbers for each element

pub stored : (vs l : List ℕ) (at : ℕ) → at + length vs ≤ length l → sets l at vs ≡ write l at vs
unfolding write
stored vs l at h = sets-eq vs l at h ∙ append_assoc (take at l) vs (drop (at + length vs) l)

pub threes-in : {A : Type 0} (a b c : A → ℕ) (xs : List A) (d : A) (out : List ℕ) → (i : ℕ) → i < length xs
    → (get_or (write out 0 (threes a b c xs)) (3 * i) 0 ≡ a (get_or xs i d)) × (get_or (write out 0 (threes a b c xs)) (3 * i + 1) 0 ≡ b (get_or xs i d))
    × (get_or (write out 0 (threes a b c xs)) (3 * i + 2) 0 ≡ c (get_or xs i d))
threes-in a b c xs d out i h =
    let l = length-threes a b c xs in
    let p = threes-at a b c xs d i h in
    (at (3 * i) (omega arith) ∙ p.0, at (3 * i + 1) (omega arith) ∙ p.1, at (3 * i + 2) (omega arith) ∙ p.2)
  where
    at : (k : ℕ) → k < length (threes a b c xs) → get_or (write out 0 (threes a b c xs)) k 0 ≡ get_or (threes a b c xs) k 0
    at k h = ap (λ (x : ℕ). get_or (write out 0 (threes a b c xs)) x 0) (sym (zero-add k)) ∙ write-in out 0 (threes a b c xs) (omega arith) k h
