-- The laws of numbers in a run of bytes, each once for every width and both byte orders.
use Rattle.std.proofs.Common.{◌≡◌, ℕ, zero, suc, ◌+◌, ◌-◌, ◌*◌, ◌/◌, ◌%◌, ◌^◌, ◌<◌, ◌≤◌, List, [], ◌∷◌, ◌++◌, length, get_or, sym, refl, ap, ◌∙◌, ⊎_elim, append_assoc, append-nil, add-zero, add_assoc, add-suc, mul_assoc, mul_comm, add-mul, pow-suc, mul-zero, div-add-mod', zero-add, mul-one, mul-suc, div-one, arith, length-append, get_or-append-add, ext_get_or}
use native.Mathlib.Nat.{sub_self, pow-zero, div-eq_of_lt, div-div-eq-div-mul}
use lib.Arith.{digits_div}
use lib.ListN.{get_or-append, get_or-eq_default}
use Rattle.lent.specs.Lists.{table}
use Rattle.lent.specs.Number.{Order, big, little, byte_of, value, digit, number, bytes, numbers}
use Rattle.lent.specs.Part.{part, Alike}
use Rattle.lent.specs.Write.{write, zeros, pad}
use Rattle.lent.proofs.Lists.{lt-or-ge, length-table, table_at}
use Rattle.lent.proofs.Writes.{write-in, write_then, write-all, get_or-zeros, pad-at}
use Rattle.lent.proofs.Parts.{length_part, part_at, part_none, part_join}

-- ---- digits

pub byte-lt : (o : Order) (n i : ℕ) → i < n → byte_of o n i < n
byte-lt big n i h = h
byte-lt little n i h = omega arith

pub byte-back : (o : Order) (n i : ℕ) → i < n → byte_of o n (byte_of o n i) ≡ i
byte-back big n i h = refl
byte-back little n i h = omega arith

pub value_same : (n : ℕ) (d e : ℕ → ℕ) → ((i : ℕ) → i < n → d i ≡ e i) → value n d ≡ value n e
unfolding value
value_same zero d e h = refl
value_same (suc n) d e h = rw (value_same n d e (λ i l. h i (omega arith)), h n (omega arith))

pub value-zero : (n : ℕ) (d : ℕ → ℕ) → ((i : ℕ) → i < n → d i ≡ 0) → value n d ≡ 0
unfolding value
value-zero zero d h = refl
value-zero (suc n) d h = omega (arith, value-zero n d (λ i l. h i (omega arith)), h n (omega arith))

pub value-join : (m n : ℕ) (d : ℕ → ℕ) → value (m + n) d ≡ value m d * 256 ^ n + value n (λ i. d (m + i))
unfolding value
value-join m zero d = simp (add-zero, pow-zero, mul-one)
value-join m (suc n) d =
    rw (add-suc, pow-suc, value-join m n d)
    (omega (arith, mul_assoc (value m d) (256 ^ n) 256, add-mul (value m d * 256 ^ n) (value n (λ i. d (m + i))) 256))

-- the first k digits of a number of n
value-digit : (n v k : ℕ) → v < 256 ^ n → k ≤ n → value k (digit n v) ≡ v / 256 ^ (n - k)
unfolding value digit
value-digit n v zero h l = let e : n - 0 ≡ n = omega arith in rw e (sym (div-eq_of_lt h))
value-digit n v (suc k) h l =
    let j = n - suc k in
    let e : n - k ≡ suc j = omega arith in
    let q : n - 1 - k ≡ j = omega arith in
    let a : value k (digit n v) ≡ v / 256 ^ j / 256 =
    value-digit n v k h (omega arith) ∙ ap (λ (x : ℕ). v / 256 ^ x) e ∙ ap (λ (x : ℕ). v / x) (pow-suc 256 j) ∙ sym (div-div-eq-div-mul v (256 ^ j) 256) in
    rw (a, q) (div-add-mod' (v / 256 ^ j) 256)

-- and back: digits below 256 are those of their number
digit_value : (n : ℕ) (d : ℕ → ℕ) → ((i : ℕ) → i < n → d i < 256) → (i : ℕ) → i < n → digit n (value n d) i ≡ d i
unfolding value digit
digit_value zero d h i l = absurd (omega arith)
digit_value (suc n) d h i l =
    let v : ℕ = value n d * 256 + d n in
    let s = h n (omega arith) in
    ⊎_elim
    (λ (k : i < n).
    let e : suc n - 1 - i ≡ suc (n - 1 - i) = omega arith in
    let p : 256 ^ suc (n - 1 - i) ≡ 256 * 256 ^ (n - 1 - i) = pow-suc 256 (n - 1 - i) ∙ mul_comm (256 ^ (n - 1 - i)) 256 in
    rw (e, p)
    (ap (λ (x : ℕ). x % 256) (sym (div-div-eq-div-mul v 256 (256 ^ (n - 1 - i))) ∙ ap (λ (x : ℕ). x / 256 ^ (n - 1 - i)) (digits_div (value n d) s))
    ∙ digit_value n d (λ j m. h j (omega arith)) i k))
    (λ (k : n ≤ i).
    let q : n ≡ i = omega arith in
    let e : suc n - 1 - n ≡ 0 = omega arith in
    rw (← q, e, pow-zero, div-one) (omega arith))
    (lt-or-ge i n)

-- ---- a number depends on its own bytes alone

pub number-cong : (o : Order) (n : ℕ) (s : List ℕ) (a : ℕ) (t : List ℕ) (b : ℕ) → ((i : ℕ) → i < n → get_or s (a + i) 0 ≡ get_or t (b + i) 0)
    → number o n s a ≡ number o n t b
unfolding number
number-cong o n s a t b h = value_same n _ _ (λ i l. h (byte_of o n i) (byte-lt o n i l))

module _ (o : Order) (n : ℕ) where
  pub number_same : (f g : List ℕ) (a b at : ℕ) → Alike f g a b → a ≤ at → at + n ≤ b → number o n g at ≡ number o n f at
  number_same f g a b at h lo hi = number-cong o n g at f at (λ i l. h (at + i) (omega arith) (omega arith))

  pub number_in : (f : List ℕ) (at : ℕ) (bs : List ℕ) (k : ℕ) → at ≤ length f → k + n ≤ length bs → number o n (write f at bs) (at + k) ≡ number o n bs k
  number_in f at bs k fits h =
      number-cong o n (write f at bs) (at + k) bs k (λ i l. rw add_assoc (write-in f at bs fits (k + i) (omega arith)))

  pub number-part : (from to : ℕ) (s : List ℕ) (at : ℕ) → at + n ≤ to - from → number o n (part from to s) at ≡ number o n s (from + at)
  number-part from to s at h =
      number-cong o n (part from to s) at s (from + at) (λ i l. rw add_assoc (part_at from to s (at + i) (omega arith)))

  pub number-pad : (m : ℕ) (xs : List ℕ) (at : ℕ) → number o n (pad m xs) at ≡ number o n xs at
  number-pad m xs at = number-cong o n (pad m xs) at xs at (λ i l. pad-at m xs (at + i))

  pub number-after : (s t : List ℕ) (at : ℕ) → number o n (s ++ t) (length s + at) ≡ number o n t at
  number-after s t at = number-cong o n (s ++ t) (length s + at) t at (λ i l. rw add_assoc (get_or-append-add s t (at + i) 0))

  -- zeros, and what lies past the end
  pub number-zeros : (m at : ℕ) → number o n (zeros m) at ≡ 0
  unfolding number
  number-zeros m at = value-zero n _ (λ i l. get_or-zeros m (at + byte_of o n i))

  pub number_past : (s : List ℕ) (at : ℕ) → length s ≤ at → number o n s at ≡ 0
  unfolding number
  number_past s at h = value-zero n _ (λ i l. get_or-eq_default s 0 (omega arith))

  -- ---- a number as its bytes

  pub length-bytes : (v : ℕ) → length (bytes o n v) ≡ n
  unfolding bytes
  length-bytes v = length-table n (λ i. digit n v (byte_of o n i))

  pub bytes-at : (v i : ℕ) → i < n → get_or (bytes o n v) i 0 ≡ digit n v (byte_of o n i)
  unfolding bytes
  bytes-at v i h = table_at n (λ i. digit n v (byte_of o n i)) i 0 h

  pub number-bytes : (v : ℕ) (rest : List ℕ) → v < 256 ^ n → number o n (bytes o n v ++ rest) 0 ≡ v
  unfolding number
  number-bytes v rest h =
      value_same n _ (digit n v)
      (λ i l.
      let k = byte-lt o n i l in
      get_or-append (bytes o n v) rest 0 (0 + byte_of o n i) (omega (arith, length-bytes v))
      ∙ ap (λ (x : ℕ). get_or (bytes o n v) x 0) (zero-add (byte_of o n i))
      ∙ bytes-at v (byte_of o n i) k ∙ ap (digit n v) (byte-back o n i l))
      ∙ value-digit n v n h (omega arith)
      ∙ ap (λ (x : ℕ). v / 256 ^ x) (sub_self n) ∙ div-one v

  -- and back, of bytes below 256
  pub bytes-number : (s : List ℕ) (at : ℕ) → at + n ≤ length s → ((i : ℕ) → get_or s i 0 < 256) → bytes o n (number o n s at) ≡ part at (at + n) s
  unfolding number
  bytes-number s at fits low =
      let l : length (part at (at + n) s) ≡ n = length_part at (at + n) s fits ∙ omega arith in
      ext_get_or 0 (bytes o n (number o n s at)) (part at (at + n) s) (length-bytes (number o n s at) ∙ sym l)
      (λ i h.
      let k : i < n = omega (arith, length-bytes (number o n s at)) in
      bytes-at (number o n s at) i k
      ∙ digit_value n (λ j. get_or s (at + byte_of o n j) 0) (λ j m. low (at + byte_of o n j)) (byte_of o n i) (byte-lt o n i k)
      ∙ ap (λ (x : ℕ). get_or s (at + x) 0) (byte-back o n i k)
      ∙ sym (part_at at (at + n) s i (omega arith)))

-- a wide number from two narrower ones
pub number-join : (m n : ℕ) (s : List ℕ) (at : ℕ) → number big (m + n) s at ≡ number big m s at * 256 ^ n + number big n s (at + m)
unfolding number
number-join m n s at =
    value-join m n (λ i. get_or s (at + i) 0)
    ∙ ap (λ (x : ℕ). value m (λ i. get_or s (at + i) 0) * 256 ^ n + x)
    (value_same n _ _ (λ i l. ap (λ (k : ℕ). get_or s k 0) (sym (add_assoc at m i))))

-- the bytes of two and of four, one by one
pub number-two : (s : List ℕ) (at : ℕ) → number big 2 s at ≡ get_or s at 0 * 256 + get_or s (at + 1) 0
unfolding number value
number-two s at = simp add-zero (omega arith)

pub number-four : (s : List ℕ) (at : ℕ)
    → number big 4 s at ≡ get_or s at 0 * 16777216 + get_or s (at + 1) 0 * 65536 + get_or s (at + 2) 0 * 256 + get_or s (at + 3) 0
unfolding number value
number-four s at = simp add-zero (omega arith)

pub number-eight : (s : List ℕ) (at : ℕ)
    → number big 8 s at
    ≡ get_or s at 0 * 72057594037927936 + get_or s (at + 1) 0 * 281474976710656 + get_or s (at + 2) 0 * 1099511627776 + get_or s (at + 3) 0 * 4294967296
    + get_or s (at + 4) 0 * 16777216 + get_or s (at + 5) 0 * 65536 + get_or s (at + 6) 0 * 256 + get_or s (at + 7) 0
unfolding number value
number-eight s at = simp add-zero (omega arith)

-- of bytes below 256
module _ (s : List ℕ) (low : (i : ℕ) → get_or s i 0 < 256) (at : ℕ) where
  pub two-small : number big 2 s at < 65536
  two-small = let a = low at in let b = low (at + 1) in omega (arith, number-two s at)

  pub four-small : number big 4 s at < 4294967296
  four-small = let a = low at in let b = low (at + 1) in let c = low (at + 2) in let d = low (at + 3) in omega (arith, number-four s at)

pub bytes-two : (v a b : ℕ) → a ≡ v / 256 % 256 → b ≡ v % 256 → a ∷ b ∷ [] ≡ bytes big 2 v
unfolding bytes table digit
bytes-two v a b p q = rw (p, q, div-one v)

pub bytes-four : (v a b c d : ℕ) → a ≡ v / 16777216 % 256 → b ≡ v / 65536 % 256 → c ≡ v / 256 % 256 → d ≡ v % 256 → a ∷ b ∷ c ∷ d ∷ [] ≡ bytes big 4 v
unfolding bytes table digit
bytes-four v a b c d p q r s = rw (p, q, r, s, div-one v)

-- ---- numbers in a row

module _ (n : ℕ) where
  pub length-numbers : (vs : List ℕ) → length (numbers n vs) ≡ n * length vs
  unfolding numbers
  length-numbers [] = sym (mul-zero n)
  length-numbers (v ∷ vs) = simp (length-append, length-numbers vs, length-bytes big n v) (omega (arith, mul-suc n (length vs)))

  pub numbers-at : (vs rest : List ℕ) (i : ℕ) → i < length vs → get_or vs i 0 < 256 ^ n → number big n (numbers n vs ++ rest) (n * i) ≡ get_or vs i 0
  unfolding numbers
  numbers-at [] rest i h l = absurd (omega arith)
  numbers-at (v ∷ vs) rest zero h l = rw (append_assoc, mul-zero n) (number-bytes big n v (numbers n vs ++ rest) l)
  numbers-at (v ∷ vs) rest (suc i) h l =
      let b = bytes big n v in
      let e : n * suc i ≡ length b + n * i = mul-suc n i ∙ omega (arith, length-bytes big n v) in
      rw (append_assoc, e) (number-after big n b (numbers n vs ++ rest) (n * i) ∙ numbers-at vs rest i (omega arith) l)

  pub numbers-append : (vs ws : List ℕ) → numbers n (vs ++ ws) ≡ numbers n vs ++ numbers n ws
  unfolding numbers
  numbers-append [] ws = refl
  numbers-append (v ∷ vs) ws = rw (numbers-append vs ws, append_assoc)

  number-one : (v : ℕ) → numbers n (v ∷ []) ≡ bytes big n v
  unfolding numbers
  number-one v = append-nil (bytes big n v)

  -- the first number, and the next one, as the calls that put them leave the run
  pub number-first : (f g : List ℕ) (at v : ℕ) → g ≡ write f at (bytes big n v) → g ≡ write f at (numbers n (v ∷ []))
  number-first f g at v p = p ∙ ap (write f at) (sym (number-one v))

  pub number-next : (f g h : List ℕ) (at e : ℕ) (vs : List ℕ) (v : ℕ) → g ≡ write f at (numbers n vs) → h ≡ write g e (bytes big n v) → at + n * length vs ≡ e
      → at ≤ length f → h ≡ write f at (numbers n (vs ++ (v ∷ [])))
  number-next f g h at e vs v p q k l =
      write_then f g h at e (numbers n vs) (bytes big n v) p q (ap (λ (x : ℕ). at + x) (length-numbers vs) ∙ k) l
      ∙ ap (λ (b : List ℕ). write f at (numbers n vs ++ b)) (sym (number-one v)) ∙ ap (write f at) (sym (numbers-append vs (v ∷ [])))

  -- and back, of numbers that stand in a run of bytes below 256
  pub numbers-back : (vs s : List ℕ) (at : ℕ) → ((i : ℕ) → i < length vs → get_or vs i 0 ≡ number big n s (at + n * i)) → at + n * length vs ≤ length s
      → ((i : ℕ) → get_or s i 0 < 256) → numbers n vs ≡ part at (at + n * length vs) s
  unfolding numbers
  numbers-back [] s at h l low = sym (part_none at (at + n * 0) s (omega (arith, mul-zero n)))
  numbers-back (v ∷ vs) s at h l low =
      let m = mul-suc n (length vs) in
      let k : length (v ∷ vs) ≡ suc (length vs) = refl in
      let e : v ≡ number big n s at = rw (mul-zero n, add-zero) at (h 0 (omega arith)) in
      let o : at + n + n * length vs ≡ at + n * suc (length vs) = omega arith in
      let d : (i : ℕ) → at + n * suc i ≡ at + n + n * i = λ i. omega (arith, mul-suc n i) in
      ap (λ (x : ℕ). bytes big n x ++ numbers n vs) e ∙ ap (λ (x : List ℕ). x ++ numbers n vs) (bytes-number big n s at (omega arith) low)
      ∙ ap (λ (x : List ℕ). part at (at + n) s ++ x)
      (numbers-back vs s (at + n) (λ i q. h (suc i) (omega arith) ∙ ap (number big n s) (d i)) (omega arith) low ∙ ap (λ (x : ℕ). part (at + n) x s) o)
      ∙ part_join at (at + n) (at + n * suc (length vs)) s (omega arith) (omega arith) (omega arith)

  -- numbers that fill the run
  pub numbers-fill : (f g h : List ℕ) (vs ws : List ℕ) → g ≡ write f 0 (numbers n vs) → h ≡ write g (n * length vs) (numbers n ws)
      → length f ≤ n * length vs + n * length ws → h ≡ numbers n (vs ++ ws)
  numbers-fill f g h vs ws p q l =
      write_then f g h 0 (n * length vs) (numbers n vs) (numbers n ws) p q (omega (arith, length-numbers vs)) (omega arith)
      ∙ write-all f (numbers n vs ++ numbers n ws) (simp length-append (omega (arith, length-numbers vs, length-numbers ws)))
      ∙ sym (numbers-append vs ws)
