-- The N records in the wanted form, byte by byte: how long each part is, where it lies, and that they rest on what the entries say alone.
use Prim.Native.Nat.{ℕ, zero, suc, ◌+◌, ◌-◌, ◌*◌, ◌≤◌, ◌<◌}
use mathlib.Core.Path.{◌≡◌, refl, sym, ◌∙◌, ap}
use mathlib.Core.Bool.{true, false}
use mathlib.Core.List.{List, [], ◌∷◌, ◌++◌, append_assoc, append-nil}
use mathlib.Core.Logic.{◌≢◌, ⊎_elim}
use native.Mathlib.Omega.{arith}
use native.Mathlib.Nat.{add-zero, sub-zero, zero-mul, suc-mul, div-mul_cancel, dvd-mul_left_of_dvd, dvd_of_mod-eq-zero}
use borrow.Author.Tests.{eq-eqb, ne_eqb}
use lib.ListN.{length, get_or, length-append, replicate-append-replicate, get_or-append}
use lib.Seq.{get_or-append-add}
use Rattle.lent.specs.Number.{numbers, words}
use Rattle.lent.specs.Write.{zeros, pad}
use Rattle.lent.proofs.Lists.{same_or, lt-or-ge, either}
use Rattle.lent.proofs.Numbers.{length-numbers}
use Rattle.lent.proofs.Parts.{length-part-min}
use Rattle.lent.proofs.Writes.{length-zeros, length-pad, pad-at}
use Rattle.paper.specs.declared.sizes.Sizes.{Sizes}
use Rattle.paper.specs.Sizes.{by_form, boot_bytes, capacity_of, home_of, Shaped}
use Rattle.paper.specs.Index.{empty}
use Rattle.paper.specs.Convert.{in_form, Carried, carried_at, boot_as, scan_as, entry_as, entries_as, records_as}
use Rattle.paper.proofs.Sizing.{less, times}
use Rattle.paper.proofs.Forms.{by_old, by-current}
use Rattle.paper.proofs.Encoding.{length-boot}

-- ---- lengths

-- the middle of an entry is at most bytes 8 to 59
pub middle-short : (f : List ℕ) (z : Sizes) (s : ℕ) → length (carried_at f z s).middle ≤ 52
middle-short f z s = omega (arith, length-part-min (home_of z s + 8) (home_of z s + 60) f)

pub length-boot-as : (v : ℕ) (z : Sizes) → length (boot_as v z) ≡ by_form v 12 32
unfolding boot_as
length-boot-as v z =
    ⊎_elim (λ (e : v ≡ 0). rw (eq-eqb v 0 e) (length-numbers 2 (z.n ∷ z.d ∷ z.l ∷ z.m ∷ z.u ∷ z.counter ∷ [])))
    (λ (e : v ≢ 0). rw (ne_eqb v 0 e) (length-boot z)) (same_or v 0)

pub boot-short : (v : ℕ) (z : Sizes) → length (boot_as v z) ≤ 32
boot-short v z =
    ⊎_elim (λ (e : v ≡ 0). let l = rw (eq-eqb v 0 e) at (length-boot-as v z) in omega arith)
    (λ (e : v ≢ 0). let l = rw (ne_eqb v 0 e) at (length-boot-as v z) in omega arith) (same_or v 0)

module _ (v : ℕ) (c : Carried) where
  -- the two forms of a scan's entry
  pub scan_old : v ≡ 0 → scan_as v c ≡ numbers 2 (c.run.first ∷ c.run.last ∷ 2 ∷ c.position ∷ []) ++ c.middle
  unfolding scan_as
  scan_old e = sym (by_old v _ _ e)

  pub scan_current : v ≢ 0 → scan_as v c ≡ words (c.run.first ∷ c.run.last ∷ []) ++ (c.middle ++ numbers 2 (c.position ∷ []))
  unfolding scan_as
  scan_current e = sym (by-current v _ _ e)

  pub scan-short : length c.middle ≤ 52 → length (scan_as v c) ≤ 62
  scan-short k =
      ⊎_elim
      (λ (e : v ≡ 0).
      let vs : List ℕ = c.run.first ∷ c.run.last ∷ 2 ∷ c.position ∷ [] in
      rw (scan_old e) (omega (arith, length-append (numbers 2 vs) c.middle, length-numbers 2 vs)))
      (λ (e : v ≢ 0).
      let vs : List ℕ = c.run.first ∷ c.run.last ∷ [] in
      let ps : List ℕ = c.position ∷ [] in
      rw (scan_current e)
      (omega (arith, length-append (words vs) (c.middle ++ numbers 2 ps), length-append c.middle (numbers 2 ps), length-numbers 4 vs, length-numbers 2 ps)))
      (same_or v 0)

  -- an entry of M bytes
  pub entry-empty : (m : ℕ) → empty c.run ≡ true → entry_as v m c ≡ zeros m
  unfolding entry_as pad
  entry-empty m e = rw (e, sub-zero m)

  pub entry-full : (m : ℕ) → empty c.run ≡ false → entry_as v m c ≡ pad m (scan_as v c)
  unfolding entry_as
  entry-full m e = rw e

  pub length-entry-as : (m : ℕ) → 62 ≤ m → length c.middle ≤ 52 → length (entry_as v m c) ≡ m
  length-entry-as m h k =
      ⊎_elim (λ (e : empty c.run ≡ true). rw (entry-empty m e) (length-zeros m))
      (λ (e : empty c.run ≡ false). rw (entry-full m e) (length-pad m (scan_as v c) (omega (arith, scan-short k)))) (either (empty c.run))

module _ (v m : ℕ) (carried : ℕ → Carried) (h : 62 ≤ m) (k : (s : ℕ) → length (carried s).middle ≤ 52) where
  pub length-entries-as : (s : ℕ) → length (entries_as v m carried s) ≡ s * m
  unfolding entries_as
  length-entries-as zero = sym (zero-mul m)
  length-entries-as (suc s) =
      length-append (entries_as v m carried s) (entry_as v m (carried (suc s)))
      ∙ omega (arith, length-entries-as s, length-entry-as v (carried (suc s)) m h (k (suc s)), suc-mul s m)

  -- byte i of the entry of slot s
  pub entries_at : (n s i : ℕ) → 1 ≤ s → s ≤ n → i < m → get_or (entries_as v m carried n) ((s - 1) * m + i) 0 ≡ get_or (entry_as v m (carried s)) i 0
  unfolding entries_as
  entries_at zero s i a b l = absurd (omega arith)
  entries_at (suc n) s i a b l =
      let xs : List ℕ = entries_as v m carried n in
      let ys : List ℕ = entry_as v m (carried (suc n)) in
      ⊎_elim
      (λ (q : n < s).
      let e : s ≡ suc n = omega arith in
      let p : s - 1 ≡ n = omega arith in
      let o : (s - 1) * m + i ≡ length xs + i = omega (arith, length-entries-as n, ap (λ (x : ℕ). x * m) p) in
      rw o (get_or-append-add xs ys i 0) ∙ ap (λ (x : ℕ). get_or (entry_as v m (carried x)) i 0) (sym e))
      (λ (q : s ≤ n).
      get_or-append xs ys 0 ((s - 1) * m + i) (omega (arith, length-entries-as n, less s m a, times s n m q)) ∙ entries_at n s i a q l)
      (lt-or-ge n s)

-- they rest on what the entries say, an empty one on its being empty
pub entries-same : (v m : ℕ) (a b : ℕ → Carried) (n : ℕ) → ((s : ℕ) → 1 ≤ s → s ≤ n → entry_as v m (a s) ≡ entry_as v m (b s)) → entries_as v m a n ≡ entries_as v m b n
unfolding entries_as
entries-same v m a b zero h = refl
entries-same v m a b (suc n) h = rw (entries-same v m a b n (λ s p q. h s p (omega arith)), h (suc n) (omega arith) (omega arith))

-- above slot u all are empty
pub entries-above : (v m : ℕ) (carried : ℕ → Carried) (u n : ℕ) → ((s : ℕ) → u < s → s ≤ u + n → empty (carried s).run ≡ true)
    → entries_as v m carried (u + n) ≡ entries_as v m carried u ++ zeros (n * m)
unfolding entries_as zeros
entries-above v m carried u zero h = rw (add-zero, zero-mul m) (sym (append-nil (entries_as v m carried u)))
entries-above v m carried u (suc n) h =
    let e : u + suc n ≡ suc (u + n) = omega arith in
    let t : n * m + m ≡ suc n * m = omega (arith, suc-mul n m) in
    rw (e, entries-above v m carried u n (λ s a b. h s a (omega arith)), entry-empty v (carried (suc (u + n))) m (h (suc (u + n)) (omega arith) (omega arith)))
    (append_assoc (entries_as v m carried u) (zeros (n * m)) (zeros m) ∙ ap (λ (r : List ℕ). entries_as v m carried u ++ r) (replicate-append-replicate (n * m) m 0 ∙ ap zeros t))

-- ---- the N records

-- "The home of a slot": the entries fill the records 2 to N
pub index-long : (z : Sizes) → Shaped z → z.l + capacity_of z * z.m ≡ z.n * z.l
index-long z h =
    omega
    (arith, div-mul_cancel z.m (dvd-mul_left_of_dvd z.m (dvd_of_mod-eq-zero z.m h.divides) (z.n - 1)), less z.n z.l (omega arith))

module _ (v : ℕ) (z : Sizes) (carried : ℕ → Carried) (R : Shaped z) (k : (s : ℕ) → length (carried s).middle ≤ 52) where
  first-long : length (pad z.l (boot_as v z)) ≡ z.l
  first-long = length-pad z.l (boot_as v z) (omega (arith, boot-short v z, R.l_low))

  pub length-records-as : length (records_as v z carried) ≡ z.n * z.l
  unfolding records_as
  length-records-as =
      length-append (pad z.l (boot_as v z)) (entries_as v z.m carried (capacity_of z))
      ∙ omega (arith, first-long, length-entries-as v z.m carried (omega (arith, R.m_low)) k (capacity_of z), index-long z R)

  -- a byte of record 1, and one of an entry; zeros where nothing was said
  pub records-boot : (rest : List ℕ) (i : ℕ) → i < z.l → get_or (records_as v z carried ++ rest) i 0 ≡ get_or (boot_as v z) i 0
  unfolding records_as
  records-boot rest i l =
      let xs : List ℕ = pad z.l (boot_as v z) in
      let ys : List ℕ = entries_as v z.m carried (capacity_of z) in
      get_or-append (xs ++ ys) rest 0 i (omega (arith, length-append xs ys, first-long)) ∙ get_or-append xs ys 0 i (omega (arith, first-long)) ∙ pad-at z.l (boot_as v z) i

  pub records-entry : (rest : List ℕ) (s i : ℕ) → 1 ≤ s → s ≤ capacity_of z → i < z.m
      → get_or (records_as v z carried ++ rest) (home_of z s + i) 0 ≡ get_or (entry_as v z.m (carried s)) i 0
  unfolding records_as
  records-entry rest s i a b l =
      let xs : List ℕ = pad z.l (boot_as v z) in
      let ys : List ℕ = entries_as v z.m carried (capacity_of z) in
      let e : home_of z s + i ≡ length xs + ((s - 1) * z.m + i) = omega (arith, first-long) in
      let p : (s - 1) * z.m + i < length ys =
      omega (arith, length-entries-as v z.m carried (omega (arith, R.m_low)) k (capacity_of z), less s z.m a, times s (capacity_of z) z.m b) in
      get_or-append (xs ++ ys) rest 0 (home_of z s + i) (omega (arith, length-append xs ys, first-long))
      ∙ ap (λ (x : ℕ). get_or (xs ++ ys) x 0) e ∙ get_or-append-add xs ys ((s - 1) * z.m + i) 0
      ∙ entries_at v z.m carried (omega (arith, R.m_low)) k (capacity_of z) s i a b l

-- they rest on the sizes but for the form, and on the entries
pub records-same : (v w : ℕ) (z : Sizes) (a b : ℕ → Carried) → ((s : ℕ) → 1 ≤ s → s ≤ capacity_of z → entry_as v z.m (a s) ≡ entry_as v z.m (b s))
    → records_as v (in_form w z) a ≡ records_as v z b
unfolding records_as boot_as boot_bytes
records-same v w z a b h = rw (entries-same v z.m a b (capacity_of z) h)
