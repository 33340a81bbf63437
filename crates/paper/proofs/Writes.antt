-- The list of a job's writes: how long it is, and which of them is a data record, record 1, the entry.
use Prim.Native.Nat.{ℕ, zero, suc, ◌+◌, ◌-◌, ◌*◌, ◌/◌, ◌≤◌, ◌<◌}
use mathlib.Core.Path.{◌≡◌, refl, sym, ◌∙◌, ap, subst}
use mathlib.Core.Bool.{Bool, true, false, cond}
use mathlib.Core.List.{List, [], ◌∷◌, ◌++◌}
use mathlib.Core.Logic.{⊎_elim}
use native.Mathlib.Omega.{arith}
use native.Mathlib.Nat.{add-zero, add_comm, suc-mul, zero-mul, le-div_iff_mul-le, lt-div-mul-add}
use lib.ListN.{length, take, drop, get_or, length-append, length-take, length-drop, get_or-append, get_or-eq_default}
use lib.Seq.{get_or-append-add, get_or-take, get_or-drop, drop-drop, length-take-le, ext_get_or}
use Rattle.lent.specs.Write.{zeros, pad}
use Rattle.lent.proofs.Lists.{lt-or-ge}
use Rattle.lent.proofs.Writes.{length-zeros, get_or-zeros, all-zeros, length-pad, pad-at}
use Rattle.paper.specs.declared.sizes.Sizes.{Sizes}
use Rattle.paper.specs.declared.job.Job.{Job}
use Rattle.paper.specs.Sizes.{start_of}
use Rattle.paper.specs.Store.{Write, records_for, count_of, padded_of, data_from, data_writes, sizes_write, boot_write, entry_write, lowers_of, lowered, lower_writes, zero_writes, change_of, total_of, writes_of}
use Rattle.paper.specs.Step.{no_write}
use Rattle.paper.proofs.Sizing.{times}

-- ---- whole records

module _ (l size : ℕ) (l₁ : 1 ≤ l) where
  -- "S / L rounded up" records hold S bytes
  pub enough : size ≤ (size + (l - 1)) / l * l
  enough = omega (arith, lt-div-mul-add {a = size + (l - 1)} {b = l} l₁)

  pub some-record : 1 ≤ size → 1 ≤ (size + (l - 1)) / l
  some-record h = (le-div_iff_mul-le l₁).1 (omega arith)

-- ---- the data records

pub length-data : (z : Sizes) (r k : ℕ) (bs : List ℕ) → length (data_from z r k bs) ≡ k
unfolding data_from
length-data z r zero bs = refl
length-data z r (suc k) bs = ap suc (length-data z (r + 1) k (drop z.l bs))

pub data-at : (z : Sizes) (k r : ℕ) (bs : List ℕ) (i : ℕ) (d : Write) → i < k
    → get_or (data_from z r k bs) i d ≡ record { at = start_of z (r + i); bytes = take z.l (drop (i * z.l) bs); record_no = r + i }
unfolding data_from
data-at z zero r bs i d h = absurd (omega arith)
data-at z (suc k) r bs zero d h = rw (add-zero r, zero-mul z.l) refl
data-at z (suc k) r bs (suc i) d h =
    let a : r + 1 + i ≡ r + suc i = omega arith in
    data-at z k (r + 1) (drop z.l bs) i d (omega arith)
    ∙ rw (drop-drop (i * z.l) z.l bs, a, suc-mul i z.l, add_comm (i * z.l) z.l) refl

-- of records of zeros, each is
zero_row : (l k i : ℕ) → i < k → take l (drop (i * l) (zeros (k * l))) ≡ zeros l
zero_row l k i h =
    let t : suc i * l ≤ k * l = times (suc i) k l h in
    let e : suc i * l ≡ i * l + l = suc-mul i l in
    let n : length (drop (i * l) (zeros (k * l))) ≡ k * l - i * l = length-drop (i * l) (zeros (k * l)) ∙ omega (arith, length-zeros (k * l)) in
    all-zeros l (take l (drop (i * l) (zeros (k * l)))) (length-take-le l (drop (i * l) (zeros (k * l))) (omega arith))
    (λ o g. get_or-take l (drop (i * l) (zeros (k * l))) o 0 g ∙ get_or-drop (i * l) (zeros (k * l)) o 0 ∙ get_or-zeros (k * l) (i * l + o))

-- ---- the whole list, by place

-- what stands after the data records
end-at : (ds es : List Write) (k i : ℕ) → length ds ≡ k → get_or (ds ++ es) (k + i) no_write ≡ get_or es i no_write
end-at ds es k i e = subst (λ (n : ℕ). get_or (ds ++ es) (n + i) no_write ≡ get_or es i no_write) e (get_or-append-add ds es i no_write)

-- one more, or none
length-or : (t : Bool) (w : Write) → length (cond t (w ∷ []) []) ≡ cond t 1 0
length-or true w = refl
length-or false w = refl

module _ (f : List ℕ) (z : Sizes) (j : Job) (scan : List ℕ) where
  pub length-rows : length (data_writes z j scan) ≡ count_of z j
  length-rows = length-data z j.first (count_of z j) (padded_of z j scan)

  -- as many as `total_of` says
  pub length-writes : length (writes_of f z j scan) ≡ total_of z j
  unfolding writes_of
  length-writes =
      let l = length-or (lowers_of j) (sizes_write (lowered f z)) in
      let o = length-data z j.old j.many (zeros (j.many * z.l)) in
      length-append (data_writes z j scan) _ ∙ omega (arith, length-rows, length-append (lower_writes f z j) (zero_writes z j))

  pub writes-data : (i : ℕ) → i < count_of z j → get_or (writes_of f z j scan) i no_write ≡ get_or (data_writes z j scan) i no_write
  unfolding writes_of
  writes-data i h = get_or-append (data_writes z j scan) _ no_write i (omega (arith, length-rows))

  pub writes-row : (i : ℕ) → i < count_of z j
      → get_or (writes_of f z j scan) i no_write
      ≡ record { at = start_of z (j.first + i); bytes = take z.l (drop (i * z.l) (padded_of z j scan)); record_no = j.first + i }
  writes-row i h = writes-data i h ∙ data-at z (count_of z j) j.first (padded_of z j scan) i no_write h

  -- at place i after them
  end_of : (k i : ℕ) → i ≡ count_of z j + k
      → get_or (writes_of f z j scan) i no_write ≡ get_or (boot_write f z j ∷ entry_write z j ∷ (lower_writes f z j ++ zero_writes z j)) k no_write
  unfolding writes_of
  end_of k i e = rw e (end-at (data_writes z j scan) _ (count_of z j) k length-rows)

  pub writes-boot : (i : ℕ) → i ≡ count_of z j → get_or (writes_of f z j scan) i no_write ≡ boot_write f z j
  writes-boot i e = end_of 0 i (omega arith)

  pub writes-entry : (i : ℕ) → i ≡ count_of z j + 1 → get_or (writes_of f z j scan) i no_write ≡ entry_write z j
  writes-entry i e = end_of 1 i e

  pub writes_lower : (i : ℕ) → i ≡ count_of z j + 2 → lowers_of j ≡ true → get_or (writes_of f z j scan) i no_write ≡ sizes_write (lowered f z)
  writes_lower i e t = end_of 2 i e ∙ ap (λ (b : Bool). get_or (cond b (sizes_write (lowered f z) ∷ []) [] ++ zero_writes z j) 0 no_write) t

  -- after the change itself
  pub writes_old : (i m : ℕ) → i ≡ change_of z j + m → get_or (writes_of f z j scan) i no_write ≡ get_or (zero_writes z j) m no_write
  writes_old i m e =
      let c : ℕ = cond (lowers_of j) 1 0 in
      end_of (2 + (c + m)) i (omega arith)
      ∙ end-at (boot_write f z j ∷ entry_write z j ∷ []) (lower_writes f z j ++ zero_writes z j) 2 (c + m) refl
      ∙ end-at (lower_writes f z j) (zero_writes z j) c m (length-or (lowers_of j) (sizes_write (lowered f z)))

  pub writes-zero : (i m : ℕ) → i ≡ change_of z j + m → m < j.many
      → get_or (writes_of f z j scan) i no_write ≡ record { at = start_of z (j.old + m); bytes = zeros z.l; record_no = j.old + m }
  writes-zero i m e h =
      writes_old i m e ∙ data-at z j.many j.old (zeros (j.many * z.l)) m no_write h
      ∙ ap (λ (bs : List ℕ). record { at = start_of z (j.old + m); bytes = bs; record_no = j.old + m }) (zero_row z.l j.many m h)

  pub writes-past : (i : ℕ) → total_of z j ≤ i → get_or (writes_of f z j scan) i no_write ≡ no_write
  writes-past i h = get_or-eq_default (writes_of f z j scan) no_write (omega (arith, length-writes))

-- the lowered U is one write at most
pub at_most_one : (k : ℕ) (t : Bool) → k + 2 + cond {A = ℕ} t 1 0 ≤ k + 3
at_most_one k true = omega arith
at_most_one k false = omega arith

-- how many make the change, by whether U is lowered
module _ (z : Sizes) (j : Job) where
  pub change-plain : lowers_of j ≡ false → change_of z j ≡ count_of z j + 2
  change-plain t = omega (arith, ap (λ (b : Bool). cond {A = ℕ} b 1 0) t)

  pub change-lowers : lowers_of j ≡ true → change_of z j ≡ count_of z j + 3
  change-lowers t = omega (arith, ap (λ (b : Bool). cond {A = ℕ} b 1 0) t)

  pub change-most : change_of z j ≤ count_of z j + 3
  change-most = at_most_one (count_of z j) (lowers_of j)

-- the place of a write that is left: a data record's, record 1's, the entry's, the lowered U's or a zeroed record's
pub phases : (P : Type 0) (z : Sizes) (j : Job) (i : ℕ) → i < total_of z j
    → (i < count_of z j → P) → (i ≡ count_of z j → P) → (i ≡ count_of z j + 1 → P) → (i ≡ count_of z j + 2 → lowers_of j ≡ true → P)
    → ((m : ℕ) → i ≡ change_of z j + m → m < j.many → P) → P
phases P z j i h row boot entry lower old =
    ⊎_elim row
    (λ (a : count_of z j ≤ i).
    ⊎_elim (λ (b : i < count_of z j + 1). boot (omega arith))
    (λ (b : count_of z j + 1 ≤ i).
    ⊎_elim (λ (c : i < count_of z j + 2). entry (omega arith))
    (λ (c : count_of z j + 2 ≤ i).
    ⊎_elim (λ (d : i < change_of z j). last (lowers_of j) refl d c) (λ (d : change_of z j ≤ i). old (i - change_of z j) (omega arith) (omega arith))
    (lt-or-ge i (change_of z j)))
    (lt-or-ge i (count_of z j + 2)))
    (lt-or-ge i (count_of z j + 1)))
    (lt-or-ge i (count_of z j))
  where
    last : (t : Bool) → lowers_of j ≡ t → i < count_of z j + 2 + cond t 1 0 → count_of z j + 2 ≤ i → P
    last true e l c = lower (omega arith) e
    last false e l c = absurd (omega arith)

-- only a save has data records
pub row-saves : (z : Sizes) (j : Job) → 0 < count_of z j → j.saves ≡ true
row-saves z j h = go j.saves h
  where
    go : (b : Bool) → 0 < cond b (records_for z j.size) 0 → b ≡ true
    go true h = refl
    go false h = absurd (omega arith)

-- a row as code makes it: what is left of the scan, at most l bytes, then zeros
pub row_is : (l k : ℕ) (scan : List ℕ) (i : ℕ) → i < k → take l (drop (i * l) (pad (k * l) scan)) ≡ pad l (take l (drop (i * l) scan))
unfolding pad
row_is l k scan i h =
    let row : List ℕ = take l (drop (i * l) scan) in
    let t : suc i * l ≤ k * l = times (suc i) k l h in
    let e : suc i * l ≡ i * l + l = suc-mul i l in
    let p : length (pad (k * l) scan) ≡ length scan + (k * l - length scan) = simp (length-append, length-zeros) in
    let left : length (take l (drop (i * l) (pad (k * l) scan))) ≡ l =
    length-take-le l (drop (i * l) (pad (k * l) scan)) (omega (arith, length-drop (i * l) (pad (k * l) scan), p, t, e)) in
    let right : length (pad l row) ≡ l = length-pad l row (omega (arith, length-take l (drop (i * l) scan))) in
    ext_get_or 0 (take l (drop (i * l) (pad (k * l) scan))) (pad l row) (left ∙ sym right)
    (λ o ho.
    let o<l : o < l = omega (arith, left, ho) in
    get_or-take l (drop (i * l) (pad (k * l) scan)) o 0 o<l ∙ get_or-drop (i * l) (pad (k * l) scan) o 0 ∙ pad-at (k * l) scan (i * l + o)
    ∙ sym (get_or-drop (i * l) scan o 0) ∙ sym (get_or-take l (drop (i * l) scan) o 0 o<l) ∙ sym (pad-at l row o))
