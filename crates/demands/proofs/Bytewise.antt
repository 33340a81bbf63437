-- What is made of bytes is bytes: the records of a file in either form.
use Prim.Native.Nat.{ℕ, zero, suc, ◌+◌, ◌-◌, ◌≤◌, ◌<◌}
use mathlib.Core.Path.{◌≡◌, sym, subst}
use mathlib.Core.Bool.{true, false}
use mathlib.Core.List.{List, [], ◌∷◌, ◌++◌}
use mathlib.Core.Logic.{◌≢◌, ⊎_elim}
use native.Mathlib.Nat.{mod-lt}
use native.Mathlib.Omega.{arith}
use lib.ListN.{length, drop, get_or, get_or-append, get_or-eq_default}
use lib.Seq.{get_or-append-add, get_or-drop}
use Rattle.lent.specs.Number.{big, byte_of, digit, bytes, numbers, words}
use Rattle.lent.specs.Part.{part}
use Rattle.lent.specs.Write.{zeros, pad}
use Rattle.lent.proofs.Lists.{same_or, lt-or-ge, either}
use Rattle.lent.proofs.Numbers.{length-bytes, bytes-at}
use Rattle.lent.proofs.Parts.{length-part-min, part_at}
use Rattle.lent.proofs.Writes.{get_or-zeros, pad-at}
use Rattle.paper.specs.declared.sizes.Sizes.{Sizes}
use Rattle.paper.specs.Sizes.{boot_bytes, capacity_of, home_of}
use Rattle.paper.specs.Index.{empty}
use Rattle.paper.specs.Convert.{Carried, carried_at, boot_as, scan_as, entry_as, entries_as, records_as}
use Rattle.paper.proofs.Forms.{by_old, by-current}
use Rattle.paper.proofs.Carrying.{scan_old, scan_current, entry-empty, entry-full}
use Rattle.demands.specs.Entries.{Bytes}

-- past the end
past : (xs : List ℕ) (i : ℕ) → length xs ≤ i → get_or xs i 0 < 256
past xs i h =
    let e : get_or xs i 0 ≡ 0 = get_or-eq_default xs 0 h in
    omega arith

bytes-none : Bytes []
bytes-none i = past [] i (omega arith)

pub bytes-append : (xs ys : List ℕ) → Bytes xs → Bytes ys → Bytes (xs ++ ys)
bytes-append xs ys a b i =
    ⊎_elim (λ (h : i < length xs). omega (arith, get_or-append xs ys 0 i h, a i))
    (λ (h : length xs ≤ i).
    let e : i ≡ length xs + (i - length xs) = omega arith in
    subst (λ (k : ℕ). get_or (xs ++ ys) k 0 < 256) (sym e) (omega (arith, get_or-append-add xs ys (i - length xs) 0, b (i - length xs))))
    (lt-or-ge i (length xs))

pub bytes_drop : (n : ℕ) (xs : List ℕ) → Bytes xs → Bytes (drop n xs)
bytes_drop n xs a i = omega (arith, get_or-drop n xs i 0, a (n + i))

bytes-part : (from to : ℕ) (xs : List ℕ) → Bytes xs → Bytes (part from to xs)
bytes-part from to xs a i =
    ⊎_elim (λ (h : i < to - from). omega (arith, part_at from to xs i h, a (from + i)))
    (λ (h : to - from ≤ i). past (part from to xs) i (omega (arith, length-part-min from to xs))) (lt-or-ge i (to - from))

digit_low : (n v i : ℕ) → digit n v i < 256
unfolding digit
digit_low n v i = mod-lt _ (omega arith)

bytes-number : (n v : ℕ) → Bytes (bytes big n v)
bytes-number n v i =
    ⊎_elim (λ (h : i < n). omega (arith, bytes-at big n v i h, digit_low n v (byte_of big n i)))
    (λ (h : n ≤ i). past (bytes big n v) i (omega (arith, length-bytes big n v))) (lt-or-ge i n)

bytes-numbers : (n : ℕ) (vs : List ℕ) → Bytes (numbers n vs)
unfolding numbers
bytes-numbers n [] = bytes-none
bytes-numbers n (v ∷ vs) = bytes-append (bytes big n v) (numbers n vs) (bytes-number n v) (bytes-numbers n vs)

bytes-zeros : (n : ℕ) → Bytes (zeros n)
bytes-zeros n i = omega (arith, get_or-zeros n i)

bytes-pad : (n : ℕ) (xs : List ℕ) → Bytes xs → Bytes (pad n xs)
bytes-pad n xs a i = omega (arith, pad-at n xs i, a i)

-- ---- the N records

bytes-boot : (v : ℕ) (z : Sizes) → Bytes (boot_as v z)
unfolding boot_as boot_bytes
bytes-boot v z =
    let six : List ℕ = z.n ∷ z.d ∷ z.l ∷ z.m ∷ z.u ∷ z.counter ∷ [] in
    ⊎_elim (λ (e : v ≡ 0). subst Bytes (by_old v (numbers 2 six) (boot_bytes z) e) (bytes-numbers 2 six))
    (λ (e : v ≢ 0). subst Bytes (by-current v (numbers 2 six) (boot_bytes z) e) (bytes-numbers 4 (z.n ∷ z.d ∷ z.l ∷ z.m ∷ z.u ∷ z.counter ∷ z.kind ∷ 1 ∷ [])))
    (same_or v 0)

module _ (v : ℕ) (c : Carried) (middle : Bytes c.middle) where
  bytes-scan : Bytes (scan_as v c)
  bytes-scan =
      let four : List ℕ = c.run.first ∷ c.run.last ∷ 2 ∷ c.position ∷ [] in
      let two : List ℕ = c.run.first ∷ c.run.last ∷ [] in
      let one : List ℕ = c.position ∷ [] in
      ⊎_elim (λ (e : v ≡ 0). subst Bytes (sym (scan_old v c e)) (bytes-append (numbers 2 four) c.middle (bytes-numbers 2 four) middle))
      (λ (e : v ≢ 0).
      subst Bytes (sym (scan_current v c e))
      (bytes-append (words two) (c.middle ++ numbers 2 one) (bytes-numbers 4 two) (bytes-append c.middle (numbers 2 one) middle (bytes-numbers 2 one))))
      (same_or v 0)

  bytes-entry : (m : ℕ) → Bytes (entry_as v m c)
  bytes-entry m =
      ⊎_elim (λ (e : empty c.run ≡ true). subst Bytes (sym (entry-empty v c m e)) (bytes-zeros m))
      (λ (e : empty c.run ≡ false). subst Bytes (sym (entry-full v c m e)) (bytes-pad m (scan_as v c) bytes-scan)) (either (empty c.run))

bytes-entries : (v m : ℕ) (carried : ℕ → Carried) → ((s : ℕ) → Bytes (carried s).middle) → (n : ℕ) → Bytes (entries_as v m carried n)
unfolding entries_as
bytes-entries v m carried middle zero = bytes-none
bytes-entries v m carried middle (suc n) =
    bytes-append (entries_as v m carried n) (entry_as v m (carried (suc n))) (bytes-entries v m carried middle n) (bytes-entry v (carried (suc n)) (middle (suc n)) m)

pub bytes-records : (v : ℕ) (f : List ℕ) (z : Sizes) → Bytes f → Bytes (records_as v z (carried_at f z))
unfolding records_as
bytes-records v f z low =
    bytes-append (pad z.l (boot_as v z)) (entries_as v z.m (carried_at f z) (capacity_of z)) (bytes-pad z.l (boot_as v z) (bytes-boot v z))
    (bytes-entries v z.m (carried_at f z) (λ s. bytes-part (home_of z s + 8) (home_of z s + 60) f low) (capacity_of z))
