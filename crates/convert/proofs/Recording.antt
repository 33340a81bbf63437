-- The records in a row: record 1, the entries one after the other, and zeros above U.
use Prim.Native.Nat.{ℕ, ◌+◌, ◌-◌, ◌*◌, ◌≤◌, ◌<◌}
use mathlib.Core.Path.{◌≡◌, refl, sym, ◌∙◌, ap}
use mathlib.Core.List.{List, [], ◌∷◌, ◌++◌, append_assoc, append-nil}
use native.Mathlib.Omega.{arith}
use native.Mathlib.Numerals.{add-one}
use native.Mathlib.Nat.{add-mul, zero-mul, mul-le-mul}
use lib.ListN.{length, length-append}
use Rattle.lent.specs.Number.{numbers}
use Rattle.lent.specs.Write.{write, zeros, pad}
use Rattle.lent.proofs.Writes.{write_then, length-zeros, length-pad}
use Rattle.paper.specs.declared.sizes.Sizes.{Sizes}
use Rattle.paper.specs.Sizes.{boot_bytes, capacity_of, home_of, Ranged, Shaped}
use Rattle.paper.specs.Index.{run_of}
use Rattle.paper.specs.Convert.{Carried, carried_at, boot_as, entry_as, entries_as, records_as, Convertible}
use Rattle.paper.proofs.Sizing.{home-end, times}
use Rattle.paper.proofs.Opening.{facts-empty}
use Rattle.paper.proofs.Forms.{by_old, by-current}
use Rattle.paper.proofs.Carrying.{middle-short, boot-short, length-entries-as, entries-above, index-long}
use Rattle.convert.proofs.Storing.{told-short}
use Rattle.convert.proofs.Zeroing.{write_again, zeros-over}
use Rattle.convert.specs.Going.{Short, Heads, Goes, told}
use Rattle.writes.specs.Inside as writes

-- ---- record 1

module _ (v : ℕ) (z : Sizes) (out : ℕ) (h : Heads v z out) where
  pub short : v ≡ 0 → Short z
  short e =
      let R = h.ranged.shape in
      record { n = omega arith; d = omega (arith, h.few e); l = omega arith; m = omega arith; u = omega (arith, h.ranged.used, R.slots); counter = omega (arith, h.counted e) }

  pub narrow : writes.Narrow z
  narrow =
      let R = h.ranged.shape in
      record { n = omega arith; d = omega (arith, h.ranged.records); l = omega arith; m = omega arith; u = omega (arith, h.ranged.used, R.slots); kind = omega (arith, h.ranged.known) }

module _ (v : ℕ) (z : Sizes) (out g b : List ℕ) (put : g ≡ write out 0 (pad z.l b)) where
  pub boot_old : v ≡ 0 → b ≡ numbers 2 (z.n ∷ z.d ∷ z.l ∷ z.m ∷ z.u ∷ z.counter ∷ []) → g ≡ write out 0 (pad z.l (boot_as v z))
  unfolding boot_as
  boot_old e p = put ∙ ap (λ (x : List ℕ). write out 0 (pad z.l x)) (p ∙ by_old v _ _ e)

  pub boot_current : (v ≡ 0 → ⊥) → b ≡ boot_bytes z → g ≡ write out 0 (pad z.l (boot_as v z))
  unfolding boot_as
  boot_current e p = put ∙ ap (λ (x : List ℕ). write out 0 (pad z.l x)) (p ∙ by-current v _ _ e)

pub heads : (v : ℕ) (f out : List ℕ) (z : Sizes) → Convertible v f out z → Heads v z (length out)
heads v f out z C =
    let R = C.sound.booted.ranged in
    record {
      ranged = R;
      few = C.sayable.few;
      counted = C.sayable.counted;
      within = omega (arith, C.room, times 1 z.n z.l (omega (arith, R.shape.n_low)));
    }

-- ---- the entries

no-zeros : (xs : List ℕ) → xs ++ zeros 0 ≡ xs
unfolding zeros
no-zeros xs = append-nil xs

module _ (v : ℕ) (f : List ℕ) (z : Sizes) (out : List ℕ) where
  -- one entry more
  one_entry : (i : ℕ) → entries_as v z.m (carried_at f z) i ++ entry_as v z.m (carried_at f z (i + 1)) ≡ entries_as v z.m (carried_at f z) (i + 1)
  unfolding entries_as
  one_entry i = rw add-one refl

  module _ (R : Shaped z) (fits : z.l ≤ length out) where
    long : (i : ℕ) → length (entries_as v z.m (carried_at f z) i) ≡ i * z.m
    long i = length-entries-as v z.m (carried_at f z) (omega (arith, R.m_low)) (middle-short f z) i

    home_after : (i : ℕ) → home_of z (i + 1) ≡ z.l + length (entries_as v z.m (carried_at f z) i)
    home_after i = let e : i + 1 - 1 ≡ i = omega arith in omega (arith, ap (λ (x : ℕ). x * z.m) e, long i)

    -- over zeros: the entries of i slots, and the zeros that are left
    pub over-more : (n : ℕ) (a b : List ℕ) (i : ℕ) → i < n → a ≡ write out z.l (entries_as v z.m (carried_at f z) i ++ zeros ((n - i) * z.m))
        → b ≡ write a (home_of z (i + 1)) (told v (carried_at f z (i + 1))) → b ≡ write out z.l (entries_as v z.m (carried_at f z) (i + 1) ++ zeros ((n - (i + 1)) * z.m))
    unfolding entry_as
    over-more n a b i h p q =
        let c : Carried = carried_at f z (i + 1) in
        let r : ℕ = (n - (i + 1)) * z.m in
        let es : List ℕ = entries_as v z.m (carried_at f z) i in
        let d : n - i ≡ 1 + (n - (i + 1)) = omega arith in
        let w : (n - i) * z.m ≡ z.m + r = ap (λ (x : ℕ). x * z.m) d ∙ add-mul 1 (n - (i + 1)) z.m ∙ omega arith in
        q ∙ ap (λ (x : ℕ). write a x (told v c)) (home_after i) ∙ ap (λ (x : List ℕ). write x (z.l + length es) (told v c)) (p ∙ ap (λ (x : ℕ). write out z.l (es ++ zeros x)) w)
        ∙ zeros-over out z.l es (told v c) z.m r fits (omega (arith, told-short v c (middle-short f z (i + 1)), R.m_low))
        ∙ ap (λ (x : List ℕ). write out z.l (x ++ zeros r)) (one_entry i)

  pub over_none : (g : List ℕ) (n : ℕ) → z.l ≤ length out → g ≡ write out z.l (zeros (n * z.m)) → g ≡ write g z.l (entries_as v z.m (carried_at f z) 0 ++ zeros ((n - 0) * z.m))
  unfolding entries_as
  over_none g n h e =
      let o : n - 0 ≡ n = omega arith in
      rw o (e ∙ sym (write_again out z.l (zeros (n * z.m)) (zeros (n * z.m)) h refl) ∙ ap (λ (x : List ℕ). write x z.l (zeros (n * z.m))) (sym e))

  pub over-all : Shaped z → (a g : List ℕ) (i : ℕ) → i ≤ z.u → z.u ≤ i → z.l ≤ length out → g ≡ write out z.l (zeros (z.u * z.m))
      → a ≡ write g z.l (entries_as v z.m (carried_at f z) i ++ zeros ((z.u - i) * z.m)) → a ≡ write out z.l (entries_as v z.m (carried_at f z) z.u)
  over-all R a g i l h k e p =
      let q : i ≡ z.u = omega arith in
      let d : z.u - z.u ≡ 0 = omega arith in
      let es : List ℕ = entries_as v z.m (carried_at f z) z.u in
      let w : es ++ zeros ((z.u - z.u) * z.m) ≡ es = rw (d, zero-mul) (no-zeros es) in
      let o : length es ≡ z.u * z.m = length-entries-as v z.m (carried_at f z) (omega (arith, R.m_low)) (middle-short f z) z.u in
      p ∙ ap (λ (x : List ℕ). write x z.l (entries_as v z.m (carried_at f z) i ++ zeros ((z.u - i) * z.m))) e
      ∙ ap (λ (j : ℕ). write (write out z.l (zeros (z.u * z.m))) z.l (entries_as v z.m (carried_at f z) j ++ zeros ((z.u - j) * z.m))) q
      ∙ ap (write (write out z.l (zeros (z.u * z.m))) z.l) w
      ∙ write_again out z.l es (zeros (z.u * z.m)) k (o ∙ sym (length-zeros (z.u * z.m)))

-- what the entry of slot s asks for
pub goes : (v : ℕ) (f out : List ℕ) (z : Sizes) → Convertible v f out z → v ≤ 1 → (s len : ℕ) → 1 ≤ s → s ≤ z.u → len ≡ length out → Goes v f z s len
goes v f out z C w s len a b e =
    let B = C.sound.booted in
    let high : s ≤ capacity_of z = omega (arith, B.ranged.used) in
    record {
      slot = record { booted = B; low = a; high = high };
      other = omega (arith, C.other, ap (λ (y : Sizes). y.version) B.reads, B.version);
      lies = C.sound.laid.inside s a b;
      narrow = λ h. let p = C.sayable.narrow h s a b in record { first = p.0; last = p.1 };
      within = omega (arith, home-end z B.ranged.shape s a high, C.room);
    }

-- a buffer of the same length
pub of_length : (v : ℕ) (f out g : List ℕ) (z : Sizes) → Convertible v f out z → length g ≡ length out → Convertible v f g z
of_length v f out g z C e = record { sound = C.sound; room = omega (arith, C.room); other = C.other; sayable = C.sayable }

-- the products and sums that code computes
pub record Counted (z : Sizes) (cap : ℕ) : Type 0 where
  pub used : z.u * z.m ≤ 16777216
  pub rest : (cap - z.u) * z.m ≤ 16777216

pub counted : (z : Sizes) → Ranged z → (cap : ℕ) → cap ≡ capacity_of z → Counted z cap
counted z R cap e =
    let m : z.m ≤ 4096 = omega (arith, R.shape.m_high, R.shape.l_high) in
    record { used = mul-le-mul {n₂ = 4096} {m₂ = 4096} (omega (arith, R.used, R.shape.slots)) m; rest = mul-le-mul {n₂ = 4096} {m₂ = 4096} (omega (arith, R.shape.slots)) m }

-- ---- all of it: record 1, the slots in use, and zeros above them

module _ (v : ℕ) (f out : List ℕ) (z : Sizes) (C : Convertible v f out z) (cap : ℕ) (is : cap ≡ capacity_of z) where
  abbrev boot : List ℕ
  boot = pad z.l (boot_as v z)

  abbrev used : List ℕ
  used = entries_as v z.m (carried_at f z) z.u

  whole-index : entries_as v z.m (carried_at f z) (capacity_of z) ≡ used ++ zeros ((cap - z.u) * z.m)
  whole-index =
      let e : z.u + (cap - z.u) ≡ capacity_of z = omega (arith, C.sound.booted.ranged.used) in
      ap (entries_as v z.m (carried_at f z)) (sym e)
      ∙ entries-above v z.m (carried_at f z) z.u (cap - z.u) (λ s a b. facts-empty (run_of f z s) (C.sound.laid.above s a (omega arith)))

  pub all_records : (a b g : List ℕ) → a ≡ write out 0 boot → b ≡ write a z.l used → g ≡ write b (z.l + z.u * z.m) (zeros ((cap - z.u) * z.m))
      → g ≡ write out 0 (records_as v z (carried_at f z))
  unfolding records_as
  all_records a b g p q r =
      let R = C.sound.booted.ranged.shape in
      let i : length boot ≡ z.l = length-pad z.l (boot_as v z) (omega (arith, boot-short v z, R.l_low)) in
      let j = length-entries-as v z.m (carried_at f z) (omega (arith, R.m_low)) (middle-short f z) z.u in
      let k : length (boot ++ used) ≡ z.l + z.u * z.m = length-append boot used ∙ omega arith in
      let two : b ≡ write out 0 (boot ++ used) = write_then out a b 0 z.l boot used p q (omega arith) (omega arith) in
      write_then out b g 0 (z.l + z.u * z.m) (boot ++ used) (zeros ((cap - z.u) * z.m)) two r (omega arith) (omega arith)
      ∙ ap (write out 0) (append_assoc boot used (zeros ((cap - z.u) * z.m)) ∙ ap (λ (x : List ℕ). boot ++ x) (sym whole-index))

  -- the places that code computes: the entries end with the N records
  pub index-end : z.l + z.u * z.m + (cap - z.u) * z.m ≤ length out
  index-end =
      let B = C.sound.booted in
      let e : z.u + (cap - z.u) ≡ capacity_of z = omega (arith, B.ranged.used) in
      omega (arith, add-mul z.u (cap - z.u) z.m, ap (λ (x : ℕ). x * z.m) e, index-long z B.ranged.shape, C.room)
