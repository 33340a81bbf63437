-- Demand 2, of the entry as the call gives it.
use Rattle.std.specs.Prelude.{Ok, Err}
use Prim.Native.Nat.{ℕ, ◌+◌, ◌-◌, ◌*◌, ◌%◌, ◌≤◌, ◌<◌}
use mathlib.Core.Path.{◌≡◌, refl, sym, ◌∙◌, ap, subst}
use mathlib.Core.Bool.{true, false}
use mathlib.Core.List.{List, [], ◌∷◌, ◌++◌}
use mathlib.Core.Logic.{⊎_elim}
use native.Mathlib.Omega.{arith}
use native.Mathlib.Nat.{add-zero}
use borrow.Author.Tests.{lt-ltb, le-ltb, lt-leb, le-leb, leb-true}
use lib.Dec.{leb}
use lib.Ieee.{Float, binary32, binary64, of_bits}
use lib.IntN.{pos}
use lib.ListN.{length}
use Rattle.lent.specs.Checks.{clear, fired}
use Rattle.lent.specs.Lists.{all}
use Rattle.lent.specs.Number.{big, number, bytes, be16, be32, be64, int16, widened}
use Rattle.lent.specs.Part.{part}
use Rattle.lent.proofs.Lists.{lt-or-ge, not_so, all_true}
use Rattle.lent.proofs.Checks.{judge-clear}
use Rattle.lent.proofs.Numbers.{bytes-number, number-two}
use Rattle.lent.proofs.Parts.{part-part, part_join, part_none}
use Rattle.paper.specs.declared.sizes.Sizes.{Sizes}
use Rattle.paper.specs.declared.sizes.Run.{Run}
use Rattle.paper.specs.Answers.{Found, taken_in}
use Rattle.paper.specs.Refusals.{kind_says}
use Rattle.paper.specs.Sizes.{sizes_of, version_of, word_at, home_of}
use Rattle.paper.specs.Index.{run_of, Full, Lies, Sound}
use Rattle.paper.specs.Entry.{natural_of, kind_of, magic_of, position_of, fields_of}
use Rattle.paper.specs.Look.{slot_checks, found_of, fields_in}
use Rattle.paper.specs.Store.{records_for, run_from}
use Rattle.paper.proofs.Sizing.{home-is, home-in}
use Rattle.paper.proofs.Handed.{taken-ok}
use Rattle.paper.proofs.Opening.{open-sound, open-reads, inside-all}
use Rattle.paper.proofs.Encoding.{entry-about}
use Rattle.paper.proofs.Begins.{SlotTaken, slot-is-taken}
use Rattle.paper.proofs.Reading.{slot-clear}
use Rattle.paper.proofs.Confirming.{Confirms, ended, saved-entry, saved-run}
use Rattle.demands.specs.Reads.{entry_byte}
use Rattle.demands.specs.Entries.{Bytes, bits16, middle_bytes, field_bytes, old_bytes, KindIs, EntryIs, OldRunIs, OldRuns, EntryFields, SavedGives}

-- ---- the fields, written back

bits_back : (v : ℕ) → v < 65536 → bits16 (int16 v) ≡ v
unfolding int16
bits_back v h =
    ⊎_elim (λ (l : v < 32768). rw (lt-ltb v 32768 l) refl) (λ (l : 32768 ≤ v). rw (le-ltb v 32768 l) (omega arith)) (lt-or-ge v 32768)

widened-back : (v : ℕ) → v < 65536 → widened v % 65536 ≡ v
unfolding widened
widened-back v h =
    ⊎_elim (λ (l : v < 32768). rw (lt-ltb v 32768 l) (omega arith)) (λ (l : 32768 ≤ v). rw (le-ltb v 32768 l) (omega arith)) (lt-or-ge v 32768)

module _ (f : List ℕ) (low : Bytes f) (at : ℕ) (fits : at + 62 ≤ length f) where
  -- a number of n bytes from byte k of the entry on
  field : (n k e : ℕ) → k + n ≡ e → e ≤ 62 → bytes big n (number big n f (at + k)) ≡ part (at + k) (at + e) f
  field n k e h l = bytes-number big n f (at + k) (omega arith) low ∙ ap (λ (x : ℕ). part (at + k) x f) (omega arith)

  int : (k e : ℕ) → k + 2 ≡ e → e ≤ 62 → bytes big 2 (bits16 (int16 (be16 f (at + k)))) ≡ part (at + k) (at + e) f
  int k e h l =
      let a = low (at + k) in
      let b = low (at + k + 1) in
      ap (bytes big 2) (bits_back (be16 f (at + k)) (omega (arith, number-two f (at + k)))) ∙ field 2 k e h l

  -- what begins at a and is followed by what begins at b, to byte e
  then-part : {xs ys : List ℕ} (a b e : ℕ) → xs ≡ part (at + a) (at + b) f → ys ≡ part (at + b) (at + e) f → a ≤ b → b ≤ e → e ≤ 62
      → xs ++ ys ≡ part (at + a) (at + e) f
  then-part {xs} {ys} a b e p q h k l = rw (p, q) (part_join (at + a) (at + b) (at + e) f (omega arith) (omega arith) (omega arith))

  -- bytes 8 to 59, which are the same in both forms
  middle-back : (v e : ℕ) (rest : List ℕ) → 60 ≤ e → e ≤ 62 → rest ≡ part (at + 60) (at + e) f → middle_bytes (fields_of v f at) rest ≡ part (at + 8) (at + e) f
  unfolding fields_of
  middle-back v e rest lo hi r =
      then-part 8 12 e (field 4 8 12 refl (omega arith))
      (then-part 12 16 e (field 4 12 16 refl (omega arith))
      (then-part 16 32 e refl
      (then-part 32 36 e (field 4 32 36 refl (omega arith))
      (then-part 36 40 e (field 4 36 40 refl (omega arith))
      (then-part 40 48 e (field 8 40 48 refl (omega arith))
      (then-part 48 52 e (field 4 48 52 refl (omega arith))
      (then-part 52 56 e (field 4 52 56 refl (omega arith))
      (then-part 56 58 e (int 56 58 refl (omega arith))
      (then-part 58 60 e (int 58 60 refl (omega arith)) r
      (omega arith) lo hi) (omega arith) (omega arith) hi) (omega arith) (omega arith) hi) (omega arith) (omega arith) hi) (omega arith) (omega arith) hi)
      (omega arith) (omega arith) hi) (omega arith) (omega arith) hi) (omega arith) (omega arith) hi) (omega arith) (omega arith) hi) (omega arith) (omega arith) hi

  -- the entry begins where it begins
  from-0 : (e : ℕ) → part (at + 0) (at + e) f ≡ part at (at + e) f
  from-0 e = ap (λ (x : ℕ). part x (at + e) f) (omega arith)

  pub fields_back : field_bytes (fields_of 1 f at) ≡ part at (at + 62) f
  unfolding field_bytes fields_of word_at position_of
  fields_back =
      then-part 0 4 62 (field 4 0 4 refl (omega arith))
      (then-part 4 8 62 (field 4 4 8 refl (omega arith)) (middle-back 1 62 _ (omega arith) (omega arith) (int 60 62 refl (omega arith)))
      (omega arith) (omega arith) (omega arith)) (omega arith) (omega arith) (omega arith)
      ∙ from-0 62

  -- a 16-bit number that was widened
  half : (k e : ℕ) → k + 2 ≡ e → e ≤ 62 → bytes big 2 (widened (be16 f (at + k)) % 65536) ≡ part (at + k) (at + e) f
  half k e h l =
      let a = low (at + k) in
      let b = low (at + k + 1) in
      ap (bytes big 2) (widened-back (be16 f (at + k)) (omega (arith, number-two f (at + k)))) ∙ field 2 k e h l

  pub old-back : old_bytes (fields_of 0 f at) ≡ part at (at + 60) f
  unfolding old_bytes fields_of word_at position_of magic_of
  old-back =
      then-part 0 2 60 (half 0 2 refl (omega arith))
      (then-part 2 4 60 (half 2 4 refl (omega arith))
      (then-part 4 6 60 (int 4 6 refl (omega arith))
      (then-part 6 8 60 (int 6 8 refl (omega arith))
      (middle-back 0 60 [] (omega arith) (omega arith) (sym (part_none (at + 60) (at + 60) f (omega arith))))
      (omega arith) (omega arith) (omega arith)) (omega arith) (omega arith) (omega arith)) (omega arith) (omega arith) (omega arith))
      (omega arith) (omega arith) (omega arith)
      ∙ from-0 60

-- ---- first and last of an old entry

field-first : (v : ℕ) (f : List ℕ) (at : ℕ) → (fields_of v f at).first ≡ word_at v f at 0
unfolding fields_of
field-first v f at = refl

field-last : (v : ℕ) (f : List ℕ) (at : ℕ) → (fields_of v f at).last ≡ word_at v f at 1
unfolding fields_of
field-last v f at = refl

-- a 16-bit number that is no record's where it is negative
widened-own : (x : ℕ) → widened x ≤ 1000000 → (widened x ≡ x) × (widened x < 32768)
unfolding widened
widened-own x h =
    ⊎_elim (λ (l : x < 32768). rw (lt-ltb x 32768 l) (refl, l)) (λ (l : 32768 ≤ x). let q = rw (le-ltb x 32768 l) at h in absurd (omega arith)) (lt-or-ge x 32768)

word-own : (v : ℕ) (f : List ℕ) (at i : ℕ) → v ≡ 0 → word_at v f at i ≤ 1000000 → (word_at v f at i ≡ be16 f (at + 2 * i)) × (word_at v f at i < 32768)
unfolding word_at
word-own v f at i e =
    subst (λ (x : ℕ). word_at x f at i ≤ 1000000 → (word_at x f at i ≡ be16 f (at + 2 * i)) × (word_at x f at i < 32768)) (sym e) (widened-own (be16 f (at + 2 * i)))

pub no_magic : (f : List ℕ) (at : ℕ) → (fields_of 1 f at).magic ≡ pos 0
unfolding fields_of magic_of int16
no_magic f at = refl

-- ---- the kind

module _ (m : ℕ) where
  small : m < 32768 → natural_of (int16 m) ≡ m
  unfolding int16
  small h = rw (lt-ltb m 32768 h) refl

  negative : 32768 ≤ m → natural_of (int16 m) ≡ 0
  unfolding int16
  negative h = rw (le-ltb m 32768 h) refl

module _ (n : ℕ) (a b : Float) where
  continuum-says : 256 ≤ n → n ≤ 304 → kind_says (kind_of n a b) ≡ record { number = 1; code = n - 256; single = a; double = b }
  unfolding kind_of
  continuum-says h k = rw (le-leb 256 n h, le-leb n 304 k) refl

  spectral-says : 512 ≤ n → n ≤ 560 → kind_says (kind_of n a b) ≡ record { number = 2; code = n - 512; single = a; double = b }
  unfolding kind_of
  spectral-says h k = rw (le-leb 256 n (omega arith), lt-leb n 304 (omega arith), le-leb 512 n h, le-leb n 560 k) refl

  other-says : (256 ≤ n → n ≤ 304 → ⊥) → (512 ≤ n → n ≤ 560 → ⊥) → kind_says (kind_of n a b) ≡ record { number = 0; code = 0; single = a; double = b }
  unfolding kind_of
  other-says h k =
      let p : all (leb 256 n ∷ leb n 304 ∷ []) ≡ false =
      not_so (λ e. let t = all_true (leb 256 n ∷ leb n 304 ∷ []) e in h (leb-true _ _ t.0) (leb-true _ _ t.1.0)) in
      let q : all (leb 512 n ∷ leb n 560 ∷ []) ≡ false =
      not_so (λ e. let t = all_true (leb 512 n ∷ leb n 560 ∷ []) e in k (leb-true _ _ t.0) (leb-true _ _ t.1.0)) in
      rw (p, q) refl

kind-is : (v : ℕ) (f : List ℕ) (at : ℕ) → KindIs (be16 f (at + 56)) (fields_of v f at)
unfolding fields_of
kind-is v f at =
    let m : ℕ = be16 f (at + 56) in
    let a : Float = of_bits binary32 (be32 f (at + 36)) in
    let b : Float = of_bits binary64 (be64 f (at + 40)) in
    record {
      continuum = λ h k. rw (small m (omega arith)) (continuum-says m a b h k);
      spectral = λ h k. rw (small m (omega arith)) (spectral-says m a b h k);
      other = λ h k.
          ⊎_elim (λ (l : m < 32768). rw (small m l) (other-says m a b h k))
          (λ (l : 32768 ≤ m). rw (negative m l) (other-says 0 a b (λ x y. omega arith) (λ x y. omega arith))) (lt-or-ge m 32768);
    }

-- ---- the call

pub found-is : (f : List ℕ) (s : ℕ) → fired (slot_checks f s) ≡ clear → found_of f s ≡ Ok (fields_of (version_of f) f (home_of (sizes_of f) s))
unfolding found_of
found-is f s e = judge-clear Err (slot_checks f s) _ e

module _ (f : List ℕ) (s : ℕ) (c : fired (slot_checks f s) ≡ clear) where
  T : SlotTaken f s
  T = slot-is-taken f s c

  S : Sound f (sizes_of f)
  S = open-sound T.opens

  inside : home_of (sizes_of f) s + (sizes_of f).m ≤ length f
  inside = home-in S.booted s T.slotted.low T.slotted.high

  m₁ : 64 ≤ (sizes_of f).m
  m₁ = S.booted.ranged.shape.m_low

  abbrev at_home : ℕ
  at_home = home_of (sizes_of f) s

  lies : Lies (sizes_of f) (run_of f (sizes_of f) s)
  lies = inside-all S.laid s T.slotted.low T.slotted.high

  first-own : version_of f ≡ 0 → (word_at (version_of f) f at_home 0 ≡ be16 f (at_home + 0)) × (word_at (version_of f) f at_home 0 < 32768)
  first-own v = word-own (version_of f) f at_home 0 v (omega (arith, lies.order T.full, lies.high, S.booted.ranged.records))

  last-own : version_of f ≡ 0 → (word_at (version_of f) f at_home 1 ≡ be16 f (at_home + 2)) × (word_at (version_of f) f at_home 1 < 32768)
  last-own v = word-own (version_of f) f at_home 1 v (omega (arith, lies.high, S.booted.ranged.records))

  pub entry-fields-at : Bytes f → EntryIs f (sizes_of f) s (fields_in (found_of f s))
  entry-fields-at low =
      let at : ℕ = home_of (sizes_of f) s in
      let e : fields_in (found_of f s) ≡ fields_of (version_of f) f at = ap (λ (x : Found). fields_in x) (found-is f s c) in
      let h : entry_byte (sizes_of f) s ≡ at = home-is (sizes_of f) s in
      subst (EntryIs f (sizes_of f) s) (sym e)
      (record {
        fields = λ v.
            rw h (subst (λ (x : ℕ). field_bytes (fields_of x f at) ≡ part at (at + 62) f) (sym v) (fields_back f low at (omega (arith, inside, m₁))));
        no_magic = λ v. subst (λ (x : ℕ). (fields_of x f at).magic ≡ pos 0) (sym v) (no_magic f at);
        old_fields = λ v.
            rw h (subst (λ (x : ℕ). old_bytes (fields_of x f at) ≡ part at (at + 60) f) (sym v) (old-back f low at (omega (arith, inside, m₁))));
        kind = rw h (kind-is (version_of f) f at);
      })

  pub old-run-at : OldRunIs f (sizes_of f) s (fields_in (found_of f s))
  old-run-at =
      let at : ℕ = home_of (sizes_of f) s in
      let e : fields_in (found_of f s) ≡ fields_of (version_of f) f at = ap (λ (x : Found). fields_in x) (found-is f s c) in
      let h : entry_byte (sizes_of f) s ≡ at = home-is (sizes_of f) s in
      subst (OldRunIs f (sizes_of f) s) (sym e)
      (record {
        old_first = λ v. rw h (field-first (version_of f) f at ∙ (first-own v).0 ∙ ap (be16 f) (add-zero at));
        old_last = λ v. rw h (field-last (version_of f) f at ∙ (last-own v).0);
        old_small = λ v. rw (field-first (version_of f) f at, field-last (version_of f) f at) ((first-own v).1, (last-own v).1);
      })

pub entry-fields : EntryFields
unfolding found_of
entry-fields f s low e = entry-fields-at f s (taken-ok (slot_checks f s) _ e) low

pub old-runs : OldRuns
unfolding found_of
old-runs f s e = old-run-at f s (taken-ok (slot_checks f s) _ e)

-- ---- after a save

pub saved-gives : SavedGives
saved-gives f scan j r count low e k54 =
    let x = ended f scan j true r count e in
    let z : Sizes = sizes_of f in
    let s : ℕ = j.slot in
    let C : Confirms f scan j z = subst (Confirms f scan j) (sym (open-reads f x.facts.opens)) x.facts in
    let A = C.agreeing in
    let S : Sound f z = open-sound C.opens in
    let run : run_of f z s ≡ run_from j.first (records_for z (length scan)) = saved-run C x.is in
    let full : Full (run_of f z s) = subst (λ (y : Run). Full y) (sym run) (omega (arith, A.past x.is)) in
    let c : fired (slot_checks f s) ≡ clear = slot-clear S s (record { low = A.low; high = A.high }) full in
    let at : ℕ = home_of z s in
    let long = home-in S.booted s A.low A.high in
    let m = S.booted.ranged.shape.m_low in
    let g : found_of f s ≡ Ok (fields_of (version_of f) f at) = found-is f s c in
    let v : version_of f ≡ 1 = A.current in
    record {
      taken = ap (λ (y : Found). taken_in y) g;
      about =
          ap (λ (y : Found). part 8 62 (field_bytes (fields_in y))) g ∙ ap (λ (x : ℕ). part 8 62 (field_bytes (fields_of x f at))) v ∙ ap (part 8 62) (fields_back f low at (omega arith))
          ∙ part-part at (at + 62) f 8 62 (omega arith) (omega arith) ∙ sym (part-part at (at + z.m) f 8 62 (omega arith) (omega arith))
          ∙ ap (part 8 62) (saved-entry C x.is) ∙ entry-about z (run_from j.first (records_for z (length scan))) j.about k54;
      first = ap (λ (y : Found). (fields_in y).first) g ∙ field-first (version_of f) f at ∙ ap (λ (y : Run). y.first) run;
      last = ap (λ (y : Found). (fields_in y).last) g ∙ field-last (version_of f) f at ∙ ap (λ (y : Run). y.last) run;
    }
