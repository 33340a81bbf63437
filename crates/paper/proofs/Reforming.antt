-- What is written in the wanted form is read back: the records of a file said in form v, and its own bytes after them, state the same sizes but the form, the same
-- runs, and in every slot with a scan the same fields but the magic number.
use Prim.Native.Nat.{ℕ, ◌+◌, ◌-◌, ◌*◌, ◌≤◌, ◌<◌}
use mathlib.Core.Path.{◌≡◌, refl, sym, ◌∙◌, ap, subst}
use mathlib.Core.Bool.{Bool, true, false}
use mathlib.Core.List.{List, [], ◌∷◌, ◌++◌, append-nil}
use mathlib.Core.Logic.{◌≢◌, ⊎_elim}
use native.Mathlib.Omega.{arith}
use native.Mathlib.Nat.{add_assoc}
use borrow.Author.Tests.{lt-ltb}
use lib.ListN.{length, drop, get_or, length-append, length-drop, get_or-append}
use lib.Seq.{get_or-append-add, get_or-drop}
use Rattle.lent.specs.Number.{big, number, numbers, words, be16, be32, widened}
use Rattle.lent.specs.Part.{Alike}
use Rattle.lent.specs.Write.{zeros}
use Rattle.lent.proofs.Lists.{same_or}
use Rattle.lent.proofs.Numbers.{number-cong, number_past, number-zeros, number-after, two-small, four-small, length-numbers, numbers-at}
use Rattle.lent.proofs.Parts.{part_at, length_part}
use Rattle.lent.proofs.Writes.{pad-at}
use Rattle.paper.specs.declared.sizes.Sizes.{Sizes}
use Rattle.paper.specs.Sizes.{sizes_of, version_of, word_at, counter_of, type_of, boot_bytes, capacity_of, home_of, Shaped, Ranged}
use Rattle.paper.specs.Index.{run_of, empty, Full, Lies, Laid, Sound}
use Rattle.paper.specs.Entry.{position_of}
use Rattle.paper.specs.Convert.{in_form, Carried, carried_at, boot_as, scan_as, entry_as, records_as, Sayable}
use Rattle.paper.proofs.Sizing.{head_in, home-in}
use Rattle.paper.proofs.Forms.{sizes-same, word-old, word-current, counter-old, counter-current, position-old, position-current}
use Rattle.paper.proofs.Opening.{empty-facts, full-facts, facts-full, full-holds, inside-all}
use Rattle.paper.proofs.Encoding.{sizes-back}
use Rattle.paper.proofs.Frame.{laid_same}
use Rattle.paper.proofs.Carrying.{middle-short, scan_old, scan_current, entry-empty, entry-full, length-records-as, records-boot, records-entry}

-- a number of 15 bits stays as it is
widened_small : (x : ℕ) → x < 32768 → widened x ≡ x
unfolding widened
widened_small x h = rw (lt-ltb x 32768 h)

-- ---- the bootstrap in form v states the sizes

-- every range is one of either form
pub ranged-form : (v : ℕ) (z : Sizes) → Ranged z → Ranged (in_form v z)
ranged-form v z R = let q = R.shape in record { shape = omega arith; records = R.records; used = R.used; known = R.known }

module _ (z : Sizes) (R : Ranged z) (t : z.kind ≡ 0) where
  abbrev vs : List ℕ
  vs = z.n ∷ z.d ∷ z.l ∷ z.m ∷ z.u ∷ z.counter ∷ []

  old-states : z.d ≤ 32767 → z.counter ≤ 65535 → sizes_of (boot_as 0 z) ≡ in_form 0 z
  unfolding boot_as word_at counter_of type_of
  old-states few counted =
      let s = R.shape in
      let at : (i : ℕ) → i < 6 → get_or vs i 0 < 65536 → be16 (numbers 2 vs) (2 * i) ≡ get_or vs i 0 =
      λ i h l. ap (λ (x : List ℕ). be16 x (2 * i)) (sym (append-nil (numbers 2 vs))) ∙ numbers-at 2 vs [] i h l in
      let e : version_of (numbers 2 vs) ≡ 0 = number_past big 4 (numbers 2 vs) 28 (omega (arith, length-numbers 2 vs)) in
      rw (
        e,
        at 0 (omega arith) (omega arith),
        at 1 (omega arith) (omega arith),
        at 2 (omega arith) (omega arith),
        at 3 (omega arith) (omega arith),
        at 4 (omega arith) (omega arith),
        at 5 (omega arith) (omega arith),
        widened_small z.n (omega arith),
        widened_small z.d (omega arith),
        widened_small z.l (omega arith),
        widened_small z.m (omega arith),
        widened_small z.u (omega arith),
        ← t,
      )

  current-states : z.counter < 4294967296 → sizes_of (boot_as 1 z) ≡ in_form 1 z
  unfolding boot_as boot_bytes
  current-states c =
      ap sizes_of (sym (append-nil (boot_bytes (in_form 1 z))))
      ∙ sizes-back (in_form 1 z) [] (ranged-form 1 z R) c refl

-- ---- the records of f in form v, and its own bytes after them

-- what is lent is bytes
module _ (v : ℕ) (form : v ≤ 1) {f : List ℕ} {z : Sizes} (S : Sound f z) (Y : Sayable v f z) (low : (i : ℕ) → get_or f i 0 < 256) where
  abbrev rest : List ℕ
  rest = drop (z.n * z.l) f

  abbrev g : List ℕ
  g = records_as v z (carried_at f z) ++ rest

  R : Shaped z
  R = S.booted.ranged.shape

  head-length : length (records_as v z (carried_at f z)) ≡ z.n * z.l
  head-length = length-records-as v z (carried_at f z) R (middle-short f z)

  pub reform-length : length (records_as v z (carried_at f z) ++ drop (z.n * z.l) f) ≡ length f
  reform-length = length-append (records_as v z (carried_at f z)) rest ∙ omega (arith, head-length, length-drop (z.n * z.l) f, head_in S.booted)

  -- "the data section being the same"
  pub reform-data : Alike f (records_as v z (carried_at f z) ++ drop (z.n * z.l) f) (z.n * z.l) (length f)
  reform-data i lo hi =
      let n : ℕ = z.n * z.l in
      let e : i ≡ length (records_as v z (carried_at f z)) + (i - n) = omega (arith, head-length) in
      let o : n + (i - n) ≡ i = omega arith in
      ap (λ (x : ℕ). get_or g x 0) e ∙ get_or-append-add (records_as v z (carried_at f z)) rest (i - n) 0 ∙ get_or-drop n f (i - n) 0 ∙ ap (λ (x : ℕ). get_or f x 0) o

  counter-small : z.counter < 4294967296
  counter-small =
      subst (λ (y : Sizes). y.counter < 4294967296) S.booted.reads
      (⊎_elim (λ (e : version_of f ≡ 0). omega (arith, counter-old f e, two-small f low 10)) (λ (e : version_of f ≢ 0). omega (arith, counter-current f e, four-small f low 20)) (same_or (version_of f) 0))

  states : sizes_of (boot_as v z) ≡ in_form v z
  states =
      ⊎_elim
      (λ (e : v ≡ 0). subst (λ (x : ℕ). sizes_of (boot_as x z) ≡ in_form x z) (sym e) (old-states z S.booted.ranged Y.data_type (Y.few e) (Y.counted e)))
      (λ (e : v ≢ 0).
      let o : 1 ≡ v = omega arith in
      subst (λ (x : ℕ). sizes_of (boot_as x z) ≡ in_form x z) o (current-states z S.booted.ranged Y.data_type counter-small))
      (same_or v 0)

  pub reform-sizes : sizes_of (records_as v z (carried_at f z) ++ drop (z.n * z.l) f) ≡ in_form v z
  reform-sizes = sizes-same (boot_as v z) g (λ i lo hi. records-boot v z (carried_at f z) R (middle-short f z) rest i (omega (arith, R.l_low))) ∙ states

  -- ---- a slot

  module _ (s : ℕ) (a : 1 ≤ s) (b : s ≤ capacity_of z) where
    abbrev at : ℕ
    at = home_of z s

    abbrev c : Carried
    c = carried_at f z s

    byte : (i : ℕ) → i < z.m → get_or g (at + i) 0 ≡ get_or (entry_as v z.m c) i 0
    byte i l = records-entry v z (carried_at f z) R (middle-short f z) rest s i a b l

    nothing : empty (run_of f z s) ≡ true → (n k : ℕ) → k + n ≤ z.m → number big n g (at + k) ≡ 0
    nothing e n k h =
        number-cong big n g (at + k) (zeros z.m) k
        (λ i l. rw add_assoc (byte (k + i) (omega arith)) ∙ ap (λ (x : List ℕ). get_or x (k + i) 0) (entry-empty v c z.m e))
        ∙ number-zeros big n z.m k

    empty-word : empty (run_of f z s) ≡ true → (i : ℕ) → i ≤ 1 → word_at v g at i ≡ 0
    empty-word e i h =
        let m = R.m_low in
        ⊎_elim (λ (q : v ≡ 0). sym (word-old g v at i q (sym (nothing e 2 (2 * i) (omega arith))) (sym (widened_small 0 (omega arith)))))
        (λ (q : v ≢ 0). sym (word-current g v at i q (sym (nothing e 4 (4 * i) (omega arith))))) (same_or v 0)

    -- of a slot with a scan
    module _ (full : Full (run_of f z s)) where
      lies : Lies z (run_of f z s)
      lies = inside-all S.laid s a b

      used : s ≤ z.u
      used = (full-holds S.laid s a b full).high

      middle-long : length c.middle ≡ 52
      middle-long = length_part (at + 8) (at + 60) f (omega (arith, home-in S.booted s a b, R.m_low)) ∙ omega arith

      scan-byte : (i : ℕ) → i < z.m → get_or g (at + i) 0 ≡ get_or (scan_as v c) i 0
      scan-byte i l = byte i l ∙ ap (λ (x : List ℕ). get_or x i 0) (entry-full v c z.m (facts-full (run_of f z s) full)) ∙ pad-at z.m (scan_as v c) i

      field : (n k : ℕ) → k + n ≤ z.m → number big n g (at + k) ≡ number big n (scan_as v c) k
      field n k h = number-cong big n g (at + k) (scan_as v c) k (λ i l. rw add_assoc (scan-byte (k + i) (omega arith)))

      -- the old form's four numbers, and the current one's two
      abbrev four : List ℕ
      four = c.run.first ∷ c.run.last ∷ 2 ∷ c.position ∷ []

      abbrev two : List ℕ
      two = c.run.first ∷ c.run.last ∷ []

      old-field : v ≡ 0 → (i : ℕ) → i < 4 → get_or four i 0 < 65536 → be16 g (at + 2 * i) ≡ get_or four i 0
      old-field e i h l =
          field 2 (2 * i) (omega (arith, R.m_low)) ∙ ap (λ (x : List ℕ). be16 x (2 * i)) (scan_old v c e) ∙ numbers-at 2 four c.middle i h l

      current-field : v ≢ 0 → (i : ℕ) → i < 2 → get_or two i 0 < 4294967296 → be32 g (at + 4 * i) ≡ get_or two i 0
      current-field e i h l =
          field 4 (4 * i) (omega (arith, R.m_low)) ∙ ap (λ (x : List ℕ). be32 x (4 * i)) (scan_current v c e)
          ∙ numbers-at 4 two (c.middle ++ numbers 2 (c.position ∷ [])) i h l

      first_small : (run_of f z s).first < 4294967296
      first_small = omega (arith, lies.order full, lies.high, S.booted.ranged.records)

      last-small : (run_of f z s).last < 4294967296
      last-small = omega (arith, lies.high, S.booted.ranged.records)

      first-same : word_at v g at 0 ≡ (run_of f z s).first
      first-same =
          ⊎_elim
          (λ (e : v ≡ 0).
          let h = Y.narrow e s a used in
          sym (word-old g v at 0 e (sym (old-field e 0 (omega arith) (omega (arith, h.0)))) (sym (widened_small (run_of f z s).first (omega (arith, h.0))))))
          (λ (e : v ≢ 0). sym (word-current g v at 0 e (sym (current-field e 0 (omega arith) first_small)))) (same_or v 0)

      last-same : word_at v g at 1 ≡ (run_of f z s).last
      last-same =
          ⊎_elim
          (λ (e : v ≡ 0).
          let h = Y.narrow e s a used in
          sym (word-old g v at 1 e (sym (old-field e 1 (omega arith) (omega (arith, h.1)))) (sym (widened_small (run_of f z s).last (omega (arith, h.1))))))
          (λ (e : v ≢ 0). sym (word-current g v at 1 e (sym (current-field e 1 (omega arith) last-small)))) (same_or v 0)

      position-small : c.position < 65536
      position-small =
          ⊎_elim (λ (e : z.version ≡ 0). omega (arith, position-old z.version f at e, two-small f low (at + 6)))
          (λ (e : z.version ≢ 0). omega (arith, position-current z.version f at e, two-small f low (at + 60))) (same_or z.version 0)

      -- "position code at 60"
      late : v ≢ 0 → be16 g (at + 60) ≡ c.position
      late e =
          let ps : List ℕ = c.position ∷ [] in
          let k : 60 ≡ length (words two) + 52 = omega (arith, length-numbers 4 two) in
          let l : 52 ≡ length c.middle + 0 = omega (arith, middle-long) in
          field 2 60 (omega (arith, R.m_low)) ∙ ap (λ (x : List ℕ). be16 x 60) (scan_current v c e)
          ∙ ap (be16 (words two ++ (c.middle ++ numbers 2 ps))) k ∙ number-after big 2 (words two) (c.middle ++ numbers 2 ps) 52
          ∙ ap (be16 (c.middle ++ numbers 2 ps)) l ∙ number-after big 2 c.middle (numbers 2 ps) 0
          ∙ ap (λ (x : List ℕ). be16 x 0) (sym (append-nil (numbers 2 ps))) ∙ numbers-at 2 ps [] 0 (omega arith) position-small

      pub reform-position : position_of v (records_as v z (carried_at f z) ++ drop (z.n * z.l) f) (home_of z s) ≡ position_of z.version f (home_of z s)
      reform-position =
          ⊎_elim (λ (e : v ≡ 0). position-old v g at e ∙ old-field e 3 (omega arith) position-small) (λ (e : v ≢ 0). position-current v g at e ∙ late e) (same_or v 0)

      -- "2": the magic number of a version 1 scan
      pub reform-magic : v ≡ 0 → be16 (records_as v z (carried_at f z) ++ drop (z.n * z.l) f) (home_of z s + 4) ≡ 2
      reform-magic e = old-field e 2 (omega arith) (omega arith)

      -- "bytes 8 to 59"
      middle-byte : (j : ℕ) → j < 52 → get_or (scan_as v c) (8 + j) 0 ≡ get_or c.middle j 0
      middle-byte j h =
          ⊎_elim
          (λ (e : v ≡ 0).
          let k : 8 + j ≡ length (numbers 2 four) + j = omega (arith, length-numbers 2 four) in
          ap (λ (x : List ℕ). get_or x (8 + j) 0) (scan_old v c e) ∙ ap (λ (x : ℕ). get_or (numbers 2 four ++ c.middle) x 0) k ∙ get_or-append-add (numbers 2 four) c.middle j 0)
          (λ (e : v ≢ 0).
          let ps : List ℕ = numbers 2 (c.position ∷ []) in
          let k : 8 + j ≡ length (words two) + j = omega (arith, length-numbers 4 two) in
          ap (λ (x : List ℕ). get_or x (8 + j) 0) (scan_current v c e) ∙ ap (λ (x : ℕ). get_or (words two ++ (c.middle ++ ps)) x 0) k
          ∙ get_or-append-add (words two) (c.middle ++ ps) j 0 ∙ get_or-append c.middle ps 0 j (omega (arith, middle-long)))
          (same_or v 0)

      pub reform-middle : Alike f (records_as v z (carried_at f z) ++ drop (z.n * z.l) f) (home_of z s + 8) (home_of z s + 60)
      reform-middle i lo hi =
          let j : ℕ = i - (at + 8) in
          let e : i ≡ at + (8 + j) = omega arith in
          let o : at + 8 + j ≡ i = omega arith in
          ap (λ (x : ℕ). get_or g x 0) e ∙ scan-byte (8 + j) (omega (arith, R.m_low)) ∙ middle-byte j (omega arith) ∙ part_at (at + 8) (at + 60) f j (omega arith)
          ∙ ap (λ (x : ℕ). get_or f x 0) o

    pub reform-run : run_of (records_as v z (carried_at f z) ++ drop (z.n * z.l) f) (in_form v z) s ≡ run_of f z s
    reform-run = go (empty (run_of f z s)) refl
      where
        go : (t : Bool) → empty (run_of f z s) ≡ t → run_of g (in_form v z) s ≡ run_of f z s
        go true e =
            let h = empty-facts (run_of f z s) e in
            let p : (run_of f z s).first ≡ 0 = omega arith in
            let q : (run_of f z s).last ≡ 0 = omega arith in
            rw (empty-word e 0 (omega arith), empty-word e 1 (omega arith), p, q)
        go false e = let full = full-facts (run_of f z s) e in rw (first-same full, last-same full)

  -- ---- the file

  laid-form : Laid (in_form v z) (run_of f z)
  laid-form =
      let L = S.laid in
      record {
        inside = λ s a b. let h = L.inside s a b in record { low = h.low; order = h.order; high = h.high };
        above = L.above;
        apart = L.apart;
      }

  pub reform-sound : Sound (records_as v z (carried_at f z) ++ drop (z.n * z.l) f) (in_form v z)
  reform-sound =
      record {
        booted = record {
          reads = reform-sizes;
          long = rw reform-length S.booted.long;
          version = omega (arith, ap (λ (y : Sizes). y.version) reform-sizes);
          ranged = ranged-form v z S.booted.ranged;
          held = rw reform-length S.booted.held;
        };
        laid = laid_same S.booted.ranged.used (λ s a b. reform-run s a b) laid-form;
      }
