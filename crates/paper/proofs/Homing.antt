-- There and home again: a file that was converted can be converted home, and what comes home is the file said in its own form; the very bytes, where its padding
-- and its empty entries were zeros.
use Prim.Native.Nat.{ℕ, zero, suc, ◌+◌, ◌-◌, ◌*◌, ◌≤◌, ◌<◌}
use mathlib.Core.Path.{◌≡◌, refl, sym, ◌∙◌, ap, subst}
use mathlib.Core.Bool.{Bool, true, false}
use mathlib.Core.List.{List, [], ◌∷◌, ◌++◌}
use mathlib.Core.Logic.{⊎_elim}
use native.Mathlib.Omega.{arith}
use native.Mathlib.Nat.{add-zero, add_assoc, zero-add, sub-zero, zero-mul, suc-mul}
use borrow.Author.Tests.{lt-ltb, le-ltb}
use lib.ListN.{length, take, drop, get_or}
use lib.Seq.{take_at, drop_at}
use Rattle.lent.specs.Number.{numbers, be16, be32, widened}
use Rattle.lent.specs.Part.{part}
use Rattle.lent.specs.Write.{write, pad, zeros}
use Rattle.lent.proofs.Lists.{lt-or-ge}
use Rattle.lent.proofs.Numbers.{two-small, numbers-back}
use Rattle.lent.proofs.Parts.{part_same, part_join, part-pad, part_none}
use Rattle.paper.specs.declared.sizes.Sizes.{Sizes}
use Rattle.paper.specs.declared.sizes.Run.{Run}
use Rattle.paper.specs.Sizes.{version_of, word_at, counter_of, boot_bytes, capacity_of, home_of}
use Rattle.paper.specs.Index.{run_of, empty, Full, Sound}
use Rattle.paper.specs.Convert.{in_form, Carried, carried_at, boot_as, scan_as, entry_as, entries_as, records_as, converted_out, joined, Sayable, Convertible, Zeroed}
use Rattle.paper.proofs.Sizing.{head_in, home-in}
use Rattle.paper.proofs.Forms.{by_old, by-current, counter-old, position-old, position-current, current-word, current-counter, current-type}
use Rattle.paper.proofs.Opening.{empty-facts, full-facts, full-holds, inside-all}
use Rattle.paper.proofs.Carrying.{middle-short, scan_old, scan_current, entry-empty, entry-full, index-long, length-records-as, records-same}
use Rattle.paper.proofs.Converting.{taken_out}
use Rattle.paper.proofs.Reforming.{reform-length, reform-position, reform-magic, reform-middle, reform-run, reform-sound}

-- ---- what an accepted conversion makes

pub joined_is : (v : ℕ) {f out : List ℕ} {z : Sizes} → Convertible v f out z → joined f (converted_out v f out) ≡ records_as v z (carried_at f z) ++ drop (z.n * z.l) f
unfolding joined write
joined_is v {f} {out} {z} C =
    let recs : List ℕ = records_as v z (carried_at f z) in
    let l : length recs ≡ z.n * z.l = length-records-as v z (carried_at f z) C.sound.booted.ranged.shape (middle-short f z) in
    ap (λ (y : Sizes). take (y.n * y.l) (converted_out v f out) ++ drop (y.n * y.l) f) C.sound.booted.reads
    ∙ ap (λ (x : List ℕ). take (z.n * z.l) x ++ drop (z.n * z.l) f) (taken_out v f out C)
    ∙ ap (λ (x : List ℕ). x ++ drop (z.n * z.l) f) (take_at recs (drop (0 + length recs) out) (z.n * z.l) l)

-- ---- home

module _ (v : ℕ) (form : v ≤ 1) {f : List ℕ} {z : Sizes} (S : Sound f z) (Y : Sayable v f z) (low : (i : ℕ) → get_or f i 0 < 256) where
  abbrev g : List ℕ
  g = records_as v z (carried_at f z) ++ drop (z.n * z.l) f

  -- it says in any form what f says
  entry-home : (w s : ℕ) → 1 ≤ s → s ≤ capacity_of z → entry_as w z.m (carried_at g (in_form v z) s) ≡ entry_as w z.m (carried_at f z s)
  entry-home w s a b = go (empty (run_of f z s)) refl
    where
      run : run_of g (in_form v z) s ≡ run_of f z s
      run = reform-run v form S Y low s a b

      go : (t : Bool) → empty (run_of f z s) ≡ t → entry_as w z.m (carried_at g (in_form v z) s) ≡ entry_as w z.m (carried_at f z s)
      go true e = entry-empty w (carried_at g (in_form v z) s) z.m (ap empty run ∙ e) ∙ sym (entry-empty w (carried_at f z s) z.m e)
      go false e =
          let full = full-facts (run_of f z s) e in
          let m : part (home_of z s + 8) (home_of z s + 60) g ≡ part (home_of z s + 8) (home_of z s + 60) f =
          part_same f g (home_of z s + 8) (home_of z s + 60) (reform-length v form S Y low) (reform-middle v form S Y low s a b full) in
          ap (λ (x : Run). entry_as w z.m (record { run = x; position = (carried_at g (in_form v z) s).position; middle = (carried_at g (in_form v z) s).middle })) run
          ∙ ap (λ (x : ℕ). entry_as w z.m (record { run = run_of f z s; position = x; middle = (carried_at g (in_form v z) s).middle })) (reform-position v form S Y low s a b full)
          ∙ ap (λ (x : List ℕ). entry_as w z.m (record { run = run_of f z s; position = (carried_at f z s).position; middle = x })) m

  pub home-records : (w : ℕ) → records_as w (in_form v z) (carried_at (records_as v z (carried_at f z) ++ drop (z.n * z.l) f) (in_form v z)) ≡ records_as w z (carried_at f z)
  home-records w = records-same w v z (carried_at g (in_form v z)) (carried_at f z) (entry-home w)

  pub home-rest : drop (z.n * z.l) (records_as v z (carried_at f z) ++ drop (z.n * z.l) f) ≡ drop (z.n * z.l) f
  home-rest =
      drop_at (records_as v z (carried_at f z)) (drop (z.n * z.l) f) (z.n * z.l)
      (length-records-as v z (carried_at f z) S.booted.ranged.shape (middle-short f z))

-- ---- a file can be said in its own form

widened-low : (x : ℕ) → widened x ≤ 1000000 → x < 65536 → widened x ≤ 32767
unfolding widened
widened-low x h l =
    ⊎_elim (λ (k : x < 32768). rw (lt-ltb x 32768 k) (omega arith)) (λ (k : 32768 ≤ x). let q = rw (le-ltb x 32768 k) at h in absurd (omega arith)) (lt-or-ge x 32768)

module _ {f : List ℕ} {z : Sizes} (S : Sound f z) (low : (i : ℕ) → get_or f i 0 < 256) where
  old-low : (v at i : ℕ) → v ≡ 0 → word_at v f at i ≤ 1000000 → word_at v f at i ≤ 32767
  unfolding word_at
  old-low v at i e h = subst (λ (x : ℕ). word_at x f at i ≤ 1000000 → word_at x f at i ≤ 32767) (sym e) (λ k. widened-low (be16 f (at + 2 * i)) k (two-small f low (at + 2 * i))) h

  version-is : version_of f ≡ z.version
  version-is = ap (λ (y : Sizes). y.version) S.booted.reads

  -- a number of the sizes, and one of a run, which no scan has above N+D
  last-low : (s : ℕ) → 1 ≤ s → s ≤ capacity_of z → (run_of f z s).last ≤ 1000000
  last-low s a b = omega (arith, (inside-all S.laid s a b).high, S.booted.ranged.records)

  first-low : (s : ℕ) → 1 ≤ s → s ≤ capacity_of z → (run_of f z s).first ≤ 1000000
  first-low s a b =
      ⊎_elim (λ (h : Full (run_of f z s)). omega (arith, (inside-all S.laid s a b).order h, last-low s a b)) (λ (h : (run_of f z s).first + (run_of f z s).last ≤ 0). omega arith)
      (lt-or-ge 0 ((run_of f z s).first + (run_of f z s).last))

  pub own-sayable : z.kind ≡ 0 → ((s : ℕ) → 1 ≤ s → s ≤ z.u → Full (run_of f z s) → z.version ≡ 0 → be16 f (home_of z s + 4) ≡ 2) → Sayable z.version f z
  own-sayable k m =
      let d : word_at (version_of f) f 0 1 ≡ z.d = ap (λ (y : Sizes). y.d) S.booted.reads in
      let c : counter_of f ≡ z.counter = ap (λ (y : Sizes). y.counter) S.booted.reads in
      let u = S.booted.ranged.used in
      record {
        data_type = k;
        magics = m;
        few = λ e. omega (arith, old-low (version_of f) 0 1 (version-is ∙ e) (omega (arith, S.booted.ranged.records)));
        counted = λ e. omega (arith, counter-old f (version-is ∙ e), two-small f low 10);
        narrow = λ e s a b.
            (old-low z.version (home_of z s) 0 e (first-low s a (omega arith)), old-low z.version (home_of z s) 1 e (last-low s a (omega arith)));
      }

-- ---- home is taken

module _ (v : ℕ) (form : v ≤ 1) {f : List ℕ} {z : Sizes} (S : Sound f z) (Y : Sayable v f z) (low : (i : ℕ) → get_or f i 0 < 256) (other : z.version ≡ v → ⊥) where
  abbrev there : List ℕ
  there = records_as v z (carried_at f z) ++ drop (z.n * z.l) f

  own : Sayable z.version f z
  own = own-sayable S low Y.data_type Y.magics

  pub home-taken : (back : List ℕ) → z.n * z.l ≤ length back → Convertible z.version (records_as v z (carried_at f z) ++ drop (z.n * z.l) f) back (in_form v z)
  home-taken back fits =
      let run : (s : ℕ) → 1 ≤ s → s ≤ z.u → run_of there (in_form v z) s ≡ run_of f z s = λ s a b. reform-run v form S Y low s a (omega (arith, S.booted.ranged.used)) in
      record {
        sound = reform-sound v form S Y low;
        room = fits;
        other = λ e. other (sym e);
        sayable = record {
          data_type = Y.data_type;
          magics = λ s a b full e. reform-magic v form S Y low s a (omega (arith, S.booted.ranged.used)) (subst (λ (r : Run). Full r) (run s a b) full) e;
          few = own.few;
          counted = own.counted;
          narrow = λ e s a b. subst (λ (r : Run). (r.first ≤ 32767) × (r.last ≤ 32767)) (sym (run s a b)) (own.narrow e s a b);
        };
      }

-- ---- the very bytes

pad-nothing : (m : ℕ) → pad m [] ≡ zeros m
unfolding pad
pad-nothing m = ap zeros (sub-zero m)

widened_same : (x : ℕ) → widened x ≤ 1000000 → x < 65536 → widened x ≡ x
unfolding widened
widened_same x h l =
    ⊎_elim (λ (k : x < 32768). rw (lt-ltb x 32768 k)) (λ (k : 32768 ≤ x). let q = rw (le-ltb x 32768 k) at h in absurd (omega arith)) (lt-or-ge x 32768)

module _ {f : List ℕ} {z : Sizes} (S : Sound f z) (Y : Sayable z.version f z) (low : (i : ℕ) → get_or f i 0 < 256) where
  old-word : (v at i : ℕ) → v ≡ 0 → word_at v f at i ≤ 1000000 → word_at v f at i ≡ be16 f (at + 2 * i)
  unfolding word_at
  old-word v at i e h =
      subst (λ (x : ℕ). word_at x f at i ≤ 1000000 → word_at x f at i ≡ be16 f (at + 2 * i)) (sym e) (λ k. widened_same (be16 f (at + 2 * i)) k (two-small f low (at + 2 * i))) h

  -- the bootstrap
  abbrev six : List ℕ
  six = z.n ∷ z.d ∷ z.l ∷ z.m ∷ z.u ∷ z.counter ∷ []

  is-v : version_of f ≡ z.version
  is-v = version-is S low

  size-old : (i n : ℕ) → z.version ≡ 0 → word_at (version_of f) f 0 i ≡ n → n ≤ 1000000 → n ≡ be16 f (0 + 2 * i)
  size-old i n e q h = sym q ∙ old-word (version_of f) 0 i (is-v ∙ e) (omega arith)

  six-at : z.version ≡ 0 → (i : ℕ) → i < 6 → get_or six i 0 ≡ be16 f (0 + 2 * i)
  six-at e zero h = size-old 0 z.n e (ap (λ (y : Sizes). y.n) S.booted.reads) (omega (arith, S.booted.ranged.records))
  six-at e (suc zero) h = size-old 1 z.d e (ap (λ (y : Sizes). y.d) S.booted.reads) (omega (arith, S.booted.ranged.records))
  six-at e (suc (suc zero)) h = size-old 2 z.l e (ap (λ (y : Sizes). y.l) S.booted.reads) (omega (arith, S.booted.ranged.shape.l_high))
  six-at e (suc (suc (suc zero))) h =
      size-old 3 z.m e (ap (λ (y : Sizes). y.m) S.booted.reads) (omega (arith, S.booted.ranged.shape.l_high, S.booted.ranged.shape.m_high))
  six-at e (suc (suc (suc (suc zero)))) h =
      size-old 4 z.u e (ap (λ (y : Sizes). y.u) S.booted.reads) (omega (arith, S.booted.ranged.used, S.booted.ranged.shape.slots))
  six-at e (suc (suc (suc (suc (suc zero))))) h = sym (ap (λ (y : Sizes). y.counter) S.booted.reads) ∙ counter-old f (is-v ∙ e)
  six-at e (suc (suc (suc (suc (suc (suc i)))))) h = absurd (omega arith)

  fits : z.n * z.l ≤ length f
  fits = head_in S.booted

  long : 512 ≤ length f
  long = S.booted.long

  boot_old : z.version ≡ 0 → boot_as z.version z ≡ part 0 12 f
  unfolding boot_as
  boot_old e = sym (by_old z.version (numbers 2 six) (boot_bytes z) e) ∙ numbers-back 2 six f 0 (six-at e) (omega (arith, long)) low

  -- the current form's words are all of 32 bits
  abbrev eight : List ℕ
  eight = z.n ∷ z.d ∷ z.l ∷ z.m ∷ z.u ∷ z.counter ∷ z.kind ∷ 1 ∷ []

  size-current : (i n : ℕ) → z.version ≡ 1 → word_at (version_of f) f 0 i ≡ n → n ≡ be32 f (0 + 4 * i)
  size-current i n e q = sym q ∙ current-word (version_of f) f 0 i (is-v ∙ e)

  eight-at : z.version ≡ 1 → (i : ℕ) → i < 8 → get_or eight i 0 ≡ be32 f (0 + 4 * i)
  eight-at e zero h = size-current 0 z.n e (ap (λ (y : Sizes). y.n) S.booted.reads)
  eight-at e (suc zero) h = size-current 1 z.d e (ap (λ (y : Sizes). y.d) S.booted.reads)
  eight-at e (suc (suc zero)) h = size-current 2 z.l e (ap (λ (y : Sizes). y.l) S.booted.reads)
  eight-at e (suc (suc (suc zero))) h = size-current 3 z.m e (ap (λ (y : Sizes). y.m) S.booted.reads)
  eight-at e (suc (suc (suc (suc zero)))) h = size-current 4 z.u e (ap (λ (y : Sizes). y.u) S.booted.reads)
  eight-at e (suc (suc (suc (suc (suc zero))))) h = sym (ap (λ (y : Sizes). y.counter) S.booted.reads) ∙ current-counter f (is-v ∙ e)
  eight-at e (suc (suc (suc (suc (suc (suc zero)))))) h = sym (ap (λ (y : Sizes). y.kind) S.booted.reads) ∙ current-type f (is-v ∙ e)
  eight-at e (suc (suc (suc (suc (suc (suc (suc zero))))))) h = sym (is-v ∙ e)
  eight-at e (suc (suc (suc (suc (suc (suc (suc (suc i)))))))) h = absurd (omega arith)

  boot_current : z.version ≡ 1 → boot_as z.version z ≡ part 0 32 f
  unfolding boot_as boot_bytes
  boot_current e =
      sym (by-current z.version (numbers 2 six) (boot_bytes z) (λ q. omega arith)) ∙ numbers-back 4 eight f 0 (eight-at e) (omega (arith, long)) low

  -- ---- an entry

  module _ (s : ℕ) (a : 1 ≤ s) (b : s ≤ capacity_of z) where
    abbrev at : ℕ
    at = home_of z s

    abbrev c : Carried
    c = carried_at f z s

    inside : at + z.m ≤ length f
    inside = home-in S.booted s a b

    m₁ : 64 ≤ z.m
    m₁ = S.booted.ranged.shape.m_low

    abbrev four : List ℕ
    four = c.run.first ∷ c.run.last ∷ 2 ∷ c.position ∷ []

    abbrev two : List ℕ
    two = c.run.first ∷ c.run.last ∷ []

    scan-old-back : z.version ≡ 0 → Full (run_of f z s) → scan_as z.version c ≡ part at (at + 60) f
    scan-old-back e full =
        let used = (full-holds S.laid s a b full).high in
        scan_old z.version c e
        ∙ ap (λ (x : List ℕ). x ++ c.middle) (numbers-back 2 four f at four-at (omega (arith, inside, m₁)) low)
        ∙ part_join at (at + 8) (at + 60) f (omega arith) (omega arith) (omega (arith, inside, m₁))
      where
        four-at : (i : ℕ) → i < 4 → get_or four i 0 ≡ be16 f (at + 2 * i)
        four-at zero h = old-word z.version at 0 e (first-low S low s a b)
        four-at (suc zero) h = old-word z.version at 1 e (last-low S low s a b)
        four-at (suc (suc zero)) h = sym (Y.magics s a (full-holds S.laid s a b full).high full e)
        four-at (suc (suc (suc zero))) h = position-old z.version f at e
        four-at (suc (suc (suc (suc i)))) h = absurd (omega arith)

    scan-current-back : z.version ≡ 1 → scan_as z.version c ≡ part at (at + 62) f
    scan-current-back e =
        scan_current z.version c (λ q. omega arith)
        ∙ ap (λ (x : List ℕ). x ++ (c.middle ++ numbers 2 (c.position ∷ []))) (numbers-back 4 two f at two_at (omega (arith, inside, m₁)) low)
        ∙ ap (λ (x : List ℕ). part at (at + 8) f ++ (c.middle ++ x)) (numbers-back 2 (c.position ∷ []) f (at + 60) one_at (omega (arith, inside, m₁)) low ∙ ap (λ (x : ℕ). part (at + 60) x f) (add_assoc at 60 2))
        ∙ ap (λ (x : List ℕ). part at (at + 8) f ++ x) (part_join (at + 8) (at + 60) (at + 62) f (omega arith) (omega arith) (omega (arith, inside, m₁)))
        ∙ part_join at (at + 8) (at + 62) f (omega arith) (omega arith) (omega (arith, inside, m₁))
      where
        two_at : (i : ℕ) → i < 2 → get_or two i 0 ≡ be32 f (at + 4 * i)
        two_at zero h = current-word z.version f at 0 e
        two_at (suc zero) h = current-word z.version f at 1 e
        two_at (suc (suc i)) h = absurd (omega arith)

        one_at : (i : ℕ) → i < 1 → get_or (c.position ∷ []) i 0 ≡ be16 f (at + 60 + 2 * i)
        one_at zero h = position-current z.version f at (λ q. omega arith) ∙ ap (be16 f) (sym (add-zero (at + 60)))
        one_at (suc i) h = absurd (omega arith)

    -- an entry whose padding was zeros, and an empty one that was all zeros
    entry-back : (k : ℕ) → k ≤ 62 → (Full (run_of f z s) → scan_as z.version c ≡ part at (at + k) f) → ((i : ℕ) → k ≤ i → i < z.m → get_or f (at + i) 0 ≡ 0)
        → ((run_of f z s).first + (run_of f z s).last ≡ 0 → (i : ℕ) → i < z.m → get_or f (at + i) 0 ≡ 0) → entry_as z.version z.m c ≡ part at (at + z.m) f
    entry-back k h back padding none = go (empty (run_of f z s)) refl
      where
        go : (t : Bool) → empty (run_of f z s) ≡ t → entry_as z.version z.m c ≡ part at (at + z.m) f
        go true e =
            entry-empty z.version c z.m e ∙ sym (pad-nothing z.m)
            ∙ part-pad z.m at 0 f [] (sym (part_none at (at + 0) f (omega arith))) (omega arith) inside (λ i p q. none (empty-facts (run_of f z s) e) i q)
        go false e =
            entry-full z.version c z.m e ∙ part-pad z.m at k f (scan_as z.version c) (back (full-facts (run_of f z s) e)) (omega (arith, m₁)) inside padding

  -- ---- all N records

  entries-back : ((s : ℕ) → 1 ≤ s → s ≤ capacity_of z → entry_as z.version z.m (carried_at f z s) ≡ part (home_of z s) (home_of z s + z.m) f) → (n : ℕ) → n ≤ capacity_of z
      → entries_as z.version z.m (carried_at f z) n ≡ part z.l (z.l + n * z.m) f
  unfolding entries_as
  entries-back back zero q = sym (part_none z.l (z.l + 0 * z.m) f (omega (arith, zero-mul z.m)))
  entries-back back (suc n) q =
      let k = suc-mul n z.m in
      let d : suc n - 1 ≡ n = omega arith in
      let e : home_of z (suc n) ≡ z.l + n * z.m = ap (λ (x : ℕ). z.l + x * z.m) d in
      let o : z.l + n * z.m + z.m ≡ z.l + suc n * z.m = omega arith in
      let i : home_of z (suc n) + z.m ≤ length f = home-in S.booted (suc n) (omega arith) q in
      ap (λ (x : List ℕ). x ++ entry_as z.version z.m (carried_at f z (suc n))) (entries-back back n (omega arith))
      ∙ ap (λ (x : List ℕ). part z.l (z.l + n * z.m) f ++ x) (back (suc n) (omega arith) q ∙ ap (λ (x : ℕ). part x (x + z.m) f) e ∙ ap (λ (x : ℕ). part (z.l + n * z.m) x f) o)
      ∙ part_join z.l (z.l + n * z.m) (z.l + suc n * z.m) f (omega arith) (omega arith) (omega arith)

  records-back : (p : ℕ) → p ≤ 512 → boot_as z.version z ≡ part 0 (0 + p) f → ((i : ℕ) → p ≤ i → i < z.l → get_or f i 0 ≡ 0)
      → ((s : ℕ) → 1 ≤ s → s ≤ capacity_of z → entry_as z.version z.m (carried_at f z s) ≡ part (home_of z s) (home_of z s + z.m) f)
      → records_as z.version z (carried_at f z) ≡ take (z.n * z.l) f
  unfolding records_as
  records-back p short boot first back =
      let R = S.booted.ranged.shape in
      let n = index-long z R in
      let q : pad z.l (boot_as z.version z) ≡ part 0 z.l f =
      part-pad z.l 0 p f (boot_as z.version z) boot (omega (arith, R.l_low)) (omega (arith, fits)) (λ i a b. ap (λ (x : ℕ). get_or f x 0) (zero-add i) ∙ first i a b)
      ∙ ap (λ (x : ℕ). part 0 x f) (zero-add z.l) in
      ap (λ (x : List ℕ). x ++ entries_as z.version z.m (carried_at f z) (capacity_of z)) q
      ∙ ap (λ (x : List ℕ). part 0 z.l f ++ x) (entries-back back (capacity_of z) (omega arith) ∙ ap (λ (x : ℕ). part z.l x f) n)
      ∙ part_join 0 z.l (z.n * z.l) f (omega arith) (omega (arith, n)) fits ∙ ap (λ (x : ℕ). take x f) (sub-zero (z.n * z.l))

  pub old-records : z.version ≡ 0 → Zeroed f z 12 60 → records_as z.version z (carried_at f z) ≡ take (z.n * z.l) f
  old-records e Z =
      records-back 12 (omega arith) (boot_old e) Z.first
      (λ s a b. entry-back s a b 60 (omega arith) (scan-old-back s a b e) (Z.padding s a b) (Z.empties s a b))

  pub current-records : z.version ≡ 1 → Zeroed f z 32 62 → records_as z.version z (carried_at f z) ≡ take (z.n * z.l) f
  current-records e Z =
      records-back 32 (omega arith) (boot_current e) Z.first
      (λ s a b. entry-back s a b 62 (omega arith) (λ full. scan-current-back s a b e) (Z.padding s a b) (Z.empties s a b))
