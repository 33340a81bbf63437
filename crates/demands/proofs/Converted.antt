-- There and home again: the theorems of 02, 2026-03, from the laws of `paper`.
use Rattle.std.specs.Prelude.{Ok, Err}
use Prim.Native.Nat.{ℕ, ◌+◌, ◌*◌, ◌≤◌}
use mathlib.Core.Path.{◌≡◌, refl, sym, ◌∙◌, ap, subst}
use mathlib.Core.Bool.{not}
use mathlib.Core.List.{List, [], ◌∷◌, ◌++◌, Memᴰ}
use mathlib.Core.Logic.{◌≢◌, ⊎_elim}
use native.Mathlib.Omega.{arith}
use borrow.Author.Tests.{eq-eqb, ne_eqb}
use lib.Dec.{ltb}
use lib.IntN.{ℤ}
use lib.ListN.{length, take, drop, take-append-drop}
use lib.Seq.{take_at}
use Rattle.lent.specs.Checks.{Check, check, Fired, clear, fires, fired, answer, judge}
use Rattle.lent.specs.Number.{be16, int16}
use Rattle.lent.specs.Part.{part, Alike}
use Rattle.lent.specs.Write.{write}
use Rattle.lent.specs.Lists.{threes}
use Rattle.lent.proofs.Checks.{judge-clear}
use Rattle.lent.proofs.Lists.{same_or, those-same}
use Rattle.lent.proofs.Parts.{part_same, alike-within}
use Rattle.lent.proofs.Writes.{drop-write, length-write}
use Rattle.paper.specs.declared.sizes.Sizes.{Sizes}
use Rattle.paper.specs.declared.sizes.Run.{Run}
use Rattle.paper.specs.declared.refusal.Refusal.{Refusal}
use Rattle.paper.specs.declared.refusal.Refusal.TheVariants.{TooSmall}
use Rattle.paper.specs.declared.entry.Entry.{Entry}
use Rattle.paper.specs.Answers.{Found, taken_in}
use Rattle.paper.specs.Sizes.{by_form, sizes_of, version_of, home_of, start_of, capacity_of}
use Rattle.paper.specs.Index.{run_of, empty, Full, slots_of, shown_of, Sound}
use Rattle.paper.specs.Entry.{fields_of, magic_of, version_one}
use Rattle.paper.specs.Look.{slot_checks, found_of, lines_of, list_of, list_checks, listed_of, listed_out, InIndex, fields_in}
use Rattle.paper.specs.Convert.{in_form, carried_at, records_as, convert_of, converted_out, Sayable, Convertible, Zeroed}
use Rattle.paper.proofs.Opening.{then-opens, sound-open, inside-all, full-holds, slots-holds, lies-past, lies-end}
use Rattle.paper.proofs.Forms.{facts-one}
use Rattle.paper.proofs.Handed.{taken-ok}
use Rattle.paper.proofs.Carrying.{middle-short, length-records-as}
use Rattle.paper.proofs.Converting.{convert-taken, taken-convert, taken_out}
use Rattle.paper.proofs.Reforming.{reform-length, reform-data, reform-position, reform-magic, reform-middle, reform-run, reform-sound}
use Rattle.paper.proofs.Homing.{joined_is, home-records, home-rest, own-sayable, home-taken, old-records, current-records}
use Rattle.demands.specs.Entries.{Bytes, with_magic}
use Rattle.demands.specs.Convert.{converted, magic_in, Lists, SameBut, There, Home, SameData, Agree, Converts, ConvertsMore}
use Rattle.demands.proofs.Calling.{both, show-same, shows_same, read_same, reads_same, fields-rest, magic-kept}
use Rattle.demands.proofs.Reformed.{reform-section, reform-zeroed}
use Rattle.demands.proofs.Bytewise.{bytes-append, bytes_drop, bytes-records}

-- the lines of a list rest on the runs of its slots
lines_same : (r q : ℕ → Run) (ss : List ℕ) → ((s : ℕ) → Memᴰ s ss → r s ≡ q s) → lines_of r ss ≡ lines_of q ss
unfolding threes
lines_same r q [] h = refl
lines_same r q (s ∷ ss) h = rw (h s (Memᴰ.head refl), lines_same r q ss (λ t m. h t (Memᴰ.tail m)))

-- ---- a file said in form v

module _ (v : ℕ) (form : v ≤ 1) {f : List ℕ} {z : Sizes} (S : Sound f z) (Y : Sayable v f z) (low : Bytes f) where
  abbrev g : List ℕ
  g = records_as v z (carried_at f z) ++ drop (z.n * z.l) f

  abbrev y : Sizes
  y = in_form v z

  G : Sound g y
  G = reform-sound v form S Y low

  len : length g ≡ length f
  len = reform-length v form S Y low

  run : (s : ℕ) → 1 ≤ s → s ≤ capacity_of z → run_of g y s ≡ run_of f z s
  run s a b = reform-run v form S Y low s a b

  shown : (s : ℕ) → 1 ≤ s → s ≤ capacity_of z → shown_of g y s ≡ shown_of f z s
  shown s a b =
      let h = inside-all S.laid s a b in
      ap (λ (r : Run). part (start_of z r.first) (r.last * z.l) g) (run s a b)
      ∙ part_same f g (start_of z (run_of f z s).first) ((run_of f z s).last * z.l) len
      (λ i lo hi. reform-data v form S Y low i (lies-past S.booted h i lo hi) (omega (arith, lies-end S.booted h)))

  -- the list
  slots : slots_of y (run_of g y) ≡ slots_of z (run_of f z)
  unfolding slots_of
  slots =
      those-same (λ s. not (empty (run_of g y s))) (λ s. not (empty (run_of f z s))) z.u
      (λ s a b. ap (λ (r : Run). not (empty r)) (run s a (omega (arith, S.booted.ranged.used))))

  list-is : list_of g ≡ list_of f
  list-is =
      ap (λ (x : Sizes). slots_of x (run_of g x)) G.booted.reads ∙ slots ∙ ap (λ (x : Sizes). slots_of x (run_of f x)) (sym S.booted.reads)

  lines-is : lines_of (run_of g (sizes_of g)) (list_of g) ≡ lines_of (run_of f (sizes_of f)) (list_of f)
  lines-is =
      ap (λ (x : Sizes). lines_of (run_of g x) (slots_of x (run_of g x))) G.booted.reads
      ∙ ap (lines_of (run_of g y)) slots
      ∙ lines_same (run_of g y) (run_of f z) (slots_of z (run_of f z))
      (λ s m. let h = slots-holds z (run_of f z) s m in run s h.low (omega (arith, h.high, S.booted.ranged.used)))
      ∙ ap (λ (x : Sizes). lines_of (run_of f x) (slots_of x (run_of f x))) (sym S.booted.reads)

  -- open's own do not fire in either, and 17 fires in both or in none
  abbrev short : List ℕ → List ℕ → List (Check Refusal)
  short ss out = check (ltb (length out) (3 * length ss)) TooSmall ∷ []

  list-judge : {A : Type 0} (refuse : Refusal → A) (a : A) (out : List ℕ) → judge refuse (list_checks g out) a ≡ judge refuse (list_checks f out) a
  list-judge refuse a out =
      ap (answer refuse a)
      (then-opens g (short (list_of g) out) (sound-open G) ∙ ap (λ (ss : List ℕ). fired (short ss out)) list-is ∙ sym (then-opens f (short (list_of f) out) (sound-open S)))

  lists : Lists f g
  unfolding listed_of listed_out
  lists =
      record {
        slots = list-is;
        answer = λ out.
            list-judge Err (Ok (length (list_of g))) out
            ∙ ap (λ (ss : List ℕ). judge Err (list_checks f out) (Ok (length ss))) list-is;
        lines = λ out.
            list-judge (λ (r : Refusal). out) (write out 0 (lines_of (run_of g (sizes_of g)) (list_of g))) out
            ∙ ap (λ (ls : List ℕ). judge (λ (r : Refusal). out) (list_checks f out) (write out 0 ls)) lines-is;
      }

  -- ---- a slot

  module _ (s : ℕ) where
    runs : InIndex z s → run_of g y s ≡ run_of f z s
    runs i = run s i.low i.high

    shows : InIndex z s → shown_of g y s ≡ shown_of f z s
    shows i = shown s i.low i.high

    -- the entry
    module _ (i : InIndex z s) (full : Full (run_of f z s)) where
      abbrev at : ℕ
      at = home_of z s

      middle : Alike f g (at + 8) (at + 60)
      middle = reform-middle v form S Y low s i.low i.high full

      magic : int16 (magic_of v g at) ≡ magic_in v
      unfolding magic_of int16
      magic =
          ⊎_elim (λ (e : v ≡ 0). rw (eq-eqb v 0 e, reform-magic v form S Y low s i.low i.high full e) refl) (λ (e : v ≢ 0). rw (ne_eqb v 0 e) refl) (same_or v 0)

      fields : fields_of v g at ≡ with_magic (magic_in v) (fields_of z.version f at)
      fields =
          fields-rest f g v z.version at (ap (λ (r : Run). r.first) (runs i)) (ap (λ (r : Run). r.last) (runs i)) (reform-position v form S Y low s i.low i.high full)
          (part_same f g (at + 16) (at + 32) len (alike-within f g (omega arith) (omega arith) middle)) middle
          ∙ ap (λ (m : ℤ). with_magic m (fields_of z.version f at)) magic

      -- every scan is of version 1 in both
      one : version_one v g at ≡ version_one z.version f at
      one =
          facts-one v g at (reform-magic v form S Y low s i.low i.high full)
          ∙ sym (facts-one z.version f at (Y.magics s i.low (full-holds S.laid s i.low i.high full).high full))

    abbrev own : Entry
    own = fields_of (version_of f) f (home_of (sizes_of f) s)

    -- the entry that the call hands out, with the wanted form's magic number where it is one
    found-same : found_of g s ≡ judge Err (slot_checks f s) (Ok (with_magic (magic_in v) own))
    unfolding found_of
    found-same =
        both f g z z.d z.u z.counter z.kind v S G s runs Err (λ x. Ok (fields_of x.version g (home_of x s)))
        (λ x. Ok (with_magic (magic_in v) (fields_of x.version f (home_of x s)))) (λ i full. ap Ok (fields i full))

    there-slot : SameBut v f g s
    unfolding found_of
    there-slot =
        record {
          answer = found-answer;
          entry = found-entry;
          show = show-same f g z z.d z.u z.counter z.kind v S G s runs shows one;
          shows = shows_same f g z z.d z.u z.counter z.kind v S G s runs shows one;
          read = read_same f g z z.d z.u z.counter z.kind v S G s runs shows one;
          reads = reads_same f g z z.d z.u z.counter z.kind v S G s runs shows one;
        }
      where
        found-answer : taken_in (found_of g s) ≡ taken_in (found_of f s)
        found-answer = ap (λ (q : Found). taken_in q) found-same ∙ go (fired (slot_checks f s))
          where
            go : (q : Fired Refusal) → taken_in (answer {A = Found} Err (Ok (with_magic (magic_in v) own)) q) ≡ taken_in (answer {A = Found} Err (Ok own) q)
            go clear = refl
            go (fires r) = refl

        found-entry : taken_in (found_of f s) ≡ Ok tt → fields_in (found_of g s) ≡ with_magic (magic_in v) (fields_in (found_of f s))
        found-entry e =
            let c = taken-ok (slot_checks f s) own e in
            ap (λ (q : Found). fields_in q) (found-same ∙ judge-clear Err (slot_checks f s) (Ok (with_magic (magic_in v) own)) c)
            ∙ sym (ap (λ (q : Found). with_magic (magic_in v) (fields_in q)) (judge-clear Err (slot_checks f s) (Ok own) c))

  there-is : There v f g
  there-is =
      record {
        opens = sound-open G ∙ ap (λ (x : Sizes). Ok (in_form v x)) (sym S.booted.reads);
        lists = lists;
        slots = there-slot;
        as_long = len;
      }

-- ---- a file said in its own form

-- the magic number is the form's own
magic-own : (v : ℕ) (f : List ℕ) (at : ℕ) → (v ≡ 0 → be16 f (at + 4) ≡ 2) → (fields_of v f at).magic ≡ magic_in v
unfolding fields_of magic_of int16
magic-own v f at h = ⊎_elim (λ (e : v ≡ 0). rw (eq-eqb v 0 e, h e) refl) (λ (e : v ≢ 0). rw (ne_eqb v 0 e) refl) (same_or v 0)

module _ {f : List ℕ} {z : Sizes} (S : Sound f z) (Y : Sayable z.version f z) (low : Bytes f) where
  form-own : z.version ≤ 1
  form-own = omega (arith, S.booted.version, ap (λ (x : Sizes). x.version) S.booted.reads)

  abbrev back : List ℕ
  back = records_as z.version z (carried_at f z) ++ drop (z.n * z.l) f

  T : There z.version f back
  T = there-is z.version form-own S Y low

  -- the entry with the very magic number that it had
  fields-own : (s : ℕ) → InIndex z s → Full (run_of f z s) → fields_of z.version back (home_of z s) ≡ fields_of z.version f (home_of z s)
  fields-own s i full =
      fields z.version form-own S Y low s i full
      ∙ magic-kept (magic_in z.version) (fields_of z.version f (home_of z s))
      (magic-own z.version f (home_of z s) (Y.magics s i.low (full-holds S.laid s i.low i.high full).high full))

  found-own : (s : ℕ) → found_of back s ≡ found_of f s
  unfolding found_of
  found-own s =
      both f back z z.d z.u z.counter z.kind z.version S (G z.version form-own S Y low) s (runs z.version form-own S Y low s) Err
      (λ x. Ok (fields_of x.version back (home_of x s))) (λ x. Ok (fields_of x.version f (home_of x s))) (λ i full. ap Ok (fields-own s i full))

  home-is : Home f back
  home-is =
      record {
        opens = T.opens ∙ ap (λ (x : Sizes). Ok (in_form z.version x)) S.booted.reads ∙ sym (sound-open S);
        lists = T.lists;
        slots = λ s.
            record { entry = found-own s; show = (T.slots s).show; shows = (T.slots s).shows; read = (T.slots s).read; reads = (T.slots s).reads };
      }

-- ---- the theorem

module _ (v : ℕ) (form : v ≤ 1) {f out : List ℕ} {z : Sizes} (C : Convertible v f out z) (low : Bytes f) where
  abbrev there : List ℕ
  there = records_as v z (carried_at f z) ++ drop (z.n * z.l) f

  own-form : Sayable z.version f z
  own-form = own-sayable C.sound low C.sayable.data_type C.sayable.magics

  -- the way home, whatever is lent for it, leaves the file said in its own form
  module _ (back : List ℕ) (fits : z.n * z.l ≤ length back) where
    H : Convertible z.version there back (in_form v z)
    H = home-taken v form C.sound C.sayable low C.other back fits

    returned : converted z.version there back ≡ records_as z.version z (carried_at f z) ++ drop (z.n * z.l) f
    returned =
        joined_is z.version H
        ∙ ap (λ (x : List ℕ). x ++ drop (z.n * z.l) there) (home-records v form C.sound C.sayable low z.version)
        ∙ ap (λ (x : List ℕ). records_as z.version z (carried_at f z) ++ x) (home-rest v form C.sound C.sayable low)

    came : converted z.version (converted v f out) back ≡ records_as z.version z (carried_at f z) ++ drop (z.n * z.l) f
    came = ap (λ (x : List ℕ). converted z.version x back) (joined_is v C) ∙ returned

    pub home-taken-is : convert_of z.version (converted v f out) back ≡ Ok tt
    home-taken-is = ap (λ (x : List ℕ). convert_of z.version x back) (joined_is v C) ∙ taken-convert z.version there back H

    pub home-shows : Home f (converted z.version (converted v f out) back)
    home-shows = subst (Home f) (sym came) (home-is C.sound own-form low)

    pub home-section : SameData f (converted z.version (converted v f out) back)
    home-section = subst (SameData f) (sym came) (reform-section z.version (form-own C.sound own-form low) C.sound own-form low)

    pub home-long : length (converted z.version (converted v f out) back) ≡ length f
    home-long = subst (λ (x : List ℕ). length x ≡ length f) (sym came) (T C.sound own-form low).as_long

    -- the N records are the file's own
    pub home-bytes : records_as z.version z (carried_at f z) ≡ take (z.n * z.l) f → converted z.version (converted v f out) back ≡ f
    home-bytes e = came ∙ ap (λ (x : List ℕ). x ++ drop (z.n * z.l) f) e ∙ take-append-drop (z.n * z.l) f

beyond-is : (v : ℕ) (f out : List ℕ) → convert_of v f out ≡ Ok tt
    → (drop ((sizes_of f).n * (sizes_of f).l) (converted_out v f out) ≡ drop ((sizes_of f).n * (sizes_of f).l) out) × (length (converted_out v f out) ≡ length out)
beyond-is v f out e =
    let C = convert-taken v f out e in
    let z : Sizes = sizes_of f in
    let recs : List ℕ = records_as v z (carried_at f z) in
    let l : length recs ≡ z.n * z.l = length-records-as v z (carried_at f z) C.sound.booted.ranged.shape (middle-short f z) in
    let q : 0 + length recs ≡ z.n * z.l = omega arith in
    let w : converted_out v f out ≡ write out 0 recs = taken_out v f out C in (
      ap (drop (z.n * z.l)) w ∙ ap (λ (k : ℕ). drop k (write out 0 recs)) (sym q) ∙ drop-write out 0 recs (omega arith) ∙ ap (λ (k : ℕ). drop k out) q,
      ap length w ∙ length-write out 0 recs (omega (arith, C.room)),
    )

-- padding and empty entries of what was made
zeroed-is : (v : ℕ) → v ≤ 1 → (f out : List ℕ) → Bytes f → convert_of v f out ≡ Ok tt
    → Zeroed (converted v f out) (sizes_of (converted v f out)) (by_form v 12 32) (by_form v 60 62)
zeroed-is v form f out low e =
    let C = convert-taken v f out e in
    let G = reform-sound v form C.sound C.sayable low in
    subst (λ (x : List ℕ). Zeroed x (sizes_of x) (by_form v 12 32) (by_form v 60 62)) (sym (joined_is v C))
    (subst (λ (y : Sizes). Zeroed (records_as v (sizes_of f) (carried_at f (sizes_of f)) ++ drop ((sizes_of f).n * (sizes_of f).l) f) y (by_form v 12 32) (by_form v 60 62))
    (sym G.booted.reads) (reform-zeroed v form C.sound C.sayable low))

-- what is written are the file's records, whatever is lent for them
written_is : (v : ℕ) {f out : List ℕ} {z : Sizes} → Convertible v f out z → take (z.n * z.l) (converted_out v f out) ≡ records_as v z (carried_at f z)
unfolding write
written_is v {f} {out} {z} C =
    let recs : List ℕ = records_as v z (carried_at f z) in
    ap (take (z.n * z.l)) (taken_out v f out C)
    ∙ take_at recs (drop (0 + length recs) out) (z.n * z.l) (length-records-as v z (carried_at f z) C.sound.booted.ranged.shape (middle-short f z))

agree-is : (v : ℕ) (f out other : List ℕ) → convert_of v f out ≡ Ok tt → (sizes_of f).n * (sizes_of f).l ≤ length other → Agree v f out other
agree-is v f out other e fits =
    let C = convert-taken v f out e in
    let D : Convertible v f other (sizes_of f) = record { sound = C.sound; room = fits; other = C.other; sayable = C.sayable } in
    record {
      taken = taken-convert v f other D;
      written = written_is v D ∙ sym (written_is v C);
      made = joined_is v D ∙ sym (joined_is v C);
    }

pub converts : Converts
converts =
    record {
      there = λ v form f out low e.
          let C = convert-taken v f out e in
          subst (There v f) (sym (joined_is v C)) (there-is v form C.sound C.sayable low);
      taken = λ v form f out back low e fits. home-taken-is v form (convert-taken v f out e) low back fits;
      home = λ v form f out back low e fits. home-shows v form (convert-taken v f out e) low back fits;
      old-bytes = λ f out back low e fits Z.
          let C = convert-taken 1 f out e in
          let o : version_of f ≡ 0 = version-old f C in
          subst (λ (w : ℕ). converted w (converted 1 f out) back ≡ f) o
          (home-bytes 1 (omega arith) C low back fits (old-records C.sound (own-form 1 (omega arith) C low) low o Z));
      current_bytes = λ f out back low e fits Z.
          let C = convert-taken 0 f out e in
          let o : version_of f ≡ 1 = version-current f C in
          subst (λ (w : ℕ). converted w (converted 0 f out) back ≡ f) o
          (home-bytes 0 (omega arith) C low back fits (current-records C.sound (own-form 0 (omega arith) C low) low o Z));
      beyond = beyond-is;
    }
  where
    version-old : (f : List ℕ) {out : List ℕ} → Convertible 1 f out (sizes_of f) → version_of f ≡ 0
    version-old f C = ⊎_elim (λ (h : version_of f ≡ 1). absurd (C.other h)) (λ (h : version_of f ≢ 1). omega (arith, C.sound.booted.version)) (same_or (version_of f) 1)

    version-current : (f : List ℕ) {out : List ℕ} → Convertible 0 f out (sizes_of f) → version_of f ≡ 1
    version-current f C = ⊎_elim (λ (h : version_of f ≡ 0). absurd (C.other h)) (λ (h : version_of f ≢ 0). omega (arith, C.sound.booted.version)) (same_or (version_of f) 0)

pub converts-more : ConvertsMore
converts-more =
    record {
      section = λ v form f out low e.
          let C = convert-taken v f out e in
          subst (SameData f) (sym (joined_is v C)) (reform-section v form C.sound C.sayable low);
      home_section = λ v form f out back low e fits. home-section v form (convert-taken v f out e) low back fits;
      home_long = λ v form f out back low e fits. home-long v form (convert-taken v f out e) low back fits;
      bytes = λ v f out low e.
          let C = convert-taken v f out e in
          subst Bytes (sym (joined_is v C))
          (bytes-append (records_as v (sizes_of f) (carried_at f (sizes_of f))) (drop ((sizes_of f).n * (sizes_of f).l) f) (bytes-records v f (sizes_of f) low) (bytes_drop ((sizes_of f).n * (sizes_of f).l) f low));
      old_zeroed = zeroed-is 0 (omega arith);
      current_zeroed = zeroed-is 1 (omega arith);
      any_buffer = agree-is;
    }
