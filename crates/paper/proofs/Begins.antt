-- An accepted save, keep or clear: what it was accepted on, and that the job which it hands back is ready to be stepped.
use Rattle.std.specs.Prelude.{Ok, Err}
use Prim.Native.Nat.{ℕ, ◌+◌, ◌-◌, ◌*◌, ◌≤◌, ◌<◌}
use mathlib.Core.Path.{◌≡◌, refl, sym, ◌∙◌, ap, subst}
use mathlib.Core.Bool.{true, false, not}
use mathlib.Core.List.{List, [], ◌∷◌, ◌++◌}
use mathlib.Core.Logic.{◌≢◌}
use native.Mathlib.Omega.{arith}
use native.Mathlib.Nat.{add-mul, zero-mul}
use borrow.Author.Tests.{ltb-false, leb-true, eqb-false, le-ltb, le-leb, ne_eqb, not-false}
use lib.Dec.{eqb}
use lib.ListN.{length}
use Rattle.lent.specs.Checks.{Check, check, clear, fired}
use Rattle.lent.specs.Least.{Lowest}
use Rattle.lent.specs.Lists.{all}
use Rattle.lent.specs.Part.{part}
use Rattle.lent.specs.Write.{write, pad, zeros}
use Rattle.lent.proofs.Lists.{true≢false, all_true, true-all}
use Rattle.lent.proofs.Leasts.{lowest-least}
use Rattle.lent.proofs.Checks.{clear-cons, cons-clear, clear-all, all-clear, judge-clear}
use Rattle.lent.proofs.Parts.{part_in, part_none}
use Rattle.lent.proofs.Writes.{length-pad, length-zeros, pad-none}
use Rattle.paper.specs.declared.sizes.Sizes.{Sizes}
use Rattle.paper.specs.declared.sizes.Run.{Run}
use Rattle.paper.specs.declared.refusal.Refusal.{Refusal}
use Rattle.paper.specs.declared.refusal.Refusal.TheVariants.{NoEmptySlot}
use Rattle.paper.specs.declared.job.Job.{Job}
use Rattle.paper.specs.Sizes.{sizes_of, capacity_of, start_of, room_of}
use Rattle.paper.specs.Index.{run_of, empty, Full, change_checks, open_of, Lies, Sound, Changeable}
use Rattle.paper.specs.Scan.{headlen, datalen, ruled_of}
use Rattle.paper.specs.Look.{slot_tests, no_slot, held_checks, slot_checks, InIndex}
use Rattle.paper.specs.Store.{records_for, run_from, empty_slot, highest, many_of, old_run, place_for, saves_at, save_job, clear_job, reason_of, scan_checks, save_of, keep_slot, keep_of, clear_of, data_from, data_writes, sizes_after, entry_after}
use Rattle.paper.proofs.Handed.{taken-ok}
use Rattle.paper.proofs.Opening.{full-facts, facts-full, then-clear, may-change, change-may, empty-lies}
use Rattle.paper.proofs.Rules.{keeps-lengths}
use Rattle.paper.proofs.Reasons.{no-reason}
use Rattle.paper.proofs.Writes.{enough, some-record}
use Rattle.paper.specs.Step.{Agreeing}
use Rattle.paper.proofs.Encoding.{stated_by, length-entry, entry-states, zeros-state}
use Rattle.paper.proofs.Free.{performs, FreeAt, place-free, free-nobody, place-near, room_in, rows_in, used-room, scan-lies, data-free, data-all}
use Rattle.paper.proofs.Used.{highest-le, full-highest}
use Rattle.paper.proofs.Bootstrap.{covers_more}
use Rattle.paper.proofs.IndexLaw.{Alone}
use Rattle.paper.proofs.Ready.{Ready}
use Rattle.paper.specs.Answers.{taken_in}

-- a job that is ready to be stepped
pub record Begins (z : Sizes) (f scan : List ℕ) (j : Job) : Type 0 where
  pub ready : Ready z f scan j
  pub agreeing : Agreeing f scan j z
  pub fresh : j.written ≡ 0

-- ---- the old run

-- it is that of the slot's scan, and lies within the room
record Carried (f : List ℕ) (z : Sizes) (slot : ℕ) : Type 0 where
  is : (old_run f slot).first ≡ (run_of f z slot).first
  many_is : many_of (old_run f slot) ≡ many_of (run_of f z slot)
  past : 0 < many_of (old_run f slot) → z.n < (old_run f slot).first
  within : 0 < many_of (old_run f slot) → (old_run f slot).first + many_of (old_run f slot) ≤ room_of z (length f) + 1

carried : {f : List ℕ} {z : Sizes} → Sound f z → (slot : ℕ) → 1 ≤ slot → slot ≤ capacity_of z → Carried f z slot
carried {f} {z} S slot a b =
    let e : old_run f slot ≡ run_of f z slot = ap (λ (y : Sizes). run_of f y slot) S.booted.reads in
    let p = ap (λ (r : Run). r.first) e in
    let m = ap many_of e in
    record {
      is = p;
      many_is = m;
      past = λ h. omega (arith, (scan-lies S.laid slot a b (omega arith)).past);
      within = λ h. omega (arith, (scan-lies S.laid slot a b (omega arith)).within, used-room S.booted);
    }

-- ---- a save

module _ {f : List ℕ} {z : Sizes} (S : Sound f z) (v : z.version ≡ 1) (slot : ℕ) (scan about : List ℕ) (k54 : length about ≡ 54) (s₁ : 1 ≤ slot) (s₂ : slot ≤ capacity_of z)
    (long : 256 ≤ length scan) (r : ℕ) (F : FreeAt z (length f) (run_of f z) (records_for z (length scan)) r) (close : r ≤ z.n + z.d + 1) where
  abbrev K : ℕ
  K = records_for z (length scan)

  abbrev j : Job
  j = saves_at f slot scan about r

  O : Carried f z slot
  O = carried S slot s₁ s₂

  l₁ : 1 ≤ z.l
  l₁ = omega (arith, S.booted.ranged.shape.l_low)

  K₁ : 1 ≤ K
  K₁ = some-record z.l (length scan) l₁ (omega arith)

  last-in : r + K - 1 ≤ room_of z (length f)
  last-in = omega (arith, F.within)

  states : stated_by (entry_after z j) ≡ run_from r K
  states =
      let w = F.within in
      let k = K₁ in
      entry-states z (run_from r K) about (record { first_fits = omega arith; last_fits = omega arith })

  length-padded : length (pad (K * z.l) scan) ≡ K * z.l
  length-padded = length-pad (K * z.l) scan (enough z.l (length scan) l₁)

  last_byte : (r + K - 1) * z.l ≡ start_of z r + K * z.l
  last_byte = ap (λ (x : ℕ). x * z.l) (omega (arith, F.past)) ∙ add-mul (r - 1) K z.l

  fits : start_of z r + K * z.l ≤ length f
  fits = rows_in z (length f) r K (omega (arith, F.past)) F.within

  gives : part (start_of z r) (start_of z r + K * z.l) (performs f (data_writes z j scan)) ≡ pad (K * z.l) scan
  gives =
      let bs : List ℕ = pad (K * z.l) scan in
      ap (part (start_of z r) (start_of z r + K * z.l)) (data-all z K f r bs length-padded (omega (arith, F.past)) fits)
      ∙ ap (λ (n : ℕ). part (start_of z r) (start_of z r + n) (write f (start_of z r) bs)) (sym length-padded)
      ∙ part_in f (start_of z r) bs (omega (arith, fits))

  lies : Lies (sizes_after f z j) (run_from r K)
  lies = let k = K₁ in let p = F.past in record { low = λ h. p; order = λ h. omega arith; high = omega arith }

  pub save-ready : Begins z f scan (saves_at f slot scan about r)
  save-ready =
      record {
        ready = record {
          sound = S;
          current = v;
          low = s₁;
          high = s₂;
          free =
              data-free z f K r (pad (K * z.l) scan) length-padded F.past (λ q a b. room_in z (length f) q (omega (arith, last-in)))
              (λ s q a b. free-nobody F S.laid s q a (omega (arith, S.booted.ranged.used)));
          covers = covers_more S (omega arith) (omega arith) (omega (arith, last-in, used-room S.booted)) (omega (arith, highest-le f z));
          entry = length-entry z (run_from r K) about k54 (omega (arith, S.booted.ranged.shape.m_low));
          lies = subst (Lies (sizes_after f z j)) (sym states) lies;
          alone =
              subst (Alone z (run_of f z) slot) (sym states)
              (λ t q a b ne n x y. free-nobody F S.laid t q a b x (omega (arith, K₁)));
          from = ap (λ (x : Run). start_of z x.first) states;
          to = ap (λ (x : Run). x.last * z.l) states ∙ last_byte;
          settles = λ t e. let q : r + (r + K - 1) ≡ 0 = subst (λ (x : Run). x.first + x.last ≡ 0) states e in absurd (omega (arith, F.past));
          gives = gives;
          old-is = O.is;
          many_is = O.many_is;
          old_apart =
              subst (λ (x : Run). (q : ℕ) → z.n < q → (run_of f z slot).first ≤ q → q ≤ (run_of f z slot).last → x.first ≤ q → q ≤ x.last → ⊥) (sym states)
              (λ q n a b x y. free-nobody F S.laid slot q s₁ s₂ x (omega (arith, K₁)) a b);
          near =
              subst (λ (x : Run). (q : ℕ) → z.n + z.d < q → q ≤ z.n + (sizes_after f z j).d → (x.first ≤ q) × (q ≤ x.last)) (sym states)
              (λ q a b. (omega arith, omega (arith, F.past, K₁)));
        };
        agreeing = record {
          booted = S.booted;
          current = v;
          size = refl;
          span = refl;
          begun = refl;
          filled = λ h. omega arith;
          low = s₁;
          high = s₂;
          past = λ h. F.past;
          within = λ h. F.within;
          left = omega arith;
          old_past = O.past;
          old_within = O.within;
        };
        fresh = refl;
      }

-- ---- a clear

module _ {f : List ℕ} {z : Sizes} (S : Sound f z) (v : z.version ≡ 1) (slot : ℕ) (s₁ : 1 ≤ slot) (s₂ : slot ≤ capacity_of z)
    (there : Full (run_of f z slot)) where
  abbrev q : Job
  q = clear_job f slot

  Q : Carried f z slot
  Q = carried S slot s₁ s₂

  blank : stated_by (zeros z.m) ≡ record { first = 0; last = 0 }
  blank = zeros-state z.m

  not-highest : eqb slot (highest f (sizes_of f)) ≡ false → slot ≢ highest f z
  not-highest t = eqb-false slot (highest f z) (subst (λ (y : Sizes). eqb slot (highest f y) ≡ false) S.booted.reads t)

  pub clear-ready : Begins z f [] (clear_job f slot)
  unfolding data_from
  clear-ready =
      record {
        ready = record {
          sound = S;
          current = v;
          low = s₁;
          high = s₂;
          free = tt;
          covers = covers_more S (omega arith) (omega arith) (used-room S.booted) (omega (arith, highest-le f z));
          entry = length-zeros z.m;
          lies = subst (Lies (sizes_after f z q)) (sym blank) (empty-lies (sizes_after f z q) _ refl);
          alone = subst (Alone z (run_of f z) slot) (sym blank) (λ t r a b ne n x y v w. omega arith);
          from = ap (λ (x : Run). start_of z x.first) blank;
          to = ap (λ (x : Run). x.last * z.l) blank ∙ omega (arith, zero-mul z.l);
          settles = λ t e. omega (arith, not-highest t, full-highest f z slot s₂ there);
          gives =
              part_none (start_of z 0) (start_of z 0 + 0 * z.l) f (omega (arith, zero-mul z.l))
              ∙ sym (pad-none (0 * z.l) [] (omega (arith, zero-mul z.l)));
          old-is = Q.is;
          many_is = Q.many_is;
          old_apart =
              subst (λ (x : Run). (r : ℕ) → z.n < r → (run_of f z slot).first ≤ r → r ≤ (run_of f z slot).last → x.first ≤ r → r ≤ x.last → ⊥) (sym blank)
              (λ r n a b x y. omega arith);
          near = λ r a b. absurd (omega arith);
        };
        agreeing = record {
          booted = S.booted;
          current = v;
          size = refl;
          span = refl;
          begun = refl;
          filled = λ h. absurd (true≢false h refl);
          low = s₁;
          high = s₂;
          past = λ h. absurd (true≢false h refl);
          within = λ h. absurd (true≢false h refl);
          left = omega arith;
          old_past = Q.past;
          old_within = Q.within;
        };
        fresh = refl;
      }

-- ---- what is accepted, both ways

-- 11 and 13: the scan keeps the rules, and there is a place for it
pub record Placed (f scan : List ℕ) : Type 0 where
  pub keeps : ruled_of scan true ≡ Ok (headlen scan, datalen scan)
  pub found : place_for f (length scan) ≢ 0

module _ (f scan : List ℕ) where
  clear-placed : fired (scan_checks f scan) ≡ clear → Placed f scan
  clear-placed e =
      let c = clear-all (scan_checks f scan) e in
      let n : reason_of (ruled_of scan true) ≡ 0 = omega (arith, ltb-false 0 (reason_of (ruled_of scan true)) c.0) in
      record { keeps = no-reason scan true n; found = eqb-false _ _ c.1.0 }

  placed-clear : Placed f scan → fired (scan_checks f scan) ≡ clear
  placed-clear h =
      let n : reason_of (ruled_of scan true) ≡ 0 = ap reason_of h.keeps in
      all-clear (scan_checks f scan) (le-ltb 0 (reason_of (ruled_of scan true)) (omega arith), (ne_eqb (place_for f (length scan)) 0 h.found, tt))

-- 9: a slot of the index
pub slot-facts : (z : Sizes) (slot : ℕ) → not (all (slot_tests z slot)) ≡ false → InIndex z slot
slot-facts z slot e =
    let t = all_true (slot_tests z slot) (not-false _ e) in
    record { low = leb-true _ _ t.0; high = leb-true _ _ t.1.0 }

pub facts-slot : (z : Sizes) (slot : ℕ) → InIndex z slot → not (all (slot_tests z slot)) ≡ false
facts-slot z slot h = ap not (true-all (slot_tests z slot) (le-leb _ _ h.low, (le-leb _ _ h.high, tt)))

pub record SaveTaken (f : List ℕ) (slot : ℕ) (scan : List ℕ) : Type 0 where
  pub may : Changeable f (sizes_of f)
  pub slotted : InIndex (sizes_of f) slot
  pub placed : Placed f scan

module _ (f : List ℕ) (slot : ℕ) (scan about : List ℕ) where
  abbrev save_checks : List (Check Refusal)
  save_checks = no_slot (sizes_of f) slot ∷ scan_checks f scan

  pub save-taken : taken_in (save_of f slot scan about) ≡ Ok tt → SaveTaken f slot scan
  unfolding save_of
  save-taken e =
      let p = may-change f save_checks (taken-ok (change_checks f ++ save_checks) (save_job f slot scan about) e) in
      let c = clear-cons _ _ (scan_checks f scan) p.1 in
      record { may = p.0; slotted = slot-facts (sizes_of f) slot c.0; placed = clear-placed f scan c.1 }

  pub taken-save : SaveTaken f slot scan → save_of f slot scan about ≡ Ok (save_job f slot scan about)
  unfolding save_of
  taken-save h =
      judge-clear Err (change_checks f ++ save_checks) (Ok (save_job f slot scan about))
      (change-may f save_checks h.may ∙ cons-clear _ _ (scan_checks f scan) (facts-slot (sizes_of f) slot h.slotted) (placed-clear f scan h.placed))

pub record KeepTaken (f scan : List ℕ) : Type 0 where
  pub may : Changeable f (sizes_of f)
  pub slotted : keep_slot f ≢ 0
  pub placed : Placed f scan

module _ (f scan about : List ℕ) where
  abbrev keep_checks : List (Check Refusal)
  keep_checks = check (eqb (keep_slot f) 0) NoEmptySlot ∷ scan_checks f scan

  pub keep_taken : taken_in (keep_of f scan about) ≡ Ok tt → KeepTaken f scan
  unfolding keep_of
  keep_taken e =
      let p = may-change f keep_checks (taken-ok (change_checks f ++ keep_checks) (save_job f (keep_slot f) scan about) e) in
      let c = clear-cons _ _ (scan_checks f scan) p.1 in
      record { may = p.0; slotted = eqb-false _ _ c.0; placed = clear-placed f scan c.1 }

  pub taken-keep : KeepTaken f scan → keep_of f scan about ≡ Ok (save_job f (keep_slot f) scan about)
  unfolding keep_of
  taken-keep h =
      judge-clear Err (change_checks f ++ keep_checks) (Ok (save_job f (keep_slot f) scan about))
      (change-may f keep_checks h.may ∙ cons-clear _ _ (scan_checks f scan) (ne_eqb (keep_slot f) 0 h.slotted) (placed-clear f scan h.placed))

-- "keep a scan in the lowest empty slot": one of the index's
pub keep-slotted : (f : List ℕ) → keep_slot f ≢ 0 → InIndex (sizes_of f) (keep_slot f)
unfolding empty_slot
keep-slotted f h =
    let z : Sizes = sizes_of f in
    let l : Lowest (λ s. empty (run_of f z s)) (capacity_of z) (keep_slot f) = lowest-least refl (omega arith) in
    record { low = l.low; high = l.high }

-- of entry, show and read: a slot that holds a scan
pub record SlotTaken (f : List ℕ) (slot : ℕ) : Type 0 where
  pub opens : open_of f ≡ Ok (sizes_of f)
  pub slotted : InIndex (sizes_of f) slot
  pub full : Full (run_of f (sizes_of f) slot)

-- and of clear
pub record ClearTaken (f : List ℕ) (slot : ℕ) : Type 0 where
  pub may : Changeable f (sizes_of f)
  pub slotted : InIndex (sizes_of f) slot
  pub full : Full (run_of f (sizes_of f) slot)

module _ (f : List ℕ) (slot : ℕ) where
  held-facts : fired (held_checks f slot) ≡ clear → InIndex (sizes_of f) slot × Full (run_of f (sizes_of f) slot)
  held-facts e = let c = clear-all (held_checks f slot) e in (slot-facts (sizes_of f) slot c.0, full-facts (run_of f (sizes_of f) slot) c.1.0)

  facts-held : InIndex (sizes_of f) slot → Full (run_of f (sizes_of f) slot) → fired (held_checks f slot) ≡ clear
  facts-held i h = all-clear (held_checks f slot) (facts-slot (sizes_of f) slot i, (facts-full (run_of f (sizes_of f) slot) h, tt))

  pub slot-is-taken : fired (slot_checks f slot) ≡ clear → SlotTaken f slot
  slot-is-taken e =
      let p = then-clear f (held_checks f slot) e in
      let h = held-facts p.1 in
      record { opens = p.0; slotted = h.0; full = h.1 }

  pub clear-is-taken : taken_in (clear_of f slot) ≡ Ok tt → ClearTaken f slot
  unfolding clear_of
  clear-is-taken e =
      let p = may-change f (held_checks f slot) (taken-ok (change_checks f ++ held_checks f slot) (clear_job f slot) e) in
      let h = held-facts p.1 in
      record { may = p.0; slotted = h.0; full = h.1 }

  pub taken-is-clear : ClearTaken f slot → clear_of f slot ≡ Ok (clear_job f slot)
  unfolding clear_of
  taken-is-clear h =
      judge-clear Err (change_checks f ++ held_checks f slot) (Ok (clear_job f slot)) (change-may f (held_checks f slot) h.may ∙ facts-held h.slotted h.full)

-- ---- and so the job is ready

module _ (f : List ℕ) where
  -- in the sizes that the file opens with
  save-begins-at : (slot : ℕ) (scan about : List ℕ) → length about ≡ 54 → Changeable f (sizes_of f) → InIndex (sizes_of f) slot → Placed f scan
      → Begins (sizes_of f) f scan (save_job f slot scan about)
  save-begins-at slot scan about k54 o i p =
      save-ready o.sound o.current slot scan about k54 i.low i.high (keeps-lengths p.keeps).long (place_for f (length scan))
      (place-free (sizes_of f) (length f) (run_of f (sizes_of f)) (records_for (sizes_of f) (length scan)) p.found)
      (place-near (sizes_of f) (length f) (run_of f (sizes_of f)) (records_for (sizes_of f) (length scan)) o.sound.laid p.found)

  pub save-begins : (slot : ℕ) (scan about : List ℕ) → length about ≡ 54 → SaveTaken f slot scan → Begins (sizes_of f) f scan (save_job f slot scan about)
  save-begins slot scan about k54 h = save-begins-at slot scan about k54 h.may h.slotted h.placed

  pub keep-begins : (scan about : List ℕ) → length about ≡ 54 → KeepTaken f scan → Begins (sizes_of f) f scan (save_job f (keep_slot f) scan about)
  keep-begins scan about k54 h = save-begins-at (keep_slot f) scan about k54 h.may (keep-slotted f h.slotted) h.placed

  pub clear-begins : (slot : ℕ) → ClearTaken f slot → Begins (sizes_of f) f [] (clear_job f slot)
  clear-begins slot h = clear-ready h.may.sound h.may.current slot h.slotted.low h.slotted.high h.full
