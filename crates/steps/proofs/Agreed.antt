-- The groups of tests of refusal 14 together are the definition's, and what agreement gives the writes.
use Prim.Native.Nat.{ℕ, ◌+◌, ◌-◌, ◌*◌, ◌/◌, ◌≤◌, ◌<◌}
use mathlib.Core.Path.{◌≡◌, refl, sym, ◌∙◌, ap, subst}
use mathlib.Core.Bool.{Bool, true, false, cond}
use mathlib.Core.Logic.{⊎_elim}
use mathlib.Core.List.{List, [], ◌∷◌}
use native.Mathlib.Omega.{arith}
use native.Mathlib.Nat.{le_trans, mul-le-mul, mul-le-mul_right, div-mul-le_self}
use borrow.Author.Tests.{lt-ltb, le-ltb, le-leb, eq-eqb, ltb-true, leb-true, eqb-true}
use lib.Dec.{ltb}
use lib.ListN.{length}
use Rattle.lent.proofs.Lists.{not_so, All, all_true, true-all, true≢false, either, lt-or-ge, also-unit, asked, answered}
use Rattle.lent.proofs.Sames.{same_true, true_same}
use Rattle.paper.specs.declared.sizes.Sizes.{Sizes}
use Rattle.paper.specs.declared.job.Job.{Job}
use Rattle.paper.specs.Sizes.{sizes_of, version_of, room_of, Shaped}
use Rattle.paper.specs.Index.{Booted}
use Rattle.paper.specs.Store.{records_for, count_of, change_of, total_of}
use Rattle.paper.specs.Look.{slot_tests}
use Rattle.paper.specs.Step.{agrees, Agreeing}
use Rattle.paper.proofs.Opening.{range-facts, facts-range}
use Rattle.paper.proofs.Sizing.{less, home-in, slotted}
use Rattle.paper.proofs.Writes.{some-record, change-most, row-saves}
use Rattle.paper.proofs.Free.{room_in, rows_in}
use Rattle.paper.proofs.Agreement.{agreeing, disagreeing}
use Rattle.steps.specs.Tests.{file_tests, same_file, boot_tests, boot_holds, has_slot, fit_tests, save_fits, records_fit, old_tests, old_fits, runs_fit, OldIn}
use Rattle.steps.specs.Answers.{Late}
use Rattle.writes.specs.Inside.{Placed, Homed, Rowed, Lying}
use Rattle.writes.proofs.Counts.{count-save, count-clear}

module _ (z : Sizes) (len : ℕ) (j : Job) where
  pub fits-save : j.saves ≡ true → save_fits z len j ≡ records_fit z len j
  unfolding records_fit
  fits-save e = ap (λ (b : Bool). cond b (save_fits z len j) true) (sym e)

  -- the count is small where the room holds it
  pub few-records : records_fit z len j ≡ true → count_of z j ≤ 1000001
  unfolding records_fit save_fits
  few-records r =
      ⊎_elim (λ e. let t = all_true (fit_tests z len j) (asked _ _ r e) in omega (arith, leb-true (j.first + count_of z j) (room_of z len + 1) t.1.1.0))
      (λ e. omega (arith, count-clear z j e)) (either j.saves)

  -- and so is the old run
  old-facts : old_fits z len j ≡ true → 0 < j.many → (z.n < j.old) × (j.old + j.many ≤ room_of z len + 1)
  unfolding old_fits
  old-facts e h =
      let t = all_true (old_tests z len j) e in
      (ltb-true _ _ (asked _ _ t.0 (lt-ltb 0 j.many h)), leb-true _ _ (asked _ _ t.1.0 (lt-ltb 0 j.many h)))

  pub old-none : j.many ≡ 0 → true ≡ old_fits z len j
  unfolding old_fits
  old-none e = rw (le-ltb 0 j.many (omega arith)) refl

  pub old_below : 0 < j.many → j.old ≤ z.n → false ≡ old_fits z len j
  old_below h b = sym (not_so (λ e. omega (arith, old-facts e h)))

  pub old-beyond : 0 < j.many → room_of z len + 1 < j.old + j.many → false ≡ old_fits z len j
  old-beyond h b = sym (not_so (λ e. omega (arith, old-facts e h)))

  pub old_within : z.n < j.old → j.old + j.many ≤ room_of z len + 1 → true ≡ old_fits z len j
  unfolding old_fits
  old_within p w = sym (true-all (old_tests z len j) (
    answered (ltb 0 j.many) _ (λ q. lt-ltb _ _ p),
    (answered (ltb 0 j.many) _ (λ q. le-leb _ _ w), tt),
  ))

  pub runs-facts : runs_fit z len j ≡ true → (records_fit z len j ≡ true) × (old_fits z len j ≡ true)
  unfolding runs_fit
  runs-facts e = let t = all_true (records_fit z len j ∷ old_fits z len j ∷ []) e in (t.0, t.1.0)

  pub few-old : old_fits z len j ≡ true → j.many ≤ 1000001
  few-old e = ⊎_elim (λ (h : 0 < j.many). omega (arith, old-facts e h)) (λ (h : j.many ≤ 0). omega arith) (lt-or-ge 0 j.many)

  pub runs-left : records_fit z len j ≡ false → false ≡ runs_fit z len j
  unfolding runs_fit
  runs-left e = rw e

  pub runs-right : records_fit z len j ≡ true → (r : Bool) → r ≡ old_fits z len j → r ≡ runs_fit z len j
  unfolding runs_fit
  runs-right e r h = rw (e, ← h) (sym (also-unit r))

-- refusals 1 to 5, as a fact and as a test
module _ (f : List ℕ) (z : Sizes) where
  pub holds-boot : z ≡ sizes_of f → boot_holds f z ≡ true → Booted f z
  unfolding boot_holds
  holds-boot e h =
      let t = all_true (boot_tests f z) h in
      record { reads = sym e; long = leb-true _ _ t.0; version = omega (arith, eqb-true (version_of f) 1 t.1.0); ranged = range-facts z t.1.1.0; held = leb-true _ _ t.1.1.1.0 }

  holds-current : z ≡ sizes_of f → boot_holds f z ≡ true → z.version ≡ 1
  unfolding boot_holds
  holds-current e h = ap (λ (y : Sizes). y.version) e ∙ eqb-true _ _ (all_true (boot_tests f z) h).1.0

  boot-holds : Booted f z → z.version ≡ 1 → boot_holds f z ≡ true
  unfolding boot_holds
  boot-holds b v = true-all (boot_tests f z) (le-leb _ _ b.long, (eq-eqb _ _ (ap (λ (y : Sizes). y.version) b.reads ∙ v), (facts-range z b.ranged, (le-leb _ _ b.held, tt))))

module _ (f scan : List ℕ) (j : Job) (z : Sizes) where
  -- each group holds where job and file agree
  file-same : Agreeing f scan j z → same_file f scan j ≡ true
  unfolding same_file
  file-same a = true-all (file_tests f scan j) (eq-eqb _ _ a.size, (eq-eqb _ _ a.span, (true_same a.begun, tt)))

  slot-there : Agreeing f scan j z → has_slot z j.slot ≡ true
  unfolding has_slot
  slot-there a = true-all (slot_tests z j.slot) (le-leb _ _ a.low, (le-leb _ _ a.high, tt))

  records-there : Agreeing f scan j z → records_fit z (length f) j ≡ true
  unfolding records_fit save_fits
  records-there a =
      answered _ _
      (λ e.
      let h : 0 < j.size = omega (arith, a.filled e, a.size) in
      true-all (fit_tests z (length f) j) (lt-ltb _ _ h, (lt-ltb _ _ (a.past e), (le-leb _ _ (a.within e), tt))))

  runs-there : Agreeing f scan j z → runs_fit z (length f) j ≡ true
  unfolding runs_fit old_fits
  runs-there a =
      true-all (records_fit z (length f) j ∷ old_fits z (length f) j ∷ []) (
        records-there a,
        (
          true-all (old_tests z (length f) j)
              (answered _ _ (λ q. lt-ltb _ _ (a.old_past (ltb-true _ _ q))), (answered _ _ (λ q. le-leb _ _ (a.old_within (ltb-true _ _ q))), tt)),
          tt,
        ),
      )

  module _ (reads : z ≡ sizes_of f) where
    refused : (Agreeing f scan j z → ⊥) → false ≡ agrees f scan j
    refused never = sym (disagreeing f scan j (λ a. never (subst (λ (y : Sizes). Agreeing f scan j y) (sym reads) a)))

    pub other-file : same_file f scan j ≡ false → false ≡ agrees f scan j
    other-file e = refused (λ a. true≢false (file-same a) e)

    pub other_boot : boot_holds f z ≡ false → false ≡ agrees f scan j
    other_boot e = refused (λ a. true≢false (boot-holds f z a.booted a.current) e)

    pub other-slot : has_slot z j.slot ≡ false → false ≡ agrees f scan j
    other-slot e = refused (λ a. true≢false (slot-there a) e)

    pub other-runs : runs_fit z (length f) j ≡ false → false ≡ agrees f scan j
    other-runs e = refused (λ a. true≢false (runs-there a) e)

    pub too_many : total_of z j < j.written → false ≡ agrees f scan j
    too_many h = refused (λ a. omega (arith, a.left))

    -- and they are all of them
    pub all-agree : same_file f scan j ≡ true → boot_holds f z ≡ true → has_slot z j.slot ≡ true → runs_fit z (length f) j ≡ true
        → j.written ≤ total_of z j → true ≡ agrees f scan j
    unfolding same_file has_slot records_fit save_fits
    all-agree p b q w h =
        let r = (runs-facts z (length f) j w).0 in
        let old = old-facts z (length f) j (runs-facts z (length f) j w).1 in
        let t = all_true (file_tests f scan j) p in
        let u = all_true (slot_tests z j.slot) q in
        let size : length scan ≡ j.size = eqb-true _ _ t.0 in
        let v : j.saves ≡ true → All (fit_tests z (length f) j) = λ e. all_true (fit_tests z (length f) j) (asked _ _ r e) in
        sym (agreeing f scan j z (record {
          booted = holds-boot f z reads b;
          current = holds-current f z reads b;
          size = size;
          span = eqb-true _ _ t.1.0;
          begun = same_true _ _ t.1.1.0;
          filled = λ e. omega (arith, ltb-true 0 j.size (v e).0);
          low = leb-true _ _ u.0;
          high = leb-true _ _ u.1.0;
          past = λ e. ltb-true _ _ (v e).1.0;
          within = λ e. leb-true _ _ (v e).1.1.0;
          left = h;
          old_past = λ x. (old x).0;
          old_within = λ x. (old x).1;
        }))

  -- where the job's writes lie
  module _ (a : Agreeing f scan j z) where
    shape : Shaped z
    shape = a.booted.ranged.shape

    pub placed : j.saves ≡ true → Placed z j
    placed e =
        let k : records_for z j.size ≡ count_of z j = count-save z j e in
        let some = some-record z.l j.size (omega (arith, shape.l_low)) (omega (arith, a.filled e, a.size)) in
        record { low = a.past e; some = omega arith; high = omega (arith, a.within e) }

    pub count_small : count_of z j ≤ 1000001
    count_small = ⊎_elim (λ e. omega (arith, placed e)) (λ e. omega (arith, count-clear z j e)) (either j.saves)

    pub old_small : j.many ≤ 1000001
    old_small = ⊎_elim (λ (h : 0 < j.many). omega (arith, a.old_within h)) (λ (h : j.many ≤ 0). omega arith) (lt-or-ge 0 j.many)

    pub total-small : total_of z j ≤ 2000005
    total-small = omega (arith, count_small, old_small, change-most z j)

    pub homed : Homed f z j
    homed =
        record {
          held = record { ranged = a.booted.ranged; slot = slotted a.booted j.slot a.low a.high; placed = placed };
          within = home-in a.booted j.slot a.low a.high;
        }

    -- a record within the room
    lies_in : (r : ℕ) → 1 ≤ r → r ≤ room_of z (length f) → Lying f z r
    lies_in r low h =
        record { low = low; high = omega arith; l_high = shape.l_high; within = omega (arith, less r z.l low, room_in z (length f) r h) }

    -- the old run's record at the job's place, and all of it
    pub late : {k : ℕ} → k ≡ count_of z j → j.written < total_of z j → Late f z j k
    late e h =
        record {
          rows = e;
          few = omega (arith, count_small);
          lies = λ c. lies_in (j.old + (j.written - change_of z j)) (omega (arith, a.old_past (omega arith))) (omega (arith, a.old_within (omega arith)));
        }

    pub old-in : OldIn f z j
    old-in =
        record {
          low = λ h. omega (arith, a.old_past h);
          from = λ h. mul-le-mul {n₂ = 1000000} {m₂ = 4096} (omega (arith, a.old_within h)) shape.l_high;
          size = λ h. mul-le-mul {n₂ = 1000001} {m₂ = 4096} old_small shape.l_high;
          within = λ h. rows_in z (length f) j.old j.many (omega (arith, a.old_past h)) (a.old_within h);
        }

    -- the data record at the job's place
    pub rowed : j.written < count_of z j → Rowed f z j
    rowed h =
        let e : j.saves ≡ true = row-saves z j (omega arith) in
        let r = j.first + j.written in
        let p = placed e in
        let w : r ≤ length f / z.l = omega (arith, a.within e) in
        let t : r * z.l ≤ length f = le_trans (mul-le-mul_right z.l w) (div-mul-le_self (length f) z.l) in
        record {
          low = omega arith;
          high = omega (arith, a.within e);
          l_high = shape.l_high;
          within = omega (arith, less r z.l (omega arith));
          from = mul-le-mul {n₂ = 1000000} {m₂ = 4096} (omega arith) shape.l_high;
        }
