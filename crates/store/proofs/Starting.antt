-- Save, keep and clear: each answer is the definition's, check by check.
use Rattle.std.specs.Prelude.{Ok, Err, Option, Some, None as Nothing}
use Rattle.lent.specs.Least.{some_number}
use Rattle.lent.proofs.Founds.{was-found, was-none}
use Prim.Native.Nat.{ℕ, ◌-◌, ◌≤◌, ◌<◌}
use mathlib.Core.Path.{◌≡◌, refl, sym, ◌∙◌, ap}
use mathlib.Core.Bool.{Bool, true, false, not}
use mathlib.Core.List.{List, [], ◌∷◌, ◌++◌}
use native.Mathlib.Omega.{arith}
use native.Mathlib.Nat.{div-le_self}
use borrow.Author.Tests.{lt-ltb, le-ltb, eq-eqb, ne_eqb}
use lib.Dec.{eqb}
use lib.ListN.{length}
use Rattle.lent.specs.Checks.{Check, check, answer, judge}
use Rattle.lent.proofs.Checks.{judge-fires}
use Rattle.paper.specs.declared.sizes.Sizes.{Sizes}
use Rattle.paper.specs.declared.sizes.Run.{Run}
use Rattle.paper.specs.declared.refusal.Refusal.{Refusal}
use Rattle.paper.specs.declared.refusal.Refusal.TheVariants.{NoSuchSlot, EmptySlot, BadScan, NoEmptySlot, NoRoom}
use Rattle.paper.specs.Answers.{Begun}
use Rattle.paper.specs.declared.job.Job.{Job}
use Rattle.paper.specs.Sizes.{sizes_of, Shaped}
use Rattle.paper.specs.Index.{run_of, empty, change_checks, change_of}
use Rattle.paper.specs.Look.{no_slot, no_scan}
use Rattle.paper.specs.Scan.{ruled_of}
use Rattle.paper.specs.Store.{saves_at, records_for, free_place, empty_slot, place_for, save_job, clear_job, reason_of, scan_checks, save_of, keep_slot, keep_of, clear_of}
use Rattle.paper.proofs.Opening.{change-reads, change-then-refused, change-then-opens}
use Rattle.paper.proofs.Rules.{keeps-lengths}
use Rattle.paper.proofs.Reasons.{some-reason}
use Rattle.steps.specs.Tests.{has_slot}
use Rattle.store.specs.declared.judged.Goal.{Goal}
use Rattle.store.specs.declared.judged.Goal.TheVariants.{Slot, LowestEmpty}
use Rattle.store.specs.Beginning.{begun_of, placed_of}
use Rattle.writes.proofs.Counts.{records-some}

-- a check that fires, or is passed
fires-first : (t : Bool) (r : Refusal) (cs : List (Check Refusal)) (a : Begun) → t ≡ true → Err r ≡ judge Err (check t r ∷ cs) a
fires-first t r cs a e = rw e

passes-first : (t : Bool) (r : Refusal) (cs : List (Check Refusal)) (a : Begun) → t ≡ false → judge Err cs a ≡ judge Err (check t r ∷ cs) a
passes-first t r cs a e = rw e

-- 1 to 8
module _ (f : List ℕ) (ds : List (Check Refusal)) (a : Begun) where
  out : {r : Refusal} → change_of f ≡ Err r → Err r ≡ judge Err (change_checks f ++ ds) a
  out {r} e = sym (judge-fires Err (change_checks f ++ ds) a r (change-then-refused f ds e))

  on : {z : Sizes} → change_of f ≡ Ok z → judge Err ds a ≡ judge Err (change_checks f ++ ds) a
  on e = sym (ap (answer Err a) (change-then-opens f ds e))

-- 11, then 13
module _ (f : List ℕ) (slot : ℕ) (scan about : List ℕ) where
  abbrev job : Begun
  job = Ok (save_job f slot scan about)

  abbrev bad : ℕ → Begun
  bad n = Err (BadScan n)

  abbrev room_check : List (Check Refusal)
  room_check = check (eqb (place_for f (length scan)) 0) NoRoom ∷ []

  pub bad_scan : {n : ℕ} → ruled_of scan true ≡ Err n → bad n ≡ placed_of f slot scan about
  unfolding placed_of
  bad_scan {n} e =
      let why : reason_of (ruled_of scan true) ≡ n = ap reason_of e in
      ap bad (sym why) ∙ fires-first _ _ room_check job (lt-ltb 0 (reason_of (ruled_of scan true)) (omega (arith, why, some-reason scan true e)))

  module _ {p : ℕ × ℕ} (kept : ruled_of scan true ≡ Ok p) where
    good-scan : judge Err room_check job ≡ placed_of f slot scan about
    unfolding placed_of
    good-scan = passes-first _ _ room_check job (le-ltb 0 (reason_of (ruled_of scan true)) (omega (arith, ap reason_of kept)))

    -- the place that was found
    module _ (z : Sizes) (opens : change_of f ≡ Ok z) (o : Option ℕ) (found : o ≡ some_number (free_place z (length f) (run_of f z) (records_for z (length scan)))) where
      place_is : o ≡ some_number (place_for f (length scan))
      place_is =
          found ∙ sym (ap some_number (ap (λ (y : Sizes). free_place y (length f) (run_of f y) (records_for y (length scan))) (change-reads f opens)))

      pub no_place : o ≡ Nothing → Err NoRoom ≡ placed_of f slot scan about
      no_place e = fires-first _ _ [] job (eq-eqb _ _ (was-none _ (sym place_is ∙ e))) ∙ good-scan

      pub place_found : (first : ℕ) {j : Job} → o ≡ Some first → j ≡ saves_at f slot scan about first → Ok j ≡ placed_of f slot scan about
      place_found first e h =
          let w = was-found (place_for f (length scan)) first (sym place_is ∙ e) in
          ap Ok (h ∙ ap (saves_at f slot scan about) w.0) ∙ passes-first _ _ [] job (ne_eqb _ _ (λ q. omega (arith, w.0, w.1))) ∙ good-scan

    -- how many records it takes
    pub records-small : (z : Sizes) → Shaped z → (k : ℕ) → k ≡ records_for z (length scan) → (1 ≤ k) × (k ≤ 65536)
    records-small z s k e =
        let l = keeps-lengths kept in
        let r : records_for z (length scan) ≡ _ = records-some z (length scan) s (omega (arith, l.long)) in
        let d = div-le_self (length scan - 1) z.l in
        (omega (arith, l.long), omega (arith, l.long, l.short refl))

-- 9, at the sizes that the file opens with
module _ (f : List ℕ) (slot : ℕ) {z : Sizes} (opens : change_of f ≡ Ok z) where
  slot-test : (b : Bool) → has_slot z slot ≡ b → has_slot (sizes_of f) slot ≡ b
  slot-test b e = ap (λ (y : Sizes). has_slot y slot) (change-reads f opens) ∙ e

  no-slot : (cs : List (Check Refusal)) (a : Begun) → has_slot z slot ≡ false → Err NoSuchSlot ≡ judge Err (no_slot (sizes_of f) slot ∷ cs) a
  unfolding has_slot
  no-slot cs a e = fires-first _ _ cs a (ap not (slot-test false e))

  slot-passed : (cs : List (Check Refusal)) (a : Begun) → has_slot z slot ≡ true → judge Err cs a ≡ judge Err (no_slot (sizes_of f) slot ∷ cs) a
  unfolding has_slot
  slot-passed cs a e = passes-first _ _ cs a (ap not (slot-test true e))

module _ (f : List ℕ) (slot : ℕ) (scan about : List ℕ) {z : Sizes} (opens : change_of f ≡ Ok z) where
  abbrev save_checks : List (Check Refusal)
  save_checks = no_slot (sizes_of f) slot ∷ scan_checks f scan

  pub save-no-slot : has_slot z slot ≡ false → Err NoSuchSlot ≡ save_of f slot scan about
  unfolding save_of
  save-no-slot e = no-slot f slot opens (scan_checks f scan) _ e ∙ on f save_checks (Ok (save_job f slot scan about)) opens

  pub save-on : {x : Begun} → has_slot z slot ≡ true → x ≡ placed_of f slot scan about → x ≡ save_of f slot scan about
  unfolding save_of placed_of
  save-on e p = p ∙ slot-passed f slot opens (scan_checks f scan) _ e ∙ on f save_checks (Ok (save_job f slot scan about)) opens

module _ (f scan about : List ℕ) {z : Sizes} (opens : change_of f ≡ Ok z) (s : Option ℕ) (lowest : s ≡ some_number (empty_slot z (run_of f z))) where
  abbrev keep_checks : List (Check Refusal)
  keep_checks = check (eqb (keep_slot f) 0) NoEmptySlot ∷ scan_checks f scan

  abbrev keep_job : Begun
  keep_job = Ok (save_job f (keep_slot f) scan about)

  slot_is : s ≡ some_number (keep_slot f)
  slot_is = lowest ∙ sym (ap some_number (ap (λ (y : Sizes). empty_slot y (run_of f y)) (change-reads f opens)))

  pub keep-none : s ≡ Nothing → Err NoEmptySlot ≡ keep_of f scan about
  unfolding keep_of
  keep-none e = fires-first _ _ (scan_checks f scan) keep_job (eq-eqb _ _ (was-none _ (sym slot_is ∙ e))) ∙ on f keep_checks keep_job opens

  pub keep-on : (slot : ℕ) {x : Begun} → s ≡ Some slot → x ≡ placed_of f slot scan about → x ≡ keep_of f scan about
  unfolding keep_of placed_of
  keep-on slot e p =
      let w = was-found (keep_slot f) slot (sym slot_is ∙ e) in
      p ∙ ap (λ (t : ℕ). judge Err (scan_checks f scan) (Ok (save_job f t scan about))) w.0
      ∙ passes-first _ _ (scan_checks f scan) keep_job (ne_eqb _ _ (λ n. omega (arith, w.0, w.1))) ∙ on f keep_checks keep_job opens

-- 1 to 8 of a save, a keep and a clear
pub goal-out : (f : List ℕ) (g : Goal) (scan about : List ℕ) {r : Refusal} → change_of f ≡ Err r → Err r ≡ begun_of f g scan about
unfolding save_of keep_of
goal-out f (Slot s) scan about e = out f (no_slot (sizes_of f) s ∷ scan_checks f scan) (Ok (save_job f s scan about)) e
goal-out f LowestEmpty scan about e = out f (check (eqb (keep_slot f) 0) NoEmptySlot ∷ scan_checks f scan) (Ok (save_job f (keep_slot f) scan about)) e

module _ (f : List ℕ) (slot : ℕ) where
  abbrev clear_checks : List (Check Refusal)
  clear_checks = no_slot (sizes_of f) slot ∷ no_scan (run_of f (sizes_of f) slot) ∷ []

  abbrev clearing : Begun
  clearing = Ok (clear_job f slot)

  pub clear-out : {r : Refusal} → change_of f ≡ Err r → Err r ≡ clear_of f slot
  unfolding clear_of
  clear-out e = out f clear_checks clearing e

  module _ {z : Sizes} (opens : change_of f ≡ Ok z) where
    pub clear-no-slot : has_slot z slot ≡ false → Err NoSuchSlot ≡ clear_of f slot
    unfolding clear_of
    clear-no-slot e = no-slot f slot opens (no_scan (run_of f (sizes_of f) slot) ∷ []) _ e ∙ on f clear_checks clearing opens

    empty-is : (a : Run) (b t : Bool) → a ≡ run_of f z slot → b ≡ empty a → b ≡ t → empty (run_of f (sizes_of f) slot) ≡ t
    empty-is a b t r e h =
        ap (λ (y : Sizes). empty (run_of f y slot)) (change-reads f opens) ∙ sym (ap empty r) ∙ sym e ∙ h

    module _ (slotted : has_slot z slot ≡ true) (a : Run) (run : a ≡ run_of f z slot) (b : Bool) (test : b ≡ empty a) where
      pub clear-empty : b ≡ true → Err EmptySlot ≡ clear_of f slot
      unfolding clear_of
      clear-empty e =
          fires-first _ _ [] clearing (empty-is a b true run test e)
          ∙ slot-passed f slot opens (no_scan (run_of f (sizes_of f) slot) ∷ []) _ slotted ∙ on f clear_checks clearing opens

      pub clear-on : {j : Job} → b ≡ false → j ≡ clear_job f slot → Ok j ≡ clear_of f slot
      unfolding clear_of
      clear-on e h =
          ap Ok h ∙ passes-first _ _ [] clearing (empty-is a b false run test e)
          ∙ slot-passed f slot opens (no_scan (run_of f (sizes_of f) slot) ∷ []) _ slotted ∙ on f clear_checks clearing opens
