-- Demand 2, of the refusals: every call gives each exactly under its condition and in order, and is accepted exactly where none is given.
use Rattle.std.specs.Prelude.{Ok, Err}
use Prim.Native.Nat.{ℕ, ◌+◌, ◌*◌, ◌≤◌, max}
use mathlib.Core.Path.{◌≡◌, refl, sym, ◌∙◌, ap, subst}
use mathlib.Core.Bool.{Bool, true, false, not, cond}
use mathlib.Core.List.{List, [], ◌∷◌, ◌++◌}
use native.Mathlib.Omega.{arith}
use borrow.Author.Tests.{ltb-true, ltb-false, leb-true, eqb-true, eqb-false, lt-ltb, le-ltb, le-leb, not-true, not-false}
use lib.Dec.{ltb, leb, eqb}
use lib.ListN.{length}
use Rattle.lent.specs.Checks.{Check, check, answer, judge}
use Rattle.lent.specs.Lists.{all}
use Rattle.lent.proofs.Lists.{true≢false, not_so, all_true, true-all}
use Rattle.lent.proofs.Leasts.{lowest-least, none-least, none-test, test-none}
use Rattle.lent.proofs.Checks.{judge-append, judge-fires}
use Rattle.paper.specs.declared.sizes.Sizes.{Sizes}
use Rattle.paper.specs.declared.refusal.Refusal.{Refusal}
use Rattle.paper.specs.declared.refusal.Refusal.TheVariants.{NoSuchSlot, NoEmptySlot, BadScan, Disagrees, Differs, TooSmall, NotVersionOne}
use Rattle.paper.specs.Answers.{Opened, Ruled, Span, Found, Begun, Linked, StepAnswer, taken_in}
use Rattle.paper.specs.declared.job.Job.{Job}
use Rattle.paper.specs.declared.job.Step.TheVariants as step
use Rattle.paper.specs.declared.link.Link.{Link}
use Rattle.paper.specs.Refusals.{opened_says, listed_says, span_says, taken_says, asked_says, step_says}
use Rattle.paper.specs.Sizes.{sizes_of, version_of, capacity_of, home_of, start_of, room_of}
use Rattle.paper.specs.Index.{run_of, row_run, empty, shown_of, open_checks, open_of, Lies, Sound}
use Rattle.paper.specs.Scan.{starts_of, classes_of, headlen, datalen, class_in, ruled_of, of_ruled, class_of, data_of, Rule}
use Rattle.paper.specs.Look.{list_of, listed_of, no_slot, held_checks, slot_checks, other_scan, read_checks, found_of, show_of, read_of, InIndex}
use Rattle.paper.specs.Store.{blank_sizes, blank_tests, blank_checks, blank_of, records_for, free_at, free_place, empty_slot, place_for, keep_slot, reason_of, scan_checks, save_of, keep_of, clear_of, total_of}
use Rattle.paper.specs.Gaps.{gaps_zero, gaps_of}
use Rattle.paper.specs.Find.{find_of, report_of}
use Rattle.paper.specs.Step.{agrees, has_left, wrote_of, stands, confirmed, confirm_of, step_answer, Agreeing, Standing}
use Rattle.paper.specs.Convert.{other_magic, wide_run, convert_checks, convert_of}
use Rattle.paper.specs.Link.{fresh_link, took_link, row_short, finish_checks, begin_of, take_of, finish_of}
use Rattle.paper.proofs.Converting.{magic-facts, facts-magic, narrow-facts, facts-narrow, going-facts, facts-going}
use Rattle.paper.proofs.Forms.{one-facts, facts-one}
use Rattle.paper.proofs.Opening.{shaped-facts, facts-shaped, empty-facts, facts-empty, full-facts, facts-full, then-refused, then-opens, open-reads}
use Rattle.paper.proofs.Rules.{keeps-lengths}
use Rattle.paper.proofs.Reasons.{rule_of, rule-facts, facts-rule, reason-least, some-reason}
use Rattle.paper.proofs.Writes.{some-record}
use Rattle.paper.proofs.Agreement.{agreed, agreeing, stood, standing}
use Rattle.paper.proofs.Free.{FreeAt, facts-free, place-free, free-nobody}
use Rattle.paper.proofs.Begins.{slot-facts, facts-slot}
use Rattle.demands.specs.Causes.{Row, end, asks, only_if, OpenRow, HeldRow, SlotRow, RuleRow, VersionOne, ReadRow, FreeRun, Place, ScanRow, Vacant, StepRow, ConvertRow, LentRow, FinishRow, BlankRow}
use Rattle.demands.specs.Truth.{Told, RefusedExactly}
use Rattle.demands.proofs.Ordered.{Meets, one, at_least, each, nothing, asked-so, not_asked, told, index-row, size-row, look-row, open_row, change-row}

-- ---- 9, 10, 11, 13

slot-asks : (z : Sizes) (s : ℕ) {cs : List (Check Refusal)} {row : Row} → Meets cs row → Meets (no_slot z s ∷ cs) (asks (InIndex z s) NoSuchSlot row)
slot-asks z s k = one (λ t h. true≢false t (facts-slot z s h)) (slot-facts z s) (λ h. k)

held-row : (f : List ℕ) (s : ℕ) {ds : List (Check Refusal)} {row : Row} → Meets ds row → Meets (held_checks f s ++ ds) (HeldRow f s row)
held-row f s k =
    slot-asks (sizes_of f) s (one (λ t h. true≢false t (facts-full (run_of f (sizes_of f) s) h)) (full-facts (run_of f (sizes_of f) s)) (λ h. k))

slot_row : (f : List ℕ) (s : ℕ) {ds : List (Check Refusal)} {row : Row} → Meets ds row → Meets (slot_checks f s ++ ds) (SlotRow f s row)
slot_row f s k = open_row f (λ S. held-row f s k)

-- 18
one-asks : (f : List ℕ) (s : ℕ) {cs : List (Check Refusal)} {row : Row} → Meets cs row → Meets (other_scan f s ∷ cs) (asks (VersionOne f s) NotVersionOne row)
one-asks f s k =
    one (λ t h. true≢false (facts-one (version_of f) f (home_of (sizes_of f) s) h) (not-true _ t)) (λ t. one-facts (version_of f) f (home_of (sizes_of f) s) (not-false _ t)) (λ h. k)

-- the check of a scan's rules
abbrev rule_check : List ℕ → Bool → Check Refusal
rule_check scan saving = check (ltb 0 (reason_of (ruled_of scan saving))) (BadScan (reason_of (ruled_of scan saving)))

module _ (scan : List ℕ) (saving : Bool) where
  rule-row : {cs : List (Check Refusal)} {row : Row} → (((n : ℕ) → 1 ≤ n → n ≤ 6 → Rule scan saving n) → Meets cs row)
      → Meets (rule_check scan saving ∷ cs) (RuleRow scan saving row)
  rule-row {cs} {row} k =
      subst (λ (n : ℕ). Meets (check (ltb 0 n) (BadScan n) ∷ cs) (RuleRow scan saving row)) (sym (reason-least scan saving))
      (each (λ n. not (rule_of scan saving n)) 6 (λ n a b t h. true≢false (facts-rule scan saving n a b h) (not-true _ t))
      (λ n a b t. rule-facts scan saving n (not-false _ t)) k)

  -- what is asked of a scan, as checks
  ruled-judge : (k : ℕ → ℕ → Span) → of_ruled k (ruled_of scan saving) ≡ judge Err (rule_check scan saving ∷ []) (k (headlen scan) (datalen scan))
  ruled-judge k = go (ruled_of scan saving) refl
    where
      go : (x : Ruled) → ruled_of scan saving ≡ x
          → of_ruled k x ≡ judge Err (check (ltb 0 (reason_of x)) (BadScan (reason_of x)) ∷ []) (k (headlen scan) (datalen scan))
      go (Ok (head, rest)) e = let l = keeps-lengths e in rw (l.head_is, l.rest_is) refl
      go (Err n) e = rw (lt-ltb 0 n (some-reason scan saving e)) refl

-- 13: a place, in plain facts
module _ (f scan : List ℕ) (S : Sound f (sizes_of f)) (long : 256 ≤ length scan) where
  abbrev z : Sizes
  z = sizes_of f

  abbrev K : ℕ
  K = records_for z (length scan)

  K₁ : 1 ≤ K
  K₁ = some-record z.l (length scan) (omega (arith, S.booted.ranged.shape.l_low)) (omega arith)

  pub run-free : (r : ℕ) → FreeRun f (sizes_of f) (records_for (sizes_of f) (length scan)) r → FreeAt (sizes_of f) (length f) (run_of f (sizes_of f)) (records_for (sizes_of f) (length scan)) r
  run-free r h =
      record {
        past = h.past;
        within = h.within;
        alone = λ s a b c.
            let l : Lies z (run_of f z s) = S.laid.inside s a b in
            let k = K₁ in
            let m : (run_of f z s).first ≤ (run_of f z s).last = l.order (omega (arith, c.right)) in
            h.alone s (max r (run_of f z s).first) a b (omega arith) (omega (arith, c.after)) (omega arith) (omega (arith, c.before));
      }

  pub free-run : (r : ℕ) → FreeAt (sizes_of f) (length f) (run_of f (sizes_of f)) (records_for (sizes_of f) (length scan)) r → FreeRun f (sizes_of f) (records_for (sizes_of f) (length scan)) r
  free-run r F =
      record { past = F.past; within = F.within; alone = λ s q a b. free-nobody F S.laid s q a (omega (arith, S.booted.ranged.used)) }

  no_place : place_for f (length scan) ≡ 0 → Place f scan → ⊥
  unfolding free_place
  no_place e p =
      let k = K₁ in
      let h = p.free in
      let quiet = (none-least {p = free_at z (length f) (run_of f z) K} {n = room_of z (length f)} e).none in
      true≢false (facts-free z (length f) (run_of f z) K p.at (run-free p.at h)) (quiet p.at (omega (arith, h.past)) (omega (arith, h.within)))

  some-place : (place_for f (length scan) ≡ 0 → ⊥) → Place f scan
  some-place ne = record { at = place_for f (length scan); free = free-run (place_for f (length scan)) (place-free z (length f) (run_of f z) K ne) }

scan-row : (f scan : List ℕ) → Sound f (sizes_of f) → Meets (scan_checks f scan) (ScanRow f scan)
scan-row f scan S =
    rule-row scan true
    (λ h.
    let long : 256 ≤ length scan = (h 1 (omega arith) (omega arith)).0 in
    one (λ t. no_place f scan S long (eqb-true _ _ t)) (λ t. some-place f scan S long (eqb-false _ _ t)) (λ h. nothing))

-- 12: an empty slot
module _ (f : List ℕ) where
  no-vacant : keep_slot f ≡ 0 → Vacant f → ⊥
  unfolding empty_slot
  no-vacant e v =
      let quiet = (none-least {p = λ s. empty (run_of f (sizes_of f) s)} {n = capacity_of (sizes_of f)} e).none in
      true≢false (facts-empty (run_of f (sizes_of f) v.slot) v.empty) (quiet v.slot v.slotted.low v.slotted.high)

  some-vacant : (keep_slot f ≡ 0 → ⊥) → Vacant f
  unfolding empty_slot
  some-vacant ne =
      let l = lowest-least {p = λ s. empty (run_of f (sizes_of f) s)} {n = capacity_of (sizes_of f)} {k = keep_slot f} refl (omega arith) in
      record { slot = keep_slot f; slotted = record { low = l.low; high = l.high }; empty = empty-facts (run_of f (sizes_of f) (keep_slot f)) l.takes }

  keep-asks : {cs : List (Check Refusal)} {row : Row} → Meets cs row → Meets (check (eqb (keep_slot f) 0) NoEmptySlot ∷ cs) (asks (Vacant f) NoEmptySlot row)
  keep-asks k = one (λ t. no-vacant (eqb-true (keep_slot f) 0 t)) (λ t. some-vacant (eqb-false (keep_slot f) 0 t)) (λ h. k)

-- 17 of three numbers for each of so many
room_row : (out : List ℕ) (n : ℕ) → Meets (check (ltb (length out) (3 * n)) TooSmall ∷ []) (asks (3 * n ≤ length out) TooSmall end)
room_row out n = at_least (length out) (3 * n) (λ h. nothing)

-- 16
blank-row : (f : List ℕ) (n l m : ℕ) → Meets (blank_checks f (blank_sizes n l m)) (BlankRow f n l m)
blank-row f n l m =
    let z : Sizes = blank_sizes n l m in
    one (λ t h. true≢false (true-all (blank_tests (length f) z) (facts-shaped z h.shape, (le-leb _ _ h.fits, tt))) (not-true _ t))
    (λ t.
    let a = all_true (blank_tests (length f) z) (not-false _ t) in
    record { shape = shaped-facts z a.0; fits = leb-true _ _ a.1.0 })
    (λ h. nothing)

-- 17 of a conversion, then 19's causes
convert-row : (v : ℕ) (f out : List ℕ) → Meets (convert_checks v f out) (ConvertRow v f out)
convert-row v f out =
    let z : Sizes = sizes_of f in
    open_row f
    (λ S.
    at_least (length out) (z.n * z.l)
    (λ fits.
    one (λ t h. h (eqb-true z.version v t)) (λ t. eqb-false z.version v t)
    (λ other.
    one (λ t h. h (eqb-true z.kind 1 t)) (λ t. eqb-false z.kind 1 t)
    (λ kind.
    one
    (λ t h. true≢false t (none-test (other_magic f z) z.u (λ s a b m. true≢false m (facts-magic f z s (h s a b)))))
    (λ t s a b. magic-facts f z s (not_so (test-none (other_magic f z) z.u t s a b)))
    (λ magics.
    one (λ t h. true≢false t (facts-going v _ (λ e. le-ltb 32767 z.d (h e)))) (λ t e. ltb-false 32767 z.d (going-facts v _ t e))
    (λ few.
    one (λ t h. true≢false t (facts-going v _ (λ e. le-ltb 65535 z.counter (h e)))) (λ t e. ltb-false 65535 z.counter (going-facts v _ t e))
    (λ counted.
    one
    (λ t h. true≢false t (facts-going v _ (λ e. none-test (wide_run (run_of f z)) z.u (λ s a b m. true≢false m (facts-narrow (run_of f z) s (h e s a b))))))
    (λ t e s a b. narrow-facts (run_of f z) s (not_so (test-none (wide_run (run_of f z)) z.u (going-facts v _ t e) s a b)))
    (λ narrow. nothing))))))))

-- 17 of a row for a link, and what finish asks for
lent_row : (row : List ℕ) → Meets (row_short row ∷ []) (LentRow row end)
lent_row row = at_least (length row) 8192 (λ h. nothing)

finish-row : (k : Link) (row : List ℕ) → Meets (finish_checks k row) (FinishRow k row)
finish-row k row =
    let z : Sizes = sizes_of k.boot in
    at_least (length row) 8192
    (λ enough.
    at_least k.span 512
    (λ long.
    at_least k.came 32
    (λ begins.
    size-row k.span z (λ known range held. at_least k.came (z.n * z.l) (λ whole. index-row z (row_run row) (λ laid. nothing))))))

-- ---- a scan's classes and data

ruled-told : (s : List ℕ) (k : ℕ → ℕ → Span) → ((a b : ℕ) → (span_says (k a b)).number ≡ 0) → Told (span_says (of_ruled k (ruled_of s false))) (RuleRow s false end)
ruled-told s k grants =
    subst (λ (x : Span). Told (span_says x) (RuleRow s false end)) (sym (ruled-judge s false k))
    (told span_says Err (k (headlen s) (datalen s)) (λ r. refl) (grants (headlen s) (datalen s)) (rule-row s false (λ h. nothing)))

part_says : (t : Bool) (a b c d : ℕ) → (span_says (cond t (Ok (a, b)) (Ok (c, d)))).number ≡ 0
part_says true a b c d = refl
part_says false a b c d = refl

class-says : (s : List ℕ) (number head : ℕ) → (span_says (class_in (starts_of s) (classes_of s) head number)).number ≡ 0
unfolding class_in
class-says s number head = part_says (all (leb 1 number ∷ leb number (classes_of s) ∷ [])) _ _ _ _

-- a read: the slot's checks and 18, then the rules
read_told : (f : List ℕ) (s : ℕ) → Told (span_says (read_of f s)) (ReadRow f s)
unfolding read_of
read_told f s =
    let from : ℕ = start_of (sizes_of f) (run_of f (sizes_of f) s).first in
    let shown : List ℕ = shown_of f (sizes_of f) s in
    let k : ℕ → ℕ → Span = λ head rest. Ok (from, from + (head + rest)) in
    subst (λ (x : Span). Told (span_says x) (ReadRow f s))
    (judge-append Err (read_checks f s) (rule_check shown false ∷ []) (k (headlen shown) (datalen shown))
    ∙ ap (judge Err (read_checks f s)) (sym (ruled-judge shown false k)))
    (told span_says Err (k (headlen shown) (datalen shown)) (λ r. refl) refl (slot_row f s (one-asks f s (rule-row shown false (λ h. nothing)))))

-- ---- a step

confirm-says : (b : Bool) (w : ℕ) → (step_says (cond b (Ok (step.Saved 0 w)) (Ok (step.Cleared 0 w)))).number ≡ 0
confirm-says true w = refl
confirm-says false w = refl

module _ (f scan : List ℕ) (j : Job) where
  abbrev ds : List (Check Refusal)
  ds = check (not (stands f scan j (sizes_of f))) Differs ∷ []

  -- the confirming step's judgement, as checks
  confirm-judge : (o : Opened) → open_of f ≡ o → confirm_of f scan j o ≡ judge Err (open_checks f ++ ds) (confirmed j)
  confirm-judge (Err q) e = sym (judge-fires Err (open_checks f ++ ds) (confirmed j) q (then-refused f ds e))
  confirm-judge (Ok z) e =
      subst (λ (y : Sizes). confirm_of f scan j (Ok y) ≡ judge Err ds (confirmed j)) (open-reads f e) (go (stands f scan j (sizes_of f)))
      ∙ ap (answer Err (confirmed j)) (sym (then-opens f ds e))
    where
      go : (b : Bool) → cond b (confirmed j) (Err Differs) ≡ judge Err (check (not b) Differs ∷ []) (confirmed j)
      go true = refl
      go false = refl

  stand-row : Meets (open_checks f ++ ds) (OpenRow f (asks (Standing f scan j (sizes_of f)) Differs end))
  stand-row =
      open_row f
      (λ S.
      one (λ t h. true≢false (standing f scan j (sizes_of f) h) (not-true _ t)) (λ t. stood f scan j (sizes_of f) (not-false _ t)) (λ h. nothing))

  -- the checks of a step, by whether a write is left
  abbrev left-checks : Bool → List (Check Refusal)
  left-checks true = []
  left-checks false = open_checks f ++ ds

  agree-row : (left : Bool) → has_left (sizes_of f) j ≡ left → Meets (check (not (agrees f scan j)) Disagrees ∷ left-checks left) (StepRow f scan j)
  agree-row left q =
      one (λ t h. true≢false (agreeing f scan j (sizes_of f) h) (not-true _ t)) (λ t. agreed f scan j (not-false _ t)) (λ a. go left q a)
    where
      go : (left : Bool) → has_left (sizes_of f) j ≡ left → Agreeing f scan j (sizes_of f)
          → Meets (left-checks left) (only_if (j.written ≡ total_of (sizes_of f) j) (OpenRow f (asks (Standing f scan j (sizes_of f)) Differs end)))
      go true q a = not_asked (λ e. omega (arith, ltb-true j.written (total_of (sizes_of f) j) q))
      go false q a = asked-so (omega (arith, ltb-false j.written (total_of (sizes_of f) j) q, a.left)) stand-row

  step-told : (a left : Bool) → agrees f scan j ≡ a → has_left (sizes_of f) j ≡ left
      → Told (step_says (cond a (cond left (wrote_of f (sizes_of f) scan j) (confirm_of f scan j (open_of f))) (Err Disagrees))) (StepRow f scan j)
  step-told a true p q =
      subst (λ (b : Bool). Told (step_says (cond b (wrote_of f (sizes_of f) scan j) (Err Disagrees))) (StepRow f scan j)) p
      (subst (λ (x : StepAnswer). Told (step_says x) (StepRow f scan j)) (go (agrees f scan j))
      (told step_says Err (wrote_of f (sizes_of f) scan j) (λ r. refl) refl (agree-row true q)))
    where
      go : (b : Bool) → judge Err (check (not b) Disagrees ∷ []) (wrote_of f (sizes_of f) scan j) ≡ cond b (wrote_of f (sizes_of f) scan j) (Err Disagrees)
      go true = refl
      go false = refl
  step-told a false p q =
      subst (λ (b : Bool). Told (step_says (cond b (confirm_of f scan j (open_of f)) (Err Disagrees))) (StepRow f scan j)) p
      (subst (λ (x : StepAnswer). Told (step_says x) (StepRow f scan j)) (go (agrees f scan j))
      (told step_says Err (confirmed j) (λ r. refl) (confirm-says j.saves j.written) (agree-row false q)))
    where
      go : (b : Bool) → judge Err (check (not b) Disagrees ∷ (open_checks f ++ ds)) (confirmed j) ≡ cond b (confirm_of f scan j (open_of f)) (Err Disagrees)
      go true = sym (confirm-judge (open_of f) refl)
      go false = refl

-- ---- every call

pub refused-exactly : RefusedExactly
unfolding open_of gaps_of listed_of report_of found_of show_of read_of class_of data_of save_of keep_of clear_of step_answer blank_of convert_of begin_of take_of finish_of
refused-exactly =
    record {
      open_file = λ f. told opened_says Err (Ok (sizes_of f)) (λ r. refl) refl (open_row f (λ S. nothing));
      gaps = λ f. told asked_says Err (Ok (gaps_zero f (sizes_of f))) (λ r. refl) refl (open_row f (λ S. nothing));
      list = λ f out. told listed_says Err (Ok (length (list_of f))) (λ r. refl) refl (open_row f (λ S. room_row out (length (list_of f))));
      find = λ f out. told listed_says Err (Ok (length (find_of f (sizes_of f)))) (λ r. refl) refl (look-row f (room_row out (length (find_of f (sizes_of f)))));
      entry = λ f s. told (λ (x : Found). taken_says (taken_in x)) _ _ (λ r. refl) refl (slot_row f s nothing);
      show = λ f s. told span_says Err _ (λ r. refl) refl (slot_row f s nothing);
      read = λ f s. read_told f s;
      class = λ s n. ruled-told s _ (λ a b. class-says s n a);
      rest = λ s. ruled-told s _ (λ a b. refl);
      save_scan = λ f slot scan about.
          told (λ (b : Begun). taken_says (taken_in b)) Err _ (λ r. refl) refl (change-row f (λ S. slot-asks (sizes_of f) slot (scan-row f scan S)));
      keep_scan = λ f scan about.
          told (λ (b : Begun). taken_says (taken_in b)) Err _ (λ r. refl) refl (change-row f (λ S. keep-asks f (scan-row f scan S)));
      clear_slot = λ f slot. told (λ (b : Begun). taken_says (taken_in b)) Err _ (λ r. refl) refl (change-row f (λ S. held-row f slot nothing));
      step-job = λ f scan j. step-told f scan j (agrees f scan j) (has_left (sizes_of f) j) refl refl;
      blank = λ f n l m. told taken_says Err (Ok tt) (λ r. refl) refl (blank-row f n l m);
      convert = λ v f out. told taken_says Err (Ok tt) (λ r. refl) refl (convert-row v f out);
      link_begin = λ len row. told (λ (x : Linked). taken_says (taken_in x)) Err (Ok (fresh_link len)) (λ r. refl) refl (lent_row row);
      link_take = λ k p row. told (λ (x : Linked). taken_says (taken_in x)) Err (Ok (took_link k p)) (λ r. refl) refl (lent_row row);
      link_finish = λ k row. told opened_says Err (Ok (sizes_of k.boot)) (λ r. refl) refl (finish-row k row);
    }
