-- Demand 2, of a beginning, and of what record 1 says along a job.
use Rattle.std.specs.Prelude.{Ok}
use Prim.Native.Nat.{ℕ, suc, ◌+◌, ◌-◌, ◌%◌, ◌≤◌, ◌<◌, max}
use mathlib.Core.Path.{◌≡◌, refl, sym, ◌∙◌, ap, subst}
use mathlib.Core.Bool.{Bool, true, false, not, cond}
use mathlib.Core.List.{List}
use mathlib.Core.Logic.{◌≢◌, ⊎_elim}
use native.Mathlib.Omega.{arith}
use borrow.Author.Tests.{eq-eqb, ne_eqb, not-true, not-false}
use lib.ListN.{length}
use Rattle.lent.specs.Least.{Lowest}
use Rattle.lent.specs.Write.{zeros}
use Rattle.lent.proofs.Leasts.{lowest-least}
use Rattle.lent.proofs.Greatests.{greatest-highest}
use Rattle.lent.proofs.Lists.{lt-or-ge, true≢false}
use Rattle.paper.specs.declared.sizes.Sizes.{Sizes}
use Rattle.paper.specs.declared.sizes.Run.{Run}
use Rattle.paper.specs.declared.job.Job.{Job}
use Rattle.paper.specs.Answers.{Begun}
use Rattle.paper.specs.Sizes.{sizes_of, renewed, capacity_of, room_of}
use Rattle.paper.specs.Index.{run_of, empty, Full, open_of, Lies}
use Rattle.paper.specs.Look.{InIndex}
use Rattle.paper.specs.Store.{records_for, free_at, free_place, empty_slot, highest, many_of, place_for, save_job, clear_job, keep_slot, save_of, keep_of, clear_of, count_of, counter_after, sizes_after, entry_after, change_of, job_in}
use Rattle.paper.proofs.Opening.{empty-facts, full-facts, inside-all, open-sound, sound-open}
use Rattle.paper.proofs.Rules.{keeps-lengths}
use Rattle.paper.proofs.Encoding.{stated_by, zeros-state}
use Rattle.paper.proofs.Free.{facts-free, place-free}
use Rattle.paper.proofs.Used.{highest-above, full-highest, highest-is, highest-kept}
use Rattle.paper.proofs.Begins.{Placed, save-taken, taken-save, keep_taken, taken-keep, keep-slotted, clear-is-taken, taken-is-clear}
use Rattle.paper.proofs.Ready.{Ready, file_at, rows-sound, boot-sound, end-sound, end-run, end-runs, end-keeps, last-sound, last-used}
use Rattle.demands.specs.Causes.{FreeRun}
use Rattle.demands.specs.History.{Op, save, keep, clear, begin, scan_of, lowers_by, takes, State, state_after}
use Rattle.demands.specs.Begun.{Carries, SaveJob, LowestEmpty, ClearJob, Begins, grown, left_below, lowered, RecordOne}
use Rattle.demands.proofs.Start.{Starts, starts, accepts, steps-are}
use Rattle.demands.proofs.Refusing.{run-free, free-run}

-- the place is the lowest of those that are free
place-lowest : (f scan : List ℕ) → open_of f ≡ Ok (sizes_of f) → 256 ≤ length scan → (place_for f (length scan) ≡ 0 → ⊥)
    → (r : ℕ) → FreeRun f (sizes_of f) (records_for (sizes_of f) (length scan)) r → place_for f (length scan) ≤ r
unfolding free_place
place-lowest f scan o long ne r h =
    let z : Sizes = sizes_of f in
    let K : ℕ = records_for z (length scan) in
    let l : Lowest (free_at z (length f) (run_of f z) K) (room_of z (length f)) (place_for f (length scan)) = lowest-least refl (omega arith) in
    ⊎_elim (λ (a : r < place_for f (length scan)).
    absurd (true≢false (facts-free z (length f) (run_of f z) K r (run-free f scan (open-sound o) long r h)) (l.below r (omega (arith, h.past)) a)))
    (λ (a : place_for f (length scan) ≤ r). a) (lt-or-ge r (place_for f (length scan)))

-- the old run, as a job of either kind has it
carries : (run : Run) (z : Sizes) → Lies z run → (j : Job) → j.old ≡ run.first → j.many ≡ many_of run → Carries run j
carries run z l j p q =
    record { held = λ h. (p, omega (arith, l.low h, l.order h)); nothing = λ h. (omega arith, omega arith) }

save-job-is : (f : List ℕ) (slot : ℕ) (scan about : List ℕ) → open_of f ≡ Ok (sizes_of f) → InIndex (sizes_of f) slot → Placed f scan → SaveJob f slot scan about (save_job f slot scan about)
save-job-is f slot scan about o i p =
    let long = (keeps-lengths p.keeps).long in
    record {
      fresh = record { slot_is = refl; size_is = refl; span_is = refl; none_written = refl; begun_on = refl };
      saves = refl;
      no_third = refl;
      carries = carries (run_of f (sizes_of f) slot) (sizes_of f) (inside-all (open-sound o).laid slot i.low i.high) (save_job f slot scan about) refl refl;
      about_is = refl;
      free =
          free-run f scan (open-sound o) long (place_for f (length scan))
          (place-free (sizes_of f) (length f) (run_of f (sizes_of f)) (records_for (sizes_of f) (length scan)) p.found);
      lowest = place-lowest f scan o long p.found;
    }

lowest-empty : (f : List ℕ) → (keep_slot f ≡ 0 → ⊥) → LowestEmpty f (keep_slot f)
unfolding empty_slot
lowest-empty f ne =
    let z : Sizes = sizes_of f in
    let l : Lowest (λ s. empty (run_of f z s)) (capacity_of z) (keep_slot f) = lowest-least refl (omega arith) in
    record {
      slotted = keep-slotted f ne;
      empty = empty-facts (run_of f z (keep_slot f)) l.takes;
      below = λ t a b. full-facts (run_of f z t) (l.below t a b);
    }

pub begins : Begins
begins =
    record {
      save-job = λ f slot scan about e.
          let t = save-taken f slot scan about e in
          subst (λ (b : Begun). SaveJob f slot scan about (job_in b)) (sym (taken-save f slot scan about t)) (save-job-is f slot scan about (sound-open t.may.sound) t.slotted t.placed);
      keep_job = λ f scan about e.
          let t = keep_taken f scan about e in
          subst (λ (b : Begun). SaveJob f (job_in b).slot scan about (job_in b) × LowestEmpty f (job_in b).slot) (sym (taken-keep f scan about t))
          (save-job-is f (keep_slot f) scan about (sound-open t.may.sound) (keep-slotted f t.slotted) t.placed, lowest-empty f t.slotted);
      clear-job = λ f slot e.
          let t = clear-is-taken f slot e in
          subst (λ (b : Begun). ClearJob f slot (job_in b)) (sym (taken-is-clear f slot t))
          (record {
            fresh = record { slot_is = refl; size_is = refl; span_is = refl; none_written = refl; begun_on = refl };
            clears = refl;
            no_place = refl;
            no_about = refl;
            third = λ n. eq-eqb slot (highest f (sizes_of f)) (sym (highest-is f (sizes_of f) slot t.slotted.high (λ h. t.full) n));
            no_third = λ s a b h. ne_eqb slot (highest f (sizes_of f)) (λ q. omega (arith, full-highest f (sizes_of f) s b h));
            carries = carries (run_of f (sizes_of f) slot) (sizes_of f) (inside-all t.may.sound.laid slot t.slotted.low t.slotted.high) (clear_job f slot) refl refl;
          });
    }

-- ---- record 1

-- by its job: what record 1 first says
abbrev grown_by : List ℕ → Sizes → ℕ → Job → Sizes
grown_by f z d j = renewed z d (max (highest f z) j.slot) ((z.counter + 1) % 4294967296)

sizes-are : (f : List ℕ) (z : Sizes) (op : Op) → takes f op ≡ true → sizes_after f z (job_in (begin f op)) ≡ grown f z op
sizes-are f z (save slot scan about) e =
    let t = save-taken f slot scan about (accepts (save_of f slot scan about) e) in
    subst (λ (b : Begun). sizes_after f z (job_in b) ≡ grown_by f z (max z.d ((job_in b).first + records_for z (length scan) - 1 - z.n)) (job_in b))
    (sym (taken-save f slot scan about t)) refl
sizes-are f z (keep scan about) e =
    let t = keep_taken f scan about (accepts (keep_of f scan about) e) in
    subst (λ (b : Begun). sizes_after f z (job_in b) ≡ grown_by f z (max z.d ((job_in b).first + records_for z (length scan) - 1 - z.n)) (job_in b))
    (sym (taken-keep f scan about t)) refl
sizes-are f z (clear slot) e =
    let t = clear-is-taken f slot (accepts (clear_of f slot) e) in
    subst (λ (b : Begun). sizes_after f z (job_in b) ≡ grown_by f z z.d (job_in b)) (sym (taken-is-clear f slot t)) refl

module _ {f : List ℕ} {z : Sizes} {op : Op} (B : Starts z f op (job_in (begin f op))) (t : takes f op ≡ true) where
  abbrev j : Job
  j = job_in (begin f op)

  abbrev F : ℕ → List ℕ
  F i = file_at f (scan_of op) j i

  Y : Ready z f (scan_of op) j
  Y = B.begins.ready

  -- an entry of the file after the index write that the file had, or the one that the clear wrote
  abbrev Bare : ℕ → Type 0
  Bare s = (run_of (F (suc (suc (count_of z j)))) z s).first + (run_of (F (suc (suc (count_of z j)))) z s).last ≡ 0

  bare-other : (s : ℕ) → 1 ≤ s → s ≤ capacity_of z → s ≢ j.slot → (run_of f z s).first + (run_of f z s).last ≡ 0 → Bare s
  bare-other s a b ne h = subst (λ (r : Run). r.first + r.last ≡ 0) (sym (end-runs Y s a b ne)) h

  bare-own : entry_after z j ≡ zeros z.m → Bare j.slot
  bare-own e = ap (λ (r : Run). r.first + r.last) (end-run Y ∙ ap stated_by e ∙ zeros-state z.m)

  -- where U is lowered: the highest scan below the one cleared, in the file that the clear was begun on
  what-is-left : lowers_by f z op ≡ true → highest (F (suc (suc (count_of z j)))) z ≡ left_below f z j.slot
  what-is-left l =
      let k : ℕ = left_below f z j.slot in
      let q = greatest-highest (λ s. not (empty (run_of f z s))) (j.slot - 1) in
      let c : (1 ≤ j.slot) × (j.slot ≤ capacity_of z) = (Y.low, Y.high) in
      highest-is (F (suc (suc (count_of z j)))) z k (omega (arith, q.high))
      (λ h.
      subst (λ (r : Run). Full r) (sym (end-runs Y k h (omega (arith, q.high)) (λ e. omega (arith, q.high))))
      (full-facts (run_of f z k) (not-true _ (q.takes h))))
      (λ s a b.
      ⊎_elim
      (λ (x : s < j.slot). bare-other s (omega arith) b (λ e. omega arith) (empty-facts (run_of f z s) (not-false _ (q.above s a (omega arith)))))
      (λ (x : j.slot ≤ s).
      ⊎_elim
      (λ (y : j.slot < s). bare-other s (omega arith) b (λ e. omega arith) (highest-above f z s (omega (arith, (B.top l).0)) b))
      (λ (y : s ≤ j.slot). let e : s ≡ j.slot = omega arith in rw e (bare-own (B.top l).1))
      (lt-or-ge j.slot s))
      (lt-or-ge s j.slot))

  sizes-after : (i : ℕ) → count_of z j < i → i ≤ count_of z j + 2 → sizes_of (F i) ≡ sizes_after f z j
  sizes-after i a b =
      ⊎_elim (λ (h : i < count_of z j + 2). let e : i ≡ suc (count_of z j) = omega arith in rw e (boot-sound Y).booted.reads)
      (λ (h : count_of z j + 2 ≤ i). let e : i ≡ suc (suc (count_of z j)) = omega arith in rw e (end-sound Y).booted.reads)
      (lt-or-ge i (count_of z j + 2))

  sizes-ended : (b : Bool) → lowers_by f z op ≡ b → (i : ℕ) → change_of z j ≤ i → sizes_of (F i) ≡ cond b (lowered f z op) (grown f z op)
  sizes-ended true e i h =
      let g = sizes-are f z op t in
      (last-sound Y i h).booted.reads
      ∙ ap (λ (u : ℕ). renewed z (sizes_after f z j).d u (counter_after z)) (highest-kept (end-keeps Y i (omega arith)) ∙ what-is-left e)
      ∙ ap (λ (y : Sizes). renewed z y.d (left_below f z j.slot) y.counter) g
  sizes-ended false e i h =
      (last-sound Y i h).booted.reads
      ∙ ap (λ (u : ℕ). renewed z (sizes_after f z j).d u (counter_after z)) (last-used Y i (omega arith) (B.lowers ∙ e)) ∙ sizes-are f z op t

pub record-one : RecordOne
record-one f z o op w t =
    let B : Starts z f op (job_in (begin f op)) = starts f z o op w t in
    let file : (i : ℕ) → (state_after f op i).file ≡ file_at f (scan_of op) (job_in (begin f op)) i = λ i. ap (λ (s : State). s.file) (steps-are B.begins i) in
    record {
      before = λ i h. ap sizes_of (file i) ∙ (rows-sound B.begins.ready i (omega (arith, B.count))).booted.reads;
      after = λ i a b. ap sizes_of (file i) ∙ sizes-after B t i (omega (arith, B.count)) (omega (arith, B.count)) ∙ sizes-are f z op t;
      ended = λ i h. ap sizes_of (file i) ∙ sizes-ended B t (lowers_by f z op) refl i (omega (arith, B.change));
    }
