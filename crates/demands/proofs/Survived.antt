-- Demand 3 holds.
use Rattle.std.specs.Prelude.{Ok}
use Prim.Native.Nat.{ℕ, ◌+◌, ◌-◌, ◌*◌, ◌≤◌, ◌<◌}
use mathlib.Core.Path.{◌≡◌, refl, sym, ◌∙◌, ap, subst}
use mathlib.Core.Bool.{true, false, not}
use mathlib.Core.List.{List, [], ◌∷◌}
use mathlib.Core.Logic.{⊎_elim}
use native.Mathlib.Omega.{arith}
use borrow.Author.Tests.{le-leb}
use lib.Dec.{leb}
use lib.ListN.{length, get_or}
use Rattle.lent.specs.Lists.{those, also}
use Rattle.lent.proofs.Lists.{true≢false, true-also, lt-or-ge, those-same}
use Rattle.lent.proofs.Parts.{length_part}
use Rattle.paper.specs.declared.sizes.Sizes.{Sizes}
use Rattle.paper.specs.declared.sizes.Run.{Run}
use Rattle.paper.specs.declared.job.Job.{Job}
use Rattle.paper.specs.declared.job.Step.TheVariants.{Wrote}
use Rattle.paper.specs.Sizes.{capacity_of, record_of, start_of}
use Rattle.paper.specs.Index.{run_of, empty, Full, shown_of, slots_of, open_of, Lies, Sound}
use Rattle.paper.specs.Look.{list_of}
use Rattle.paper.specs.Store.{Write, total_of, writes_of, job_in}
use Rattle.paper.specs.Step.{is_confirmed, no_write, step_answer}
use Rattle.paper.proofs.Sizing.{less, times}
use Rattle.paper.proofs.Opening.{facts-empty, facts-full, inside-all, slots-all, lies-end, sound-open, open-reads}
use Rattle.paper.proofs.Writes.{change-lowers, writes-row, writes-boot, writes-entry, writes_lower, writes-zero}
use Rattle.paper.proofs.Ready.{file_at}
use Rattle.paper.proofs.Stages.{job_at, sizes_at, stage-wrote, stage-confirms}
use Rattle.demands.specs.History.{Op, Whole, begin, scan_of, records_of, changes_by, writes_by, slot_of, takes, State, answer_after, reached, held_at, Holding, Held, holds}
use Rattle.demands.specs.Survival.{some, PowerCut, confirmed, Confirmed, Answers, Confirms}
use Rattle.demands.proofs.Start.{Starts, starts, total-is, steps-are}
use Rattle.demands.proofs.Histories.{history}

-- ---- the list

some-true : (xs : List ℕ) → 0 < length xs → some xs ≡ true
some-true [] h = absurd (omega arith)
some-true (x ∷ xs) h = refl

some-false : (xs : List ℕ) → length xs ≡ 0 → some xs ≡ false
some-false [] h = refl
some-false (x ∷ xs) h = absurd (omega arith)

-- a slot shows some bytes exactly where its entry is not empty
shown-some : {f : List ℕ} {z : Sizes} → Sound f z → (s : ℕ) → 1 ≤ s → s ≤ capacity_of z → not (empty (run_of f z s)) ≡ some (shown_of f z s)
shown-some {f} {z} S s a b =
    let r : Run = run_of f z s in
    let h : Lies z r = inside-all S.laid s a b in
    let len : length (shown_of f z s) ≡ r.last * z.l - start_of z r.first = length_part (start_of z r.first) (r.last * z.l) f (lies-end S.booted h) in
    ⊎_elim
    (λ (k : Full r).
    ap not (facts-full r k)
    ∙ sym (some-true (shown_of f z s) (omega (arith, len, less r.first z.l (omega (arith, h.low k)), times r.first r.last z.l (h.order k), S.booted.ranged.shape.l_low))))
    (λ (k : r.first + r.last ≤ 0).
    let e : r.last ≡ 0 = omega arith in
    ap not (facts-empty r (omega arith)) ∙ sym (some-false (shown_of f z s) (omega (arith, len, ap (λ (x : ℕ). x * z.l) e))))
    (lt-or-ge 0 (r.first + r.last))

list-is : {g : List ℕ} {z : Sizes} → Sound g z → (h : Holding) → ((t : ℕ) → 1 ≤ t → t ≤ capacity_of z → held_at g z t ≡ h t)
    → list_of g ≡ those (λ s. some (h s).records) (capacity_of z)
list-is {g} {z} S h e =
    subst (λ (y : Sizes). slots_of y (run_of g y) ≡ those (λ s. some (h s).records) (capacity_of z)) (sym S.booted.reads)
    (slots-all S.laid S.booted.ranged.used
    ∙ those-same (λ s. not (empty (run_of g z s))) (λ s. some (h s).records) (capacity_of z)
    (λ s a b. shown-some S s a b ∙ ap (λ (x : Held). some x.records) (e s a b)))

pub power-cut : PowerCut
power-cut f z o os w =
    let x = history os f z o w (held_at f z) (λ t a b. refl) in
    record {
      d = x.d;
      u = x.u;
      c = x.c;
      counts = x.counts;
      opens = sound-open x.sound;
      shows = x.shows;
      lists = list-is x.sound (holds f os (held_at f z)) x.shows;
    }

-- ---- the answers

module _ (f : List ℕ) (z : Sizes) (o : open_of f ≡ Ok z) (op : Op) (w : Whole op) (t : takes f op ≡ true) where
  abbrev j : Job
  j = job_in (begin f op)

  B : Starts z f op (job_in (begin f op))
  B = starts f z o op w t

  answer-is : (i : ℕ) → answer_after f op i ≡ step_answer (file_at f (scan_of op) j i) (scan_of op) (job_at z f (scan_of op) j i)
  answer-is i = ap (λ (s : State). step_answer s.file (scan_of op) s.job) (steps-are B.begins i)

  -- file and sizes as they stand after i steps
  abbrev F : ℕ → List ℕ
  F i = file_at f (scan_of op) j i

  abbrev y : ℕ → Sizes
  y i = sizes_at B.begins.ready B.begins.agreeing i

  wrote : (i : ℕ) → i < writes_by f z op → answer_after f op i ≡ Ok (Wrote (get_or (writes_of (F i) (y i) j (scan_of op)) i no_write).record_no (i + 1))
  wrote i h = answer-is i ∙ stage-wrote B.begins.ready B.begins.agreeing i (omega (arith, total-is B))

  at : (i : ℕ) (x : Write) → i < writes_by f z op → get_or (writes_of (F i) (y i) j (scan_of op)) i no_write ≡ x → answer_after f op i ≡ Ok (Wrote x.record_no (i + 1))
  at i x h e = wrote i h ∙ ap (λ (y : Write). Ok (Wrote y.record_no (i + 1))) e

  confirms : (i : ℕ) → writes_by f z op ≤ i → answer_after f op i ≡ confirmed op (writes_by f z op)
  confirms i h =
      answer-is i ∙ stage-confirms B.begins.ready B.begins.agreeing i (omega (arith, total-is B)) ∙ B.confirms (total_of z j) ∙ ap (confirmed op) (total-is B)

  answers : Answers f z op
  answers =
      let k = B.count in
      let e : records_of z op + 1 + 1 ≡ records_of z op + 2 = omega arith in
      let m : records_of z op + 2 + 1 ≡ records_of z op + 3 = omega arith in
      record {
        rows = λ i h. at i _ (omega arith) (writes-row (F i) (y i) j (scan_of op) i (omega (arith, B.count)));
        boot = at (records_of z op) _ (omega arith) (writes-boot (F (records_of z op)) (y (records_of z op)) j (scan_of op) (records_of z op) (omega arith));
        entry =
            at (records_of z op + 1) _ (omega arith) (writes-entry (F (records_of z op + 1)) (y (records_of z op + 1)) j (scan_of op) (records_of z op + 1) (omega arith))
            ∙ ap (λ (n : ℕ). Ok (Wrote (record_of z (slot_of f op)) n)) e;
        lower = λ t.
            at (records_of z op + 2) _ (omega (arith, B.change, change-lowers z j (B.lowers ∙ t)))
            (writes_lower (F (records_of z op + 2)) (y (records_of z op + 2)) j (scan_of op) (records_of z op + 2) (omega arith) (B.lowers ∙ t))
            ∙ ap (λ (n : ℕ). Ok (Wrote 1 n)) m;
        zeros = λ i h.
            let m : i < j.many = omega (arith, B.begins.ready.many_is) in
            at (changes_by f z op + i) _ (omega arith) (writes-zero (F (changes_by f z op + i)) (y (changes_by f z op + i)) j (scan_of op) (changes_by f z op + i) i (omega (arith, B.change)) m)
            ∙ ap (λ (r : ℕ). Ok (Wrote (r + i) (changes_by f z op + i + 1))) B.begins.ready.old-is;
        confirms = λ more. confirms (writes_by f z op + more) (omega arith);
      }

  -- what is confirmed has no write left
  pub not_yet : (i : ℕ) → is_confirmed (answer_after f op i) ≡ true → writes_by f z op ≤ i
  not_yet i d =
      ⊎_elim (λ (h : i < writes_by f z op). absurd (true≢false d (ap is_confirmed (wrote i h)))) (λ (h : writes_by f z op ≤ i). h)
      (lt-or-ge i (writes_by f z op))

pub confirms-each : Confirms
confirms-each f z o op w t = answers f z o op w t

pub confirmed-reached : Confirmed
unfolding reached
confirmed-reached f z o op w t i d =
    subst (λ (y : Sizes). also (takes f op) (leb (records_of y op + 2) i) ≡ true) (sym (open-reads f o))
    (true-also (takes f op) (leb (records_of z op + 2) i) t (le-leb (records_of z op + 2) i (omega (arith, not_yet f z o op w t i d))))
