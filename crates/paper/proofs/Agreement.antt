-- When job and file agree, in plain facts; and what a step comes to in each of its phases.
use Rattle.std.specs.Prelude.{Ok, Err}
use Prim.Native.Nat.{ℕ, ◌+◌, ◌-◌, ◌*◌, ◌≤◌, ◌<◌}
use mathlib.Core.Path.{◌≡◌, refl, sym, ◌∙◌, ap, subst}
use mathlib.Core.Bool.{Bool, true, false, cond}
use mathlib.Core.List.{List, []}
use native.Mathlib.Omega.{arith}
use borrow.Author.Tests.{lt-ltb, le-ltb, le-leb, eq-eqb, ne_eqb, ltb-true, leb-true, eqb-true}
use lib.ListN.{length, take, drop}
use lib.Seq.{take-take}
use Rattle.lent.specs.Checks.{Fired, clear, fires, fired}
use Rattle.lent.specs.Lists.{all}
use Rattle.lent.specs.Write.{write, zeros, pad}
use Rattle.lent.proofs.Lists.{all_true, true-all, true≢false, not_so, asked, answered}
use Rattle.lent.proofs.Sames.{same_true, true_same}
use Rattle.lent.proofs.Writes.{write-nothing, take-write}
use Rattle.paper.specs.declared.sizes.Sizes.{Sizes}
use Rattle.paper.specs.declared.refusal.Refusal.{Refusal}
use Rattle.paper.specs.declared.refusal.Refusal.TheVariants.{Disagrees}
use Rattle.paper.specs.declared.job.Job.{Job}
use Rattle.paper.specs.Answers.{StepAnswer}
use Rattle.paper.specs.declared.job.Step.TheVariants.{Wrote}
use Rattle.paper.specs.Sizes.{sizes_of, boot_bytes, record_of, start_of, home_of, room_of, version_of, change_boot}
use Rattle.paper.specs.Index.{open_of, Booted}
use Rattle.paper.specs.Store.{Write, perform, count_of, padded_of, sizes_after, entry_after, sizes_write, entry_write, lowers_of, lowered, change_of, total_of}
use Rattle.paper.specs.Step.{is_clear, agree_tests, agrees, write_at, has_left, step_file, placed, moved, step_job, stand_tests, stands, confirm_of, step_answer, stepped_of, Agreeing, Standing}
use Rattle.paper.proofs.Opening.{change-booted, booted-change}
use Rattle.paper.proofs.Sizing.{times, home-in}
use Rattle.paper.proofs.Encoding.{boot-there}
use Rattle.paper.proofs.Free.{room_in}
use Rattle.paper.proofs.Writes.{change-lowers, phases, writes-row, writes-boot, writes-entry, writes_lower, writes-zero, writes-past, row-saves, row_is}

-- refusals 1 to 5, as a fact and as a test
clear-booted : (f : List ℕ) → is_clear (fired (change_boot f)) ≡ true → Booted f (sizes_of f) × (version_of f ≡ 1)
clear-booted f e = change-booted f (clear-is (fired (change_boot f)) e)
  where
    clear-is : (x : Fired Refusal) → is_clear x ≡ true → x ≡ clear
    clear-is clear e = refl
    clear-is (fires r) e = absurd (true≢false e refl)

booted-clear : (f : List ℕ) (z : Sizes) → Booted f z → z.version ≡ 1 → is_clear (fired (change_boot f)) ≡ true
booted-clear f z b v = ap is_clear (booted-change f b (ap (λ (y : Sizes). y.version) b.reads ∙ v))

-- ---- 14

module _ (f scan : List ℕ) (j : Job) where
  pub agreed : agrees f scan j ≡ true → Agreeing f scan j (sizes_of f)
  unfolding agrees
  agreed e =
      let z : Sizes = sizes_of f in
      let t = all_true (agree_tests f scan j z) e in
      let u = t.1.1.1 in
      let v = u.1.1.1.1 in
      record {
        booted = (clear-booted f u.0).0;
        current = (clear-booted f u.0).1;
        size = eqb-true _ _ t.0;
        span = eqb-true _ _ t.1.0;
        begun = same_true _ _ t.1.1.0;
        filled = λ q. ltb-true _ _ (asked _ _ u.1.0 q);
        low = leb-true _ _ u.1.1.0;
        high = leb-true _ _ u.1.1.1.0;
        past = λ q. ltb-true _ _ (asked _ _ v.0 q);
        within = λ q. leb-true _ _ (asked _ _ v.1.0 q);
        left = leb-true _ _ v.1.1.0;
        old_past = λ q. ltb-true _ _ (asked _ _ v.1.1.1.0 (lt-ltb _ _ q));
        old_within = λ q. leb-true _ _ (asked _ _ v.1.1.1.1.0 (lt-ltb _ _ q));
      }

  pub agreeing : (z : Sizes) → Agreeing f scan j z → agrees f scan j ≡ true
  unfolding agrees
  agreeing z a =
      let e : sizes_of f ≡ z = a.booted.reads in
      subst (λ (y : Sizes). all (agree_tests f scan j y) ≡ true) (sym e)
      (true-all (agree_tests f scan j z) (
        eq-eqb _ _ a.size,
        (
          eq-eqb _ _ a.span,
          (
            true_same a.begun,
            (
              booted-clear f z a.booted a.current,
              (
                answered _ _ (λ q. lt-ltb _ _ (a.filled q)),
                (
                  le-leb _ _ a.low,
                  (
                    le-leb _ _ a.high,
                    (
                      answered _ _ (λ q. lt-ltb _ _ (a.past q)),
                      (
                        answered _ _ (λ q. le-leb _ _ (a.within q)),
                        (
                          le-leb _ _ a.left,
                          (
                            answered _ _ (λ q. lt-ltb _ _ (a.old_past (ltb-true _ _ q))),
                            (answered _ _ (λ q. le-leb _ _ (a.old_within (ltb-true _ _ q))), tt),
                          ),
                        ),
                      ),
                    ),
                  ),
                ),
              ),
            ),
          ),
        ),
      ))

  pub disagreeing : (Agreeing f scan j (sizes_of f) → ⊥) → agrees f scan j ≡ false
  disagreeing h = not_so (λ e. h (agreed e))

-- ---- a step that is refused with 14 changes nothing

module _ (f scan : List ℕ) (j : Job) (no : agrees f scan j ≡ false) where
  pub file-refused : step_file f scan j ≡ f
  unfolding step_file
  file-refused = rw no

  pub job-refused : step_job f scan j ≡ j
  unfolding step_job
  job-refused = rw no

  pub answer-refused : step_answer f scan j ≡ Err Disagrees
  unfolding step_answer
  answer-refused = rw no

-- ---- a step where job and file agree: the file

-- a write past the bootstrap leaves it
head-kept : (f : List ℕ) (at : ℕ) (bytes : List ℕ) → 32 ≤ at → at ≤ length f → take 32 (write f at bytes) ≡ take 32 f
head-kept f at bytes h l = sym (take-take 32 at (write f at bytes) h) ∙ ap (take 32) (take-write f at bytes l) ∙ take-take 32 at f h

module _ (f scan : List ℕ) (j : Job) (z : Sizes) (agree : agrees f scan j ≡ true) (reads : sizes_of f ≡ z) where
  pub step-file : step_file f scan j ≡ perform f (write_at f z scan j)
  unfolding step_file
  step-file = subst (λ (y : Sizes). step_file f scan j ≡ perform f (write_at f y scan j)) reads (rw agree)

  pub step-data : j.written < count_of z j
      → step_file f scan j ≡ write f (start_of z (j.first + j.written)) (take z.l (drop (j.written * z.l) (padded_of z j scan)))
  step-data h = step-file ∙ ap (perform f) (writes-row f z j scan j.written h)

  -- the same, as code makes the record: what is left of the scan, and zeros
  pub step_row : j.written < count_of z j
      → step_file f scan j ≡ write f (start_of z (j.first + j.written)) (pad z.l (take z.l (drop (j.written * z.l) scan)))
  step_row h =
      let s : j.saves ≡ true = row-saves z j (omega arith) in
      let p : padded_of z j scan ≡ pad (count_of z j * z.l) scan = ap (λ (b : Bool). pad (count_of z j * z.l) (cond b scan [])) s in
      step-data h ∙ ap (λ (x : List ℕ). write f (start_of z (j.first + j.written)) (take z.l (drop (j.written * z.l) x))) p
      ∙ ap (write f (start_of z (j.first + j.written))) (row_is z.l (count_of z j) scan j.written h)

  pub step-boot : j.written ≡ count_of z j → step_file f scan j ≡ write f 0 (boot_bytes (sizes_after f z j))
  step-boot h = step-file ∙ ap (perform f) (writes-boot f z j scan j.written h)

  pub step-entry : j.written ≡ count_of z j + 1 → step_file f scan j ≡ write f (home_of z j.slot) (entry_after z j)
  step-entry h = step-file ∙ ap (perform f) (writes-entry f z j scan j.written h)

  pub step-lower : j.written ≡ count_of z j + 2 → lowers_of j ≡ true → step_file f scan j ≡ write f 0 (boot_bytes (lowered f z))
  step-lower h t = step-file ∙ ap (perform f) (writes_lower f z j scan j.written h t)

  pub step-zero : (m : ℕ) → j.written ≡ change_of z j + m → m < j.many → step_file f scan j ≡ write f (start_of z (j.old + m)) (zeros z.l)
  step-zero m e h = step-file ∙ ap (perform f) (writes-zero f z j scan j.written m e h)

  pub step_past : total_of z j ≤ j.written → step_file f scan j ≡ f
  step_past h = step-file ∙ ap (perform f) (writes-past f z j scan j.written h) ∙ write-nothing f 0

  -- ---- the job

  left_is : j.written < total_of z j → has_left z j ≡ true
  left_is h = lt-ltb j.written (total_of z j) h

  none_left : total_of z j ≤ j.written → has_left z j ≡ false
  none_left h = le-ltb j.written (total_of z j) h

  step-job : step_job f scan j ≡ cond (has_left z j) (moved (write_at f z scan j) j) j
  unfolding step_job
  step-job = subst (λ (y : Sizes). step_job f scan j ≡ cond (has_left y j) (moved (write_at f y scan j) j) j) reads (rw agree)

  pub job-past : total_of z j ≤ j.written → step_job f scan j ≡ j
  job-past h = step-job ∙ rw (none_left h)

  agree_at : Agreeing f scan j z
  agree_at = subst (Agreeing f scan j) reads (agreed f scan j agree)

  -- what is then expected are the file's first 32 bytes: record 1's write is these, and every other leaves them
  abbrev Heads : Write → Type 0
  Heads w = moved w j ≡ placed j (j.written + 1) (take 32 (perform f w))

  head-boot : (y : Sizes) → Heads (sizes_write y)
  head-boot y = ap (placed j (j.written + 1)) (sym (boot-there f y))

  head-other : (w : Write) → (w.record_no ≡ 1 → ⊥) → 32 ≤ w.at → w.at ≤ length f → Heads w
  head-other w n a l =
      ap (λ (t : Bool). placed j (j.written + 1) (cond t w.bytes j.boot)) (ne_eqb w.record_no 1 n)
      ∙ ap (placed j (j.written + 1)) (sym (head-kept f w.at w.bytes a l ∙ agree_at.begun))

  -- a data record lies past record 1
  head-record : (r : ℕ) (bs : List ℕ) → z.n < r → r ≤ room_of z (length f) + 1 → Heads (record { at = start_of z r; bytes = bs; record_no = r })
  head-record r bs p w =
      let q = agree_at.booted.ranged.shape in
      head-other (record { at = start_of z r; bytes = bs; record_no = r }) (λ e. omega arith) (omega (arith, times 1 (r - 1) z.l (omega arith)))
      (omega (arith, room_in z (length f) (r - 1) (omega arith)))

  head-row : j.written < count_of z j → Heads (write_at f z scan j)
  head-row h =
      let s : j.saves ≡ true = row-saves z j (omega arith) in
      subst Heads (sym (writes-row f z j scan j.written h))
      (head-record (j.first + j.written) (take z.l (drop (j.written * z.l) (padded_of z j scan))) (omega (arith, agree_at.past s)) (omega (arith, agree_at.within s)))

  head-entry : j.written ≡ count_of z j + 1 → Heads (write_at f z scan j)
  head-entry h =
      let q = agree_at.booted.ranged.shape in
      subst Heads (sym (writes-entry f z j scan j.written h))
      (head-other (entry_write z j) (λ e. omega arith) (omega arith) (omega (arith, home-in agree_at.booted j.slot agree_at.low agree_at.high)))

  head-zero : (m : ℕ) → j.written ≡ change_of z j + m → m < j.many → Heads (write_at f z scan j)
  head-zero m e h =
      subst Heads (sym (writes-zero f z j scan j.written m e h))
      (head-record (j.old + m) (zeros z.l) (omega (arith, agree_at.old_past (omega arith))) (omega (arith, agree_at.old_within (omega arith))))

  pub job-head : j.written < total_of z j → step_job f scan j ≡ placed j (j.written + 1) (take 32 (step_file f scan j))
  job-head h =
      step-job ∙ rw (left_is h)
      (phases (Heads (write_at f z scan j)) z j j.written h head-row
      (λ e. subst Heads (sym (writes-boot f z j scan j.written e)) (head-boot (sizes_after f z j))) head-entry
      (λ e t. subst Heads (sym (writes_lower f z j scan j.written e t)) (head-boot (lowered f z))) head-zero
      ∙ ap (λ (g : List ℕ). placed j (j.written + 1) (take 32 g)) (sym step-file))

  -- ---- the answer

  step-answer : step_answer f scan j ≡ cond (has_left z j) (Ok (Wrote (write_at f z scan j).record_no (j.written + 1))) (confirm_of f scan j (open_of f))
  unfolding step_answer
  step-answer =
      subst (λ (y : Sizes). step_answer f scan j ≡ cond (has_left y j) (Ok (Wrote (write_at f y scan j).record_no (j.written + 1))) (confirm_of f scan j (open_of f)))
      reads (rw agree)

  pub answer-wrote : j.written < total_of z j → step_answer f scan j ≡ Ok (Wrote (write_at f z scan j).record_no (j.written + 1))
  answer-wrote h = step-answer ∙ rw (left_is h)

  -- a third write is one of the writes
  left-lower : j.written ≡ count_of z j + 2 → lowers_of j ≡ true → j.written < total_of z j
  left-lower h t = omega (arith, change-lowers z j t)

  pub answer-row : j.written < count_of z j → step_answer f scan j ≡ Ok (Wrote (j.first + j.written) (j.written + 1))
  answer-row h = answer-wrote (omega arith) ∙ ap (λ (w : Write). Ok (Wrote w.record_no (j.written + 1))) (writes-row f z j scan j.written h)

  pub answer-boot : j.written ≡ count_of z j → step_answer f scan j ≡ Ok (Wrote 1 (j.written + 1))
  answer-boot h = answer-wrote (omega arith) ∙ ap (λ (w : Write). Ok (Wrote w.record_no (j.written + 1))) (writes-boot f z j scan j.written h)

  pub answer-entry : j.written ≡ count_of z j + 1 → step_answer f scan j ≡ Ok (Wrote (record_of z j.slot) (j.written + 1))
  answer-entry h = answer-wrote (omega arith) ∙ ap (λ (w : Write). Ok (Wrote w.record_no (j.written + 1))) (writes-entry f z j scan j.written h)

  pub answer-lower : j.written ≡ count_of z j + 2 → lowers_of j ≡ true → step_answer f scan j ≡ Ok (Wrote 1 (j.written + 1))
  answer-lower h t = answer-wrote (left-lower h t) ∙ ap (λ (w : Write). Ok (Wrote w.record_no (j.written + 1))) (writes_lower f z j scan j.written h t)

  pub answer-zero : (m : ℕ) → j.written ≡ change_of z j + m → m < j.many → step_answer f scan j ≡ Ok (Wrote (j.old + m) (j.written + 1))
  answer-zero m e h = answer-wrote (omega arith) ∙ ap (λ (w : Write). Ok (Wrote w.record_no (j.written + 1))) (writes-zero f z j scan j.written m e h)

  pub answer-past : total_of z j ≤ j.written → step_answer f scan j ≡ confirm_of f scan j (open_of f)
  answer-past h = step-answer ∙ rw (none_left h)

-- ---- confirming

module _ (f scan : List ℕ) (j : Job) (z : Sizes) where
  pub stood : stands f scan j z ≡ true → Standing f scan j z
  unfolding stands
  stood e =
      let t = all_true (stand_tests f scan j z) e in
      record { entry = same_true _ _ t.0; rows = same_true _ _ t.1.0; gone = same_true _ _ t.1.1.0 }

  pub standing : Standing f scan j z → stands f scan j z ≡ true
  unfolding stands
  standing h = true-all (stand_tests f scan j z) (true_same h.entry, (true_same h.rows, (true_same h.gone, tt)))

-- a step's answer and job
pub stepped : (f scan : List ℕ) (j k : Job) (a : StepAnswer) → step_answer f scan j ≡ a → step_job f scan j ≡ k → stepped_of f scan j ≡ record { answer = a; job = k }
unfolding stepped_of
stepped f scan j k a p q = rw (p, q)
