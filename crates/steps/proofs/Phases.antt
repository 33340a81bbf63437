-- A step by its phase: what the call of that phase hands back is what the definitions say.
use Rattle.std.specs.Prelude.{Ok}
use Prim.Native.Nat.{ℕ, ◌+◌, ◌-◌, ◌*◌, ◌≤◌, ◌<◌}
use mathlib.Core.Path.{◌≡◌, sym, ◌∙◌, ap, subst}
use mathlib.Core.Bool.{true, false, cond}
use mathlib.Core.List.{List}
use native.Mathlib.Omega.{arith}
use native.Mathlib.Nat.{add-sub_cancel_left}
use borrow.Author.Tests.{lt-ltb, le-ltb}
use lib.ListN.{take, drop}
use Rattle.lent.specs.Part.{part}
use Rattle.lent.specs.Write.{write, zeros, pad}
use Rattle.paper.specs.declared.sizes.Sizes.{Sizes}
use Rattle.paper.specs.declared.job.Job.{Job}
use Rattle.paper.specs.Answers.{StepAnswer}
use Rattle.paper.specs.declared.job.Step.TheVariants.{Wrote}
use Rattle.paper.specs.declared.job.Stepped.{Stepped}
use Rattle.paper.specs.Refusals.{step_says}
use Rattle.paper.specs.Sizes.{sizes_of, start_of, record_of, home_of, boot_bytes}
use Rattle.paper.specs.Index.{open_of, Booted}
use Rattle.paper.specs.Store.{Write, perform, count_of, sizes_after, entry_after, lowers_of, sizes_write, lowered, change_of, total_of}
use Rattle.paper.specs.Step.{agrees, step_file, step_job, step_answer, confirm_of, stepped_of, Agreeing}
use Rattle.paper.proofs.Opening.{open-sound}
use Rattle.paper.proofs.Agreement.{agreed, file-refused, job-refused, answer-refused, step_row, step-boot, step-entry, step-lower, step-zero, step_past, job-head, job-past, answer-row, answer-boot, answer-entry, answer-lower, answer-zero, answer-past, stepped}
use Rattle.paper.proofs.Writes.{change-lowers, phases}
use Rattle.writes.specs.Inside.{Homed, Lying, wrote_one}
use Rattle.steps.specs.Answers.{Late, late_write, disagreed}
use Rattle.steps.specs.Tests.{OldIn}
use Rattle.steps.proofs.Agreed.{homed, old-in}

-- what agreement gives, at the sizes that the bootstrap or the judgement gives
module _ (f scan : List ℕ) (j : Job) (a : agrees f scan j ≡ true) where
  pub agreeing-at : {z : Sizes} → Booted f z → Agreeing f scan j z
  agreeing-at {z} b = subst (λ (y : Sizes). Agreeing f scan j y) b.reads (agreed f scan j a)

  pub agreed-boot : {z : Sizes} → z ≡ sizes_of f → Booted f z
  agreed-boot e = subst (λ (y : Sizes). Booted f y) (sym e) (agreed f scan j a).booted

  pub judged-home : {z : Sizes} → open_of f ≡ Ok z → Homed f z j × OldIn f z j
  judged-home {z} o = let g = agreeing-at (open-sound o).booted in (homed f scan j z g, old-in f scan j z g)

module _ (f scan : List ℕ) (j : Job) (r : Stepped) (g : List ℕ) where
  -- what is asked of a step
  abbrev Done : Type 0
  Done = (r ≡ stepped_of f scan j) × (g ≡ step_file f scan j)

  pub refused-step : agrees f scan j ≡ false → r ≡ disagreed j → g ≡ f → Done
  refused-step a p q = (p ∙ sym (stepped f scan j j _ (answer-refused f scan j a) (job-refused f scan j a)), q ∙ sym (file-refused f scan j a))

  pub past-step : (z : Sizes) → agrees f scan j ≡ true → Booted f z → total_of z j ≤ j.written → (answer : StepAnswer) → answer ≡ confirm_of f scan j (open_of f)
      → r ≡ record { answer = answer; job = j } → g ≡ f → Done
  past-step z a b w answer s p q = (
    p ∙ ap (λ (x : StepAnswer). record { answer = x; job = j }) s
        ∙ sym (stepped f scan j _ _ (answer-past f scan j z a b.reads w) (job-past f scan j z a b.reads w)),
    q ∙ sym (step_past f scan j z a b.reads w),
  )

-- what follows the entry, by the job's place
module _ (f : List ℕ) (z : Sizes) (j : Job) where
  late-lower : j.written < change_of z j → late_write f z j ≡ sizes_write (lowered f z)
  late-lower h = rw (lt-ltb j.written (change_of z j) h)

  late-zero : (m : ℕ) → j.written ≡ change_of z j + m
      → late_write f z j ≡ record { at = start_of z (j.old + m); bytes = zeros z.l; record_no = j.old + m }
  late-zero m e = let k : j.written - change_of z j ≡ m = omega arith in rw (le-ltb j.written (change_of z j) (omega arith), k)

-- a step that writes: from the record's number r and the file g
module _ (f scan : List ℕ) (j : Job) (r : ℕ) (g : List ℕ) (z : Sizes) (a : agrees f scan j ≡ true) (b : Booted f z) where
  abbrev Written : Type 0
  Written = (wrote_one r j (take 32 g) ≡ stepped_of f scan j) × (g ≡ step_file f scan j)

  e : sizes_of f ≡ z
  e = b.reads

  wrote-step : (n : ℕ) → j.written < total_of z j → step_answer f scan j ≡ Ok (Wrote n (j.written + 1)) → r ≡ n → g ≡ step_file f scan j → Written
  wrote-step n w answer p q = (
    ap (λ (x : ℕ). wrote_one x j (take 32 g)) p ∙ ap (λ (x : List ℕ). wrote_one n j (take 32 x)) q ∙ sym (stepped f scan j _ _ answer (job-head f scan j z a e w)),
    q,
  )

  pub data-step : j.written < count_of z j → r ≡ j.first + j.written
      → g ≡ write f (start_of z (j.first + j.written)) (pad z.l (part (j.written * z.l) (j.written * z.l + z.l) scan)) → Written
  data-step w p q =
      let from = j.written * z.l in
      wrote-step (j.first + j.written) (omega arith) (answer-row f scan j z a e w) p
      (q ∙ ap (λ (k : ℕ). write f (start_of z (j.first + j.written)) (pad z.l (take k (drop from scan)))) (add-sub_cancel_left from z.l)
      ∙ sym (step_row f scan j z a e w))

  pub boot-step : j.written ≡ count_of z j → r ≡ 1 → g ≡ write f 0 (boot_bytes (sizes_after f z j)) → Written
  boot-step w p q = wrote-step 1 (omega arith) (answer-boot f scan j z a e w) p (q ∙ sym (step-boot f scan j z a e w))

  pub entry-step : j.written ≡ count_of z j + 1 → r ≡ record_of z j.slot → g ≡ write f (home_of z j.slot) (entry_after z j) → Written
  entry-step w p q = wrote-step (record_of z j.slot) (omega arith) (answer-entry f scan j z a e w) p (q ∙ sym (step-entry f scan j z a e w))

  -- what is left after the entry is the lowered U, and then zeros
  pub late-step : j.written < total_of z j → count_of z j + 2 ≤ j.written → r ≡ (late_write f z j).record_no → g ≡ perform f (late_write f z j) → Written
  late-step w n p q =
      phases Written z j j.written w (λ h. absurd (omega arith)) (λ h. absurd (omega arith)) (λ h. absurd (omega arith))
      (λ h t.
      let l = late-lower f z j (omega (arith, change-lowers z j t)) in
      wrote-step 1 w (answer-lower f scan j z a e h t) (p ∙ ap (λ (x : Write). x.record_no) l) (q ∙ ap (perform f) l ∙ sym (step-lower f scan j z a e h t)))
      (λ m h t.
      let l = late-zero f z j m h in
      wrote-step (j.old + m) w (answer-zero f scan j z a e m h t) (p ∙ ap (λ (x : Write). x.record_no) l) (q ∙ ap (perform f) l ∙ sym (step-zero f scan j z a e m h t)))

-- which of the two it is; c is how many writes make the change
module _ (f : List ℕ) (z : Sizes) (j : Job) (r : ℕ) (g : List ℕ) where
  abbrev IsLate : Type 0
  IsLate = (r ≡ (late_write f z j).record_no) × (g ≡ perform f (late_write f z j))

  pub lower_late : j.written < change_of z j → r ≡ 1 → g ≡ write f 0 (boot_bytes (lowered f z)) → IsLate
  lower_late h p q =
      let l = late-lower f z j h in
      (p ∙ ap (λ (x : Write). x.record_no) (sym l), q ∙ ap (perform f) (sym l))

  pub zero-late : (c : ℕ) → c ≡ change_of z j → c ≤ j.written → r ≡ j.old + (j.written - c) → g ≡ write f (start_of z (j.old + (j.written - c))) (zeros z.l) → IsLate
  zero-late c e h p q =
      let l = late-zero f z j (j.written - c) (omega arith) in
      (p ∙ ap (λ (x : Write). x.record_no) (sym l), q ∙ ap (perform f) (sym l))

-- and the record then lies in the file
module _ (f : List ℕ) (z : Sizes) (j : Job) (k : ℕ) (l : Late f z j k) (c : ℕ) (e : c ≡ k + 2 + cond (lowers_of j) 1 0) (h : c ≤ j.written) where
  pub change-is : c ≡ change_of z j
  change-is = e ∙ ap (λ (x : ℕ). x + 2 + cond (lowers_of j) 1 0) l.rows

  pub zero-lies : Lying f z (j.old + (j.written - c))
  zero-lies = subst (λ (x : ℕ). Lying f z (j.old + (j.written - x))) (sym change-is) (l.lies (omega (arith, change-is)))

-- what a step says
pub step-said : (f scan : List ℕ) (j : Job) (r : Stepped) → r ≡ stepped_of f scan j → (step_says r.answer ≡ step_says (step_answer f scan j)) × (r.job ≡ step_job f scan j)
unfolding stepped_of
step-said f scan j r e = (ap (λ (x : Stepped). step_says x.answer) e, ap (λ (x : Stepped). x.job) e)
