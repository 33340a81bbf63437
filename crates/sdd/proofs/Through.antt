-- From what a public call promises, in numbers and values, to its answer on the face.
use Rattle.std.specs.Prelude.{Err}
use Prim.Native.Nat.{ℕ, zero, suc, ◌≤◌}
use mathlib.Core.Path.{◌≡◌, refl, sym, ◌∙◌, ap, subst}
use mathlib.Core.Bool.{Bool, true, false, cond}
use mathlib.Core.List.{List}
use native.Mathlib.Omega.{arith}
use lib.Dec.{eqb}
use Rattle.lent.proofs.Lists.{all_true}
use borrow.Author.Tests.{leb-true}
use Rattle.paper.specs.Answers.{Opened, Listed, Span, Taken, Asked, Found, Linked, Begun, StepAnswer, taken_in}
use Rattle.paper.specs.declared.refusal.Refusal.TheVariants.{Disagrees}
use Rattle.paper.specs.declared.link.Link.{Link}
use Rattle.paper.specs.declared.job.Job.{Job}
use Rattle.paper.specs.declared.job.Step.TheVariants as step
use Rattle.paper.specs.declared.job.Stepped.{Stepped}
use Rattle.paper.specs.Refusals.{opened_says, listed_says, span_says, taken_says, asked_says, step_says}
use Rattle.paper.specs.Sizes.{sizes_of}
use Rattle.paper.specs.Link.{take_of, take_row, finish_of, link_in}
use Rattle.paper.specs.Step.{agrees, has_left, step_file, step_job, step_answer}
use Rattle.paper.specs.Entry.{no_entry}
use Rattle.paper.specs.Look.{fields_in}
use Rattle.paper.specs.Store.{no_job, job_in}
use Rattle.paper.proofs.Handed.{handed-only}
use Rattle.paper.proofs.Answers.{opened-only, listed-only, span-only, taken-only, asked-only, step-only}
use Rattle.sdd.specs.Face.{opened_c, listed_c, asked_c, span_c, job_c, job_of, stepped_c, told_of, beside, flag_tests, flagged, step_c, step_file_c, OpenedSmall, TakenSmall, SpanSmall, ListedSmall, AskedSmall, StepSmall}
use Rattle.sdd.specs.declared.face.CJob.{CJob}
use Rattle.sdd.specs.declared.face.CStepped.{CStepped}
use Rattle.sdd.specs.declared.jobs.Told.{Told}

pub opened-small : (a b : Opened) → opened_says a ≡ opened_says b → OpenedSmall b → OpenedSmall a
opened-small a b e h = subst OpenedSmall (sym (opened-only a b e)) h

pub opened-face : (len : ℕ) (a b : Opened) → opened_says a ≡ opened_says b → opened_c len a ≡ opened_c len b
opened-face len a b e = ap (opened_c len) (opened-only a b e)

pub span_small : (a b : Span) → span_says a ≡ span_says b → SpanSmall b → SpanSmall a
span_small a b e h = subst SpanSmall (sym (span-only a b e)) h

pub span-face : (a b : Span) → span_says a ≡ span_says b → span_c a ≡ span_c b
span-face a b e = ap span_c (span-only a b e)

pub listed_small : (a b : Listed) → listed_says a ≡ listed_says b → ListedSmall b → ListedSmall a
listed_small a b e h = subst ListedSmall (sym (listed-only a b e)) h

pub listed-face : (a b : Listed) → listed_says a ≡ listed_says b → listed_c a ≡ listed_c b
listed-face a b e = ap listed_c (listed-only a b e)

pub asked-small : (a b : Asked) → asked_says a ≡ asked_says b → AskedSmall b → AskedSmall a
asked-small a b e h = subst AskedSmall (sym (asked-only a b e)) h

pub asked-face : (a b : Asked) → asked_says a ≡ asked_says b → asked_c a ≡ asked_c b
asked-face a b e = ap asked_c (asked-only a b e)

pub taken-small : (a b : Taken) → taken_says a ≡ taken_says b → TakenSmall b → TakenSmall a
taken-small a b e h = subst TakenSmall (sym (taken-only a b e)) h

-- a call that hands something back promises its whole answer
pub found-is : (a b : Found) → taken_says (taken_in a) ≡ taken_says (taken_in b) → fields_in a ≡ fields_in b → a ≡ b
found-is a b e h = handed-only no_entry a b (taken-only (taken_in a) (taken_in b) e) h

pub begun-is : (a b : Begun) → taken_says (taken_in a) ≡ taken_says (taken_in b) → job_in a ≡ job_in b → a ≡ b
begun-is a b e h = handed-only no_job a b (taken-only (taken_in a) (taken_in b) e) h

pub linked-is : (k : Link) (a b : Linked) → taken_says (taken_in a) ≡ taken_says (taken_in b) → link_in k a ≡ link_in k b → a ≡ b
linked-is k a b e h = handed-only k a b (taken-only (taken_in a) (taken_in b) e) h

-- a link that stands for the numbers k
module _ (j k : Link) where
  pub taken-stood : (p row : List ℕ) (r : Linked) (next : List ℕ) → j ≡ k
      → (taken_says (taken_in r) ≡ taken_says (taken_in (take_of j p row))) × (link_in j r ≡ link_in j (take_of j p row)) × (next ≡ take_row j p row)
      → (r ≡ take_of k p row) × (next ≡ take_row k p row)
  taken-stood p row r next e h =
      subst (λ (x : Link). (r ≡ take_of x p row) × (next ≡ take_row x p row)) e (linked-is j r (take_of j p row) h.0 h.1, h.2)

  pub finish-stood : (row : List ℕ) (r : Opened) → j ≡ k → opened_says r ≡ opened_says (finish_of j row) → opened_says r ≡ opened_says (finish_of k row)
  finish-stood row r e h = subst (λ (x : Link). opened_says r ≡ opened_says (finish_of x row)) e h

-- ---- a step

pub step-small-of : (a b : StepAnswer) → step_says a ≡ step_says b → StepSmall b → StepSmall a
step-small-of a b e h = subst StepSmall (sym (step-only a b e)) h

flag-back : (n : ℕ) → n ≤ 1 → cond (eqb n 1) 1 0 ≡ n
flag-back zero h = refl
flag-back (suc zero) h = refl
flag-back (suc (suc n)) h = absurd (omega arith)

either-job : (P : Job → Type 0) (t : Bool) (a b : Job) → P a → P b → P (cond t a b)
either-job P true a b x y = x
either-job P false a b x y = y

-- the job that came, but for these
abbrev changed : CJob → ℕ → ℕ → ℕ → List ℕ → CJob
changed c saves lowers written boot =
    record {
      saves = saves;
      slot = c.slot;
      size = c.size;
      span = c.span;
      first = c.first;
      written = written;
      lowers = lowers;
      old = c.old;
      many = c.many;
      boot = boot;
      about = c.about;
    }

-- with the count and the bootstrap of the job k
abbrev onward : CJob → Job → CJob
onward c k = changed c c.saves c.lowers k.written k.boot

module _ (f scan : List ℕ) (c : CJob) (r : CStepped) (t : Told) where
  -- a flag that is neither 0 nor 1
  pub other-flag : flagged c ≡ false → t ≡ told_of (Err Disagrees) → r ≡ beside t c → (r ≡ step_c f scan c) × (f ≡ step_file_c f scan c)
  unfolding step_c step_file_c
  other-flag h e q = (rw h (q ∙ ap (λ (x : Told). beside x c) e), rw h refl)

  -- a step changes nothing of its job but the count and the bootstrap
  onward-job : flagged c ≡ true → onward c (step_job f scan (job_of c)) ≡ job_c (step_job f scan (job_of c))
  unfolding step_job flagged
  onward-job h =
      let p = all_true (flag_tests c) h in
      let same : (n : ℕ) (b : List ℕ) → changed c c.saves c.lowers n b ≡ changed c (cond (eqb c.saves 1) 1 0) (cond (eqb c.lowers 1) 1 0) n b =
      λ n b.
      ap (λ (s : ℕ). changed c s c.lowers n b) (sym (flag-back c.saves (leb-true _ _ p.0)))
      ∙ ap (λ (s : ℕ). changed c (cond (eqb c.saves 1) 1 0) s n b) (sym (flag-back c.lowers (leb-true _ _ p.1.0))) in
      either-job (λ k. onward c k ≡ job_c k) (agrees f scan (job_of c)) _ _
      (either-job (λ k. onward c k ≡ job_c k) (has_left (sizes_of f) (job_of c)) _ _ (same _ _) (same _ _)) (same _ _)

  -- the step of the job that the numbers stand for
  pub step-face : (g : List ℕ) (s : Stepped) (j : Job) → flagged c ≡ true → j ≡ job_of c → step_says s.answer ≡ step_says (step_answer f scan j)
      → s.job ≡ step_job f scan j → g ≡ step_file f scan j → t ≡ told_of s.answer → r ≡ beside t (onward c s.job) → (r ≡ step_c f scan c) × (g ≡ step_file_c f scan c)
  unfolding step_c step_file_c
  step-face g s j h e a b d k q =
      let w : s.answer ≡ step_answer f scan j = step-only s.answer (step_answer f scan j) a in
      let v : s.job ≡ step_job f scan (job_of c) = b ∙ ap (step_job f scan) e in
      let x : step_answer f scan j ≡ step_answer f scan (job_of c) = ap (step_answer f scan) e in (
        rw h
            (q ∙ ap (λ (y : Told). beside y (onward c s.job)) (k ∙ ap told_of (w ∙ x)) ∙ ap (λ (y : Job). beside (told_of (step_answer f scan (job_of c))) (onward c y)) v
            ∙ ap (stepped_c (step_answer f scan (job_of c))) (onward-job h)),
        rw (h, ← e) d,
      )
