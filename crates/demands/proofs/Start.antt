-- An accepted operation, step by step: its job is ready, and file and job after i steps are those that the laws of `paper` speak of.
use Rattle.std.specs.Prelude.{Result, Ok, Err}
use Rattle.std.specs.Result.{is_ok}
use Prim.Native.Nat.{ℕ, zero, suc, ◌*◌}
use mathlib.Core.Path.{◌≡◌, refl, sym, ◌∙◌, ap, subst}
use mathlib.Core.Bool.{true, cond}
use mathlib.Core.List.{List, []}
use native.Mathlib.Omega.{arith}
use native.Mathlib.Nat.{zero-mul}
use borrow.Author.Tests.{eqb-true}
use lib.ListN.{length}
use Rattle.lent.specs.Write.{zeros}
use Rattle.lent.proofs.Lists.{true≢false}
use Rattle.lent.proofs.Writes.{pad-none}
use Rattle.paper.specs.declared.sizes.Sizes.{Sizes}
use Rattle.paper.specs.declared.refusal.Refusal.{Refusal}
use Rattle.paper.specs.Answers.{Begun, taken_in}
use Rattle.paper.specs.declared.job.Job.{Job}
use Rattle.paper.specs.declared.job.Step.TheVariants.{Saved, Cleared}
use Rattle.paper.specs.Sizes.{sizes_of}
use Rattle.paper.specs.Index.{open_of}
use Rattle.paper.specs.Store.{highest, save_of, keep_of, clear_of, count_of, padded_of, entry_after, lowers_of, change_of, total_of, job_in}
use Rattle.paper.specs.Step.{step_job}
use Rattle.paper.proofs.Opening.{open-reads}
use Rattle.paper.proofs.Ready.{file_at, file-start}
use Rattle.paper.proofs.Stages.{job_at, job-start, stage-file, stage-job}
use Rattle.paper.proofs.Begins.{Begins, save-taken, taken-save, keep_taken, taken-keep, clear-is-taken, taken-is-clear, save-begins, keep-begins, clear-begins}
use Rattle.demands.specs.History.{Op, save, keep, clear, Whole, begin, scan_of, records_of, lowers_by, changes_by, writes_by, takes, next, steps, given}
use Rattle.demands.specs.Survival.{confirmed}

-- the job j of an operation: ready, and with what the operation gives
pub record Starts (z : Sizes) (f : List ℕ) (op : Op) (j : Job) : Type 0 where
  pub begins : Begins z f (scan_of op) j
  pub count : count_of z j ≡ records_of z op
  pub change : change_of z j ≡ changes_by f z op
  pub lowers : lowers_of j ≡ lowers_by f z op
  pub top : lowers_by f z op ≡ true → (j.slot ≡ highest f z) × (entry_after z j ≡ zeros z.m)
  pub bytes : padded_of z j (scan_of op) ≡ (given f z op).records
  pub entry : entry_after z j ≡ (given f z op).entry
  pub confirms : (c : ℕ) → cond j.saves (Ok (Saved 0 c)) (Ok (Cleared 0 c)) ≡ confirmed op c
  pub long : length j.about ≡ 54

pub accepts : {A : Type 0} (x : Result A Refusal) → is_ok x ≡ true → taken_in x ≡ Ok tt
accepts (Ok a) e = refl
accepts (Err r) e = absurd (true≢false e refl)

starts-own : (f : List ℕ) (op : Op) → Whole op → takes f op ≡ true → Starts (sizes_of f) f op (job_in (begin f op))
starts-own f (save slot scan about) w e =
    let z : Sizes = sizes_of f in
    let t = save-taken f slot scan about (accepts (save_of f slot scan about) e) in
    subst (λ (b : Begun). Starts z f (save slot scan about) (job_in b)) (sym (taken-save f slot scan about t))
    (record {
      begins = save-begins f slot scan about w t;
      count = refl;
      change = refl;
      lowers = refl;
      top = λ e. absurd (true≢false e refl);
      bytes = refl;
      entry = refl;
      confirms = λ c. refl;
      long = w;
    })
starts-own f (keep scan about) w e =
    let z : Sizes = sizes_of f in
    let t = keep_taken f scan about (accepts (keep_of f scan about) e) in
    subst (λ (b : Begun). Starts z f (keep scan about) (job_in b)) (sym (taken-keep f scan about t))
    (record {
      begins = keep-begins f scan about w t;
      count = refl;
      change = refl;
      lowers = refl;
      top = λ e. absurd (true≢false e refl);
      bytes = refl;
      entry = refl;
      confirms = λ c. refl;
      long = w;
    })
starts-own f (clear slot) w e =
    let z : Sizes = sizes_of f in
    let t = clear-is-taken f slot (accepts (clear_of f slot) e) in
    subst (λ (b : Begun). Starts z f (clear slot) (job_in b)) (sym (taken-is-clear f slot t))
    (record {
      begins = clear-begins f slot t;
      count = refl;
      change = refl;
      lowers = refl;
      top = λ e. (eqb-true slot (highest f z) e, refl);
      bytes = pad-none (0 * z.l) [] (omega (arith, zero-mul z.l));
      entry = refl;
      confirms = λ c. refl;
      long = refl;
    })

pub starts : (f : List ℕ) (z : Sizes) → open_of f ≡ Ok z → (op : Op) → Whole op → takes f op ≡ true → Starts z f op (job_in (begin f op))
starts f z o op w e = subst (λ (y : Sizes). Starts y f op (job_in (begin f op))) (open-reads f o) (starts-own f op w e)

-- as many writes in all as the operation has
pub total-is : {z : Sizes} {f : List ℕ} {op : Op} → Starts z f op (job_in (begin f op)) → total_of z (job_in (begin f op)) ≡ writes_by f z op
total-is B = omega (arith, B.change, B.begins.ready.many_is)

-- file and job after i steps
pub steps-are : {z : Sizes} {f scan : List ℕ} {j : Job} → Begins z f scan j → (i : ℕ)
    → steps scan (record { file = f; job = j }) i ≡ record { file = file_at f scan j i; job = job_at z f scan j i }
steps-are {z} {f} {scan} {j} B zero = ap (λ (g : List ℕ). record { file = g; job = j }) (sym (file-start f scan j)) ∙ ap (λ (k : Job). record { file = file_at f scan j 0; job = k }) (sym (job-start B.agreeing B.fresh))
steps-are {z} {f} {scan} {j} B (suc i) =
    ap (next scan) (steps-are B i)
    ∙ ap (λ (g : List ℕ). record { file = g; job = step_job (file_at f scan j i) scan (job_at z f scan j i) }) (stage-file B.ready B.agreeing i)
    ∙ ap (λ (k : Job). record { file = file_at f scan j (suc i); job = k }) (stage-job B.ready B.agreeing i)
