-- Demand 1 holds.
use Rattle.std.specs.Prelude.{Ok, Err}
use Prim.Native.Nat.{ℕ, ◌+◌, ◌≤◌}
use mathlib.Core.Path.{◌≡◌, refl, sym, ap, subst}
use mathlib.Core.Bool.{Bool, true, false, cond}
use mathlib.Core.List.{List, [], ◌∷◌}
use native.Mathlib.Omega.{arith}
use borrow.Author.Tests.{ltb-false}
use lib.ListN.{length}
use Rattle.lent.specs.Checks.{Check, judge}
use Rattle.lent.proofs.Checks.{judge-fires, judged-err, err≢ok}
use Rattle.paper.specs.declared.refusal.Refusal.{Refusal}
use Rattle.paper.specs.declared.refusal.Refusal.TheVariants.{Disagrees}
use Rattle.paper.specs.Answers.{Found, Begun, Linked, taken_in}
use Rattle.paper.specs.declared.job.Job.{Job}
use Rattle.paper.specs.declared.job.Step.TheVariants as step
use Rattle.paper.specs.Sizes.{sizes_of}
use Rattle.paper.specs.Index.{open_of}
use Rattle.paper.specs.Entry.{no_entry}
use Rattle.paper.specs.Scan.{part_of}
use Rattle.paper.specs.Look.{list_of, list_checks, listed_of, listed_out, found_of, fields_in}
use Rattle.paper.specs.Store.{blank_sizes, blank_checks, blank_of, blank_file, no_job, save_of, keep_of, clear_of, total_of, job_in}
use Rattle.paper.specs.Step.{agrees, has_left, write_at, confirm_of, step_file, step_job, step_answer}
use Rattle.paper.proofs.Answers.{numbered}
use Rattle.paper.proofs.Handed.{taken-err}
use Rattle.paper.proofs.Agreement.{disagreeing, file-refused, job-refused, answer-refused, step_past, job-past}
use Rattle.paper.specs.Find.{find_of, find_checks, report_of, report_out}
use Rattle.paper.specs.Convert.{convert_checks, convert_of, converted_out}
use Rattle.paper.specs.Link.{fresh_link, took_link, took_row, row_short, begin_of, take_of, take_row, link_in}
use Rattle.paper.proofs.Linking.{finish-short}
use Rattle.demands.specs.Untouched.{ZeroJob, ZeroLink, ZeroEntry, Untouched}

-- ---- zeros

zero-job : ZeroJob no_job
zero-job = record { saves = refl; slot = refl; size = refl; span = refl; first = refl; written = refl; lowers = refl; old = refl; many = refl; boot = refl; about = refl }

zero-link : ZeroLink (fresh_link 0)
zero-link = record { span = refl; came = refl; ends = refl; boot = refl }

zero-entry : ZeroEntry no_entry
zero-entry =
    record {
      first = refl;
      last = refl;
      horizontal = refl;
      vertical = refl;
      source = refl;
      scan = refl;
      field4 = refl;
      field8 = refl;
      lst = refl;
      date = refl;
      mode = refl;
      number = refl;
      position = refl;
      magic = refl;
      kind = refl;
    }

-- what a refused call would have changed stays
stays : {A B : Type 0} (cs : List (Check Refusal)) (a : A) (old new : B) (r : Refusal) → judge Err cs (Ok a) ≡ Err r
    → judge (λ (q : Refusal). old) cs new ≡ old
stays cs a old new r e = judge-fires (λ (q : Refusal). old) cs new r (judged-err cs a e)

-- a beginning that is refused
begun-none : (b : Begun) (r : Refusal) → taken_in b ≡ Err r → ZeroJob (job_in b)
begun-none b r e = subst (λ (b : Begun). ZeroJob (job_in b)) (sym (taken-err b r e)) zero-job

step_kept : (f scan : List ℕ) (j : Job) (r : Refusal) (a left : Bool) → agrees f scan j ≡ a → has_left (sizes_of f) j ≡ left
    → cond a (cond left (Ok (step.Wrote (write_at f (sizes_of f) scan j).record_no (j.written + 1))) (confirm_of f scan j (open_of f))) (Err Disagrees) ≡ Err r
    → (step_file f scan j ≡ f) × (step_job f scan j ≡ j)
step_kept f scan j r false left p q e = (file-refused f scan j p, job-refused f scan j p)
step_kept f scan j r true true p q e = absurd (err≢ok (sym e))
step_kept f scan j r true false p q e =
    let h : total_of (sizes_of f) j ≤ j.written = ltb-false j.written (total_of (sizes_of f) j) q in
    (step_past f scan j (sizes_of f) p refl h, job-past f scan j (sizes_of f) p refl h)

pub untouched : Untouched
unfolding convert_of converted_out blank_of blank_file listed_of listed_out report_of report_out step_answer take_of take_row
untouched =
    record {
      blank = λ f n l m. stays (blank_checks f (blank_sizes n l m)) tt f _;
      list = λ f out. stays (list_checks f out) (length (list_of f)) out _;
      find = λ f out. stays (find_checks f out) (length (find_of f (sizes_of f))) out _;
      convert = λ v f out. stays (convert_checks v f out) tt out _;
      step-job = λ f scan j r e. step_kept f scan j r (agrees f scan j) (has_left (sizes_of f) j) refl refl e;
      save_scan = λ f slot scan about. begun-none (save_of f slot scan about);
      keep_scan = λ f scan about. begun-none (keep_of f scan about);
      clear_slot = λ f slot. begun-none (clear_of f slot);
      no-job = λ f scan j h. answer-refused f scan j (disagreeing f scan j (λ a. omega (arith, a.booted.long, a.span, h.span)));
      link_begin = λ len row r e. subst (λ (x : Linked). ZeroLink (link_in (fresh_link 0) x)) (sym (taken-err (begin_of len row) r e)) zero-link;
      link_take = λ k p row r e.
          let h = taken-err (take_of k p row) r e in
          (ap (link_in k) h, stays (row_short row ∷ []) (took_link k p) row (took_row k p row) r h);
      no_link = λ k row h enough. finish-short k row enough (omega (arith, h.span));
      entry = λ f s r e. subst (λ (x : Found). ZeroEntry (fields_in x)) (sym (taken-err (found_of f s) r e)) zero-entry;
      show = λ f s r e. ap (part_of f) e;
      read = λ f s r e. ap (part_of f) e;
      class = λ s n r e. ap (part_of s) e;
      rest = λ s r e. ap (part_of s) e;
      numbered = numbered;
    }
