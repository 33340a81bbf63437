-- One outcome: number and values determine the answer.
use Rattle.std.specs.Prelude.{Result}
use Rattle.std.specs.Result.{result_unwrap_or}
use Prim.Native.Nat.{ℕ}
use mathlib.Core.Path.{◌≡◌, sym, ◌∙◌, ap}
use mathlib.Core.List.{List}
use Rattle.paper.specs.declared.refusal.Refusal.{Refusal}
use Rattle.paper.specs.Answers.{Listed, Span, StepAnswer, taken_in}
use Rattle.paper.specs.declared.job.Job.{Job}
use Rattle.paper.specs.Refusals.{opened_says, listed_says, span_says, taken_says, asked_says, step_says}
use Rattle.paper.specs.Scan.{class_of, data_of}
use Rattle.paper.specs.Entry.{no_entry}
use Rattle.paper.specs.Look.{found_of, listed_of, listed_out, show_of, read_of}
use Rattle.paper.specs.Store.{no_job, save_of, keep_of, clear_of}
use Rattle.paper.specs.Find.{report_of, report_out}
use Rattle.paper.specs.Link.{fresh_link, begin_of, take_of}
use Rattle.paper.proofs.Answers.{opened-only, listed-only, span-only, taken-only, asked-only, step-only}
use Rattle.paper.proofs.Handed.{handed-only}
use Rattle.demands.specs.OneOutcome.{Only, Outcome, OneOutcome}

-- two that are said alike
alike : {A B : Type 0} (says : A → B) → ((a b : A) → says a ≡ says b → a ≡ b) → (x : B) (a b : A) → says a ≡ x → says b ≡ x → a ≡ b
alike says only x a b p q = only a b (p ∙ sym q)

span-one : (x : Span) → Only (λ (y : Span). span_says y ≡ span_says x)
span-one x = alike span_says span-only (span_says x)

-- of a call that hands something back, `none` where it is refused
handed-one : {A : Type 0} (none : A) (x : Result A Refusal)
    → Only (λ (y : Result A Refusal). (taken_says (taken_in y) ≡ taken_says (taken_in x)) × (result_unwrap_or y none ≡ result_unwrap_or x none))
handed-one none x a b p q = handed-only none a b (alike taken_says taken-only _ (taken_in a) (taken_in b) p.0 q.0) (p.1 ∙ sym q.1)

lent_same : {A : Type 0} (a b : Outcome A) → a.answer ≡ b.answer → a.lent ≡ b.lent → a ≡ b
lent_same {A} a b e h = ap (λ (t : A). record { answer = t; lent = a.lent }) e ∙ ap (λ (l : List ℕ). record { answer = b.answer; lent = l }) h

-- of a list and what it leaves
listed-one : (l : Listed) (out : List ℕ) → Only (λ (x : Outcome Listed). (listed_says x.answer ≡ listed_says l) × (x.lent ≡ out))
listed-one l out a b p q = lent_same a b (alike listed_says listed-only _ a.answer b.answer p.0 q.0) (p.1 ∙ sym q.1)

pub one-outcome : OneOutcome
one-outcome =
    record {
      open_file = λ f. alike opened_says opened-only _;
      gaps = λ f. alike asked_says asked-only _;
      list = λ f out. listed-one (listed_of f out) (listed_out f out);
      find = λ f out. listed-one (report_of f out) (report_out f out);
      entry = λ f s. handed-one no_entry (found_of f s);
      show = λ f s. span-one (show_of f s);
      read = λ f s. span-one (read_of f s);
      class = λ s n. span-one (class_of s n);
      rest = λ s. span-one (data_of s);
      parts = λ f at s a b p q.
          let e : a.holds ≡ b.holds = p.0 ∙ sym q.0 in
          let h : a.begins ≡ b.begins = p.1 ∙ sym q.1 in
          ap (λ (l : List ℕ). record { holds = l; begins = a.begins }) e ∙ ap (λ (n : ℕ × ℕ). record { holds = b.holds; begins = n }) h;
      save_scan = λ f slot scan about. handed-one no_job (save_of f slot scan about);
      keep_scan = λ f scan about. handed-one no_job (keep_of f scan about);
      clear_slot = λ f slot. handed-one no_job (clear_of f slot);
      step-job = λ f scan j a b p q.
          let e : a.answer.answer ≡ b.answer.answer = alike step_says step-only _ a.answer.answer b.answer.answer p.0 q.0 in
          let h : a.answer.job ≡ b.answer.job = p.1 ∙ sym q.1 in
          let s : a.answer ≡ b.answer =
          ap (λ (t : StepAnswer). record { answer = t; job = a.answer.job }) e ∙ ap (λ (k : Job). record { answer = b.answer.answer; job = k }) h in
          lent_same a b s (p.2 ∙ sym q.2);
      blank = λ f n l m a b p q. lent_same a b (alike taken_says taken-only _ a.answer b.answer p.0 q.0) (p.1 ∙ sym q.1);
      convert = λ v f out a b p q. lent_same a b (alike taken_says taken-only _ a.answer b.answer p.0 q.0) (p.1 ∙ sym q.1);
      link_begin = λ len row. handed-one (fresh_link 0) (begin_of len row);
      link_take = λ k p row a b h i. lent_same a b (handed-one k (take_of k p row) a.answer b.answer h.0 i.0) (h.1 ∙ sym i.1);
      link_finish = λ k row. alike opened_says opened-only _;
    }
