-- One outcome: two outcomes that the statement of a public call allows are equal. A statement gives the answer by the paper's number and values, and what is
-- lent and handed back by equations.
use Rattle.std.specs.Prelude.{ℕ, ◌≡◌, List}
use Rattle.lent.specs.Part.{bytes_on}
use Rattle.paper.specs.Answers.{Opened, Listed, Span, Taken, Asked, Found, Begun, Linked, taken_in}
use Rattle.paper.specs.declared.job.Job.{Job}
use Rattle.paper.specs.declared.job.Stepped.{Stepped}
use Rattle.paper.specs.declared.link.Link.{Link}
use Rattle.paper.specs.Refusals.{opened_says, listed_says, span_says, taken_says, asked_says, step_says}
use Rattle.paper.specs.Index.{open_of}
use Rattle.paper.specs.Scan.{part_of, span_place, class_of, data_of}
use Rattle.paper.specs.Look.{listed_of, listed_out, found_of, show_of, read_of, fields_in}
use Rattle.paper.specs.Store.{blank_of, blank_file, save_of, keep_of, clear_of, job_in}
use Rattle.paper.specs.Step.{step_file, step_job, step_answer}
use Rattle.paper.specs.Gaps.{gaps_of}
use Rattle.paper.specs.Find.{report_of, report_out}
use Rattle.paper.specs.Convert.{convert_of, converted_out}
use Rattle.paper.specs.Link.{fresh_link, begin_of, take_of, take_row, finish_of, link_in}

-- at most one is allowed
abbrev pub Only : {A : Type 0} → (A → Type 0) → Type 0
Only {A} Allowed = (a b : A) → Allowed a → Allowed b → a ≡ b

-- the answer, and what the lent memory then holds
pub record Outcome (A : Type 0) : Type 0 where
  pub answer : A
  pub lent : List ℕ

-- a slice that is handed out: what it holds, and the address at which it begins
pub record Slice : Type 0 where
  pub holds : List ℕ
  pub begins : ℕ × ℕ

-- what a beginning says, and the job that it hands back
abbrev pub Begins : Begun → Begun → Type 0
Begins is x = (taken_says (taken_in x) ≡ taken_says (taken_in is)) × (job_in x ≡ job_in is)

-- what a link's begin or take says, and the link that it hands back, k where it is refused
abbrev pub Links : Link → Linked → Linked → Type 0
Links k is x = (taken_says (taken_in x) ≡ taken_says (taken_in is)) × (link_in k x ≡ link_in k is)

pub record OneOutcome : Type 0 where
  pub open_file : (f : List ℕ) → Only (λ (x : Opened). opened_says x ≡ opened_says (open_of f))
  pub gaps : (f : List ℕ) → Only (λ (x : Asked). asked_says x ≡ asked_says (gaps_of f))
  pub list : (f out : List ℕ)
      → Only (λ (x : Outcome Listed). (listed_says x.answer ≡ listed_says (listed_of f out)) × (x.lent ≡ listed_out f out))
  pub find : (f out : List ℕ)
      → Only (λ (x : Outcome Listed). (listed_says x.answer ≡ listed_says (report_of f out)) × (x.lent ≡ report_out f out))
  pub entry : (f : List ℕ) (s : ℕ)
      → Only (λ (x : Found). (taken_says (taken_in x) ≡ taken_says (taken_in (found_of f s))) × (fields_in x ≡ fields_in (found_of f s)))
  pub show : (f : List ℕ) (s : ℕ) → Only (λ (x : Span). span_says x ≡ span_says (show_of f s))
  pub read : (f : List ℕ) (s : ℕ) → Only (λ (x : Span). span_says x ≡ span_says (read_of f s))
  pub class : (s : List ℕ) (n : ℕ) → Only (λ (x : Span). span_says x ≡ span_says (class_of s n))
  pub rest : (s : List ℕ) → Only (λ (x : Span). span_says x ≡ span_says (data_of s))
  -- the parts that show, read, class and data name, of what is lent at an address
  pub parts : (f : List ℕ) (at : ℕ × ℕ) (s : Span) → Only (λ (x : Slice). (x.holds ≡ part_of f s) × (x.begins ≡ bytes_on (span_place f s) at))
  pub save_scan : (f : List ℕ) (slot : ℕ) (scan about : List ℕ) → Only (Begins (save_of f slot scan about))
  pub keep_scan : (f scan about : List ℕ) → Only (Begins (keep_of f scan about))
  pub clear_slot : (f : List ℕ) (slot : ℕ) → Only (Begins (clear_of f slot))
  pub step-job : (f scan : List ℕ) (j : Job)
      → Only (λ (x : Outcome Stepped).
      (step_says x.answer.answer ≡ step_says (step_answer f scan j)) × (x.answer.job ≡ step_job f scan j) × (x.lent ≡ step_file f scan j))
  pub blank : (f : List ℕ) (n l m : ℕ)
      → Only (λ (x : Outcome Taken). (taken_says x.answer ≡ taken_says (blank_of f n l m)) × (x.lent ≡ blank_file f n l m))
  pub convert : (v : ℕ) (f out : List ℕ)
      → Only (λ (x : Outcome Taken). (taken_says x.answer ≡ taken_says (convert_of v f out)) × (x.lent ≡ converted_out v f out))
  -- 2026-07: "what each call leaves in link and row is an equation"; begin writes nothing to the row, and finish "changes nothing"
  pub link_begin : (len : ℕ) (row : List ℕ) → Only (Links (fresh_link 0) (begin_of len row))
  pub link_take : (k : Link) (p row : List ℕ) → Only (λ (x : Outcome Linked). Links k (take_of k p row) x.answer × (x.lent ≡ take_row k p row))
  pub link_finish : (k : Link) (row : List ℕ) → Only (λ (x : Opened). opened_says x ≡ opened_says (finish_of k row))
