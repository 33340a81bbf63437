-- The answers of the paper as the C face gives them: "`why` is {0, 0} where the call is accepted, .. every other field of a refused answer is 0".
use Rattle.std.specs.Prelude.{ℕ, ◌≤◌, Bool, cond, List, [], ◌∷◌, leb, eqb, Ok, Err}
use Rattle.lent.specs.Lists.{all}
use Rattle.paper.specs.declared.refusal.Refusal.{Refusal}
use Rattle.paper.specs.declared.refusal.Refusal.TheVariants.{Disagrees}
use Rattle.paper.specs.Answers.{Opened, Listed, Span, Taken, Asked, Found, Linked, Begun, StepAnswer, taken_in}
use Rattle.paper.specs.declared.entry.Entry.{Entry}
use Rattle.paper.specs.Look.{fields_in}
use Rattle.paper.specs.Store.{job_in}
use Rattle.paper.specs.Link.{link_in}
use Rattle.paper.specs.declared.link.Link.{Link}
use Rattle.paper.specs.declared.job.Job.{Job}
use Rattle.paper.specs.declared.job.Step.TheVariants as step
use Rattle.paper.specs.Refusals.{number_of, value_of, kind_says}
use Rattle.paper.specs.Sizes.{capacity_of, room_of, Shaped}
use Rattle.paper.specs.Step.{step_file, step_job, step_answer}
use Rattle.sdd.specs.declared.face.Why.{Why}
use Rattle.sdd.specs.declared.face.COpened.{COpened}
use Rattle.sdd.specs.declared.face.CListed.{CListed}
use Rattle.sdd.specs.declared.face.CAnswer.{CAnswer}
use Rattle.sdd.specs.declared.face.CSpan.{CSpan}
use Rattle.sdd.specs.declared.face.CEntry.{CEntry}
use Rattle.sdd.specs.declared.face.CJob.{CJob}
use Rattle.sdd.specs.declared.face.CBegun.{CBegun}
use Rattle.sdd.specs.declared.face.CStepped.{CStepped}
use Rattle.sdd.specs.declared.face.CLink.{CLink}
use Rattle.sdd.specs.declared.face.CLinked.{CLinked}
use Rattle.sdd.specs.declared.jobs.Told.{Told}

abbrev pub none : Why
none = record { number = 0; value = 0 }

abbrev pub why_of : Refusal → Why
why_of r = record { number = number_of r; value = value_of r }

abbrev pub taken_c : Taken → Why
taken_c (Ok tt) = none
taken_c (Err r) = why_of r

-- `len` is the file's length, from which its room follows
abbrev pub opened_c : ℕ → Opened → COpened
opened_c len (Ok z) =
    record {
      why = none;
      n = z.n;
      d = z.d;
      l = z.l;
      m = z.m;
      u = z.u;
      counter = z.counter;
      kind = z.kind;
      capacity = capacity_of z;
      room = room_of z len;
      version = z.version;
    }
opened_c len (Err r) =
    record { why = why_of r; n = 0; d = 0; l = 0; m = 0; u = 0; counter = 0; kind = 0; capacity = 0; room = 0; version = 0 }

abbrev pub listed_c : Listed → CListed
listed_c (Ok n) = record { why = none; scans = n }
listed_c (Err r) = record { why = why_of r; scans = 0 }

abbrev pub asked_c : Asked → CAnswer
asked_c (Ok so) = record { why = none; yes = cond so 1 0 }
asked_c (Err r) = record { why = why_of r; yes = 0 }

abbrev pub span_c : Span → CSpan
span_c (Ok (from, to)) = record { why = none; from = from; to = to }
span_c (Err r) = record { why = why_of r; from = 0; to = 0 }

-- an entry, in numbers; a refused call's is all zeros (`fields_in`)
abbrev pub entry_c : Why → Entry → CEntry
entry_c why e =
    record {
      why = why;
      first = e.first;
      last = e.last;
      horizontal = e.horizontal;
      vertical = e.vertical;
      source = e.source;
      scan = e.scan;
      field4 = e.field4;
      field8 = e.field8;
      lst = e.lst;
      date = e.date;
      mode = e.mode;
      number = e.number;
      position = e.position;
      magic = e.magic;
      kind = (kind_says e.kind).number;
      single = (kind_says e.kind).single;
      double = (kind_says e.kind).double;
    }

abbrev pub found_c : Found → CEntry
found_c f = entry_c (taken_c (taken_in f)) (fields_in f)

-- a job and its numbers: "1 a save or keep, 0 a clear", and likewise whether it lowers U
abbrev pub job_c : Job → CJob
job_c j =
    record {
      saves = cond j.saves 1 0;
      slot = j.slot;
      size = j.size;
      span = j.span;
      first = j.first;
      written = j.written;
      lowers = cond j.lowers 1 0;
      old = j.old;
      many = j.many;
      boot = j.boot;
      about = j.about;
    }

abbrev pub job_of : CJob → Job
job_of c =
    record {
      saves = eqb c.saves 1;
      slot = c.slot;
      size = c.size;
      span = c.span;
      first = c.first;
      written = c.written;
      lowers = eqb c.lowers 1;
      old = c.old;
      many = c.many;
      boot = c.boot;
      about = c.about;
    }

abbrev pub begun_c : Begun → CBegun
begun_c b = record { why = taken_c (taken_in b); job = job_c (job_in b) }

abbrev pub link_c : Link → CLink
link_c k = record { span = k.span; came = k.came; ends = k.ends; boot = k.boot }

abbrev pub link_of : CLink → Link
link_of c = record { span = c.span; came = c.came; ends = c.ends; boot = c.boot }

-- refused it is the link k
abbrev pub linked_c : Link → Linked → CLinked
linked_c k l = record { why = taken_c (taken_in l); link = link_c (link_in k l) }

-- what was done (0 wrote a record, 1 Saved, 2 Cleared), the record and the count
abbrev pub told_done : ℕ → ℕ → ℕ → Told
told_done what r count = record { why = none; done = what; wrote = r; written = count }

abbrev pub told_of : StepAnswer → Told
told_of (Ok (step.Wrote r count)) = told_done 0 r count
told_of (Ok (step.Saved r count)) = told_done 1 r count
told_of (Ok (step.Cleared r count)) = told_done 2 r count
told_of (Err r) = record { why = why_of r; done = 0; wrote = 0; written = 0 }

-- the answer beside the job
abbrev pub beside : Told → CJob → CStepped
beside t job = record { why = t.why; done = t.done; wrote = t.wrote; written = t.written; job = job }

abbrev pub stepped_c : StepAnswer → CJob → CStepped
stepped_c a job = beside (told_of a) job

-- "a value other than 0 and 1 is 14", of either
abbrev pub flag_tests : CJob → List Bool
flag_tests c = leb c.saves 1 ∷ leb c.lowers 1 ∷ []

unfoldable pub flagged : CJob → Bool
flagged c = all (flag_tests c)

unfoldable pub step_c : List ℕ → List ℕ → CJob → CStepped
step_c f scan c =
    cond (flagged c) (stepped_c (step_answer f scan (job_of c)) (job_c (step_job f scan (job_of c)))) (stepped_c (Err Disagrees) c)

unfoldable pub step_file_c : List ℕ → List ℕ → CJob → List ℕ
step_file_c f scan c = cond (flagged c) (step_file f scan (job_of c)) f

-- ---- no slot is above 4,096 and no reason above 6: a refusal's value fits the face. Sizes that open are in their ranges.

abbrev pub OpenedSmall : Opened → Type 0
OpenedSmall (Ok z) = Shaped z
OpenedSmall (Err r) = value_of r ≤ 4096

abbrev pub TakenSmall : Taken → Type 0
TakenSmall (Ok tt) = Unit
TakenSmall (Err r) = value_of r ≤ 4096

abbrev pub SpanSmall : Span → Type 0
SpanSmall (Ok (from, to)) = Unit
SpanSmall (Err r) = value_of r ≤ 4096

abbrev pub StepSmall : StepAnswer → Type 0
StepSmall (Ok (step.Wrote r count)) = Unit
StepSmall (Ok (step.Saved r count)) = Unit
StepSmall (Ok (step.Cleared r count)) = Unit
StepSmall (Err r) = value_of r ≤ 4096

abbrev pub ListedSmall : Listed → Type 0
ListedSmall (Ok n) = Unit
ListedSmall (Err r) = value_of r ≤ 4096

abbrev pub AskedSmall : Asked → Type 0
AskedSmall (Ok so) = Unit
AskedSmall (Err r) = value_of r ≤ 4096
