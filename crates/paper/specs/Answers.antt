-- What the calls answer: a value where the call is accepted, else the refusal.
use Rattle.std.specs.Prelude.{ℕ, Bool, Result, Ok, Err}
use Rattle.paper.specs.declared.sizes.Sizes.{Sizes}
use Rattle.paper.specs.declared.refusal.Refusal.{Refusal}
use Rattle.paper.specs.declared.entry.Entry.{Entry}
use Rattle.paper.specs.declared.job.Job.{Job}
use Rattle.paper.specs.declared.job.Step.{Step}
use Rattle.paper.specs.declared.link.Link.{Link}

-- the sizes of a file that opens
abbrev pub Opened : Type 0
Opened = Result Sizes Refusal

-- how many scans were listed
abbrev pub Listed : Type 0
Listed = Result ℕ Refusal

-- the bytes from the first number up to the second, of what was lent
abbrev pub Span : Type 0
Span = Result (ℕ × ℕ) Refusal

-- HEADLEN and DATALEN, or the number of the first rule broken
abbrev pub Ruled : Type 0
Ruled = Result (ℕ × ℕ) ℕ

-- a call that has nothing to say of its own
abbrev pub Taken : Type 0
Taken = Result Unit Refusal

-- a question that has a yes or a no
abbrev pub Asked : Type 0
Asked = Result Bool Refusal

-- entry: the fields; save, keep and clear: the job; begin and take: the link
abbrev pub Found : Type 0
Found = Result Entry Refusal

abbrev pub Begun : Type 0
Begun = Result Job Refusal

abbrev pub Linked : Type 0
Linked = Result Link Refusal

-- what such a call says of itself, apart from what it hands back
abbrev pub taken_in : {A : Type 0} → Result A Refusal → Taken
taken_in (Ok a) = Ok tt
taken_in (Err r) = Err r

-- what a step did
abbrev pub StepAnswer : Type 0
StepAnswer = Result Step Refusal
