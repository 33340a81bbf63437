-- 01, "Refusal numbers": the paper's number and values of every answer.
use Rattle.std.specs.Prelude.{ℕ, cond, List, [], ◌∷◌, Float, Ok, Err}
use Rattle.paper.specs.declared.refusal.Refusal.{Refusal}
use Rattle.paper.specs.declared.refusal.Refusal.TheVariants.{TooShort, OldForm, UnknownForm, OutOfRange, PastEnd, BadEntry, AboveUse, SharedRecord, NoSuchSlot, EmptySlot, BadScan, NoEmptySlot, NoRoom, Disagrees, Differs, BadBlank, TooSmall, NotVersionOne, NotConvertible, NotAllCame}
use Rattle.paper.specs.Answers.{Opened, Listed, Span, Taken, Asked, StepAnswer}
use Rattle.paper.specs.declared.entry.Kind.{Kind}
use Rattle.paper.specs.declared.entry.Kind.TheVariants.{Spectral, Continuum, Other}
use Rattle.paper.specs.declared.job.Step.TheVariants as step

-- "Every refusal returns its number": the table's first column
abbrev pub number_of : Refusal → ℕ
number_of TooShort = 1
number_of OldForm = 2
number_of UnknownForm = 3
number_of OutOfRange = 4
number_of PastEnd = 5
number_of (BadEntry slot) = 6
number_of (AboveUse slot) = 7
number_of (SharedRecord slot) = 8
number_of NoSuchSlot = 9
number_of EmptySlot = 10
number_of (BadScan reason) = 11
number_of NoEmptySlot = 12
number_of NoRoom = 13
number_of Disagrees = 14
number_of Differs = 15
number_of BadBlank = 16
number_of TooSmall = 17
number_of NotVersionOne = 18
number_of NotConvertible = 19
number_of NotAllCame = 20

-- the table's last number: a new refusal, with a number of its own, raises it
abbrev pub highest_refusal : ℕ
highest_refusal = 20

-- "with slot or reason where shown, else 0"
abbrev pub value_of : Refusal → ℕ
value_of TooShort = 0
value_of OldForm = 0
value_of UnknownForm = 0
value_of OutOfRange = 0
value_of PastEnd = 0
value_of (BadEntry slot) = slot
value_of (AboveUse slot) = slot
value_of (SharedRecord slot) = slot
value_of NoSuchSlot = 0
value_of EmptySlot = 0
value_of (BadScan reason) = reason
value_of NoEmptySlot = 0
value_of NoRoom = 0
value_of Disagrees = 0
value_of Differs = 0
value_of BadBlank = 0
value_of TooSmall = 0
value_of NotVersionOne = 0
value_of NotConvertible = 0
value_of NotAllCame = 0

-- what an answer says: the refusal's number, or 0 where the call is accepted; and the values that go with it
pub record Says : Type 0 where
  pub number : ℕ
  pub values : List ℕ

abbrev pub accepts : List ℕ → Says
accepts vs = record { number = 0; values = vs }

abbrev pub refuses : Refusal → Says
refuses r = record { number = number_of r; values = value_of r ∷ [] }

abbrev pub opened_says : Opened → Says
opened_says (Ok z) = accepts (z.n ∷ z.d ∷ z.l ∷ z.m ∷ z.u ∷ z.counter ∷ z.kind ∷ z.version ∷ [])
opened_says (Err r) = refuses r

abbrev pub listed_says : Listed → Says
listed_says (Ok n) = accepts (n ∷ [])
listed_says (Err r) = refuses r

abbrev pub span_says : Span → Says
span_says (Ok (from, to)) = accepts (from ∷ to ∷ [])
span_says (Err r) = refuses r

abbrev pub taken_says : Taken → Says
taken_says (Ok tt) = accepts []
taken_says (Err r) = refuses r

-- a question says 1 for yes and 0 for no
abbrev pub asked_says : Asked → Says
asked_says (Ok so) = accepts (cond so 1 0 ∷ [])
asked_says (Err r) = refuses r

-- a step says what was done (0 wrote a record, 1 Saved, 2 Cleared), the record and the count so far
abbrev pub step_says : StepAnswer → Says
step_says (Ok (step.Wrote r count)) = accepts (0 ∷ r ∷ count ∷ [])
step_says (Ok (step.Saved r count)) = accepts (1 ∷ r ∷ count ∷ [])
step_says (Ok (step.Cleared r count)) = accepts (2 ∷ r ∷ count ∷ [])
step_says (Err r) = refuses r

-- an entry's kind says which it is (0 other, 1 continuum, 2 spectral line), its type code, and the two values
pub record KindSays : Type 0 where
  pub number : ℕ
  pub code : ℕ
  pub single : Float
  pub double : Float

abbrev pub kind_says : Kind → KindSays
kind_says (Other a b) = record { number = 0; code = 0; single = a; double = b }
kind_says (Continuum code a b) = record { number = 1; code = code; single = a; double = b }
kind_says (Spectral code a b) = record { number = 2; code = code; single = a; double = b }
