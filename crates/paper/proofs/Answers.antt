-- Number and values determine the answer: of every answer's definition in the paper's numbers there is a way back.
use Rattle.std.specs.Prelude.{Ok, Err}
use Prim.Native.Nat.{ℕ, ◌≤◌, ◌<◌}
use mathlib.Core.Path.{◌≡◌, refl, sym, ◌∙◌, ap}
use mathlib.Core.Bool.{true, false, cond}
use mathlib.Core.List.{List, [], ◌∷◌}
use native.Mathlib.Omega.{arith}
use lib.Dec.{eqb}
use lib.ListN.{get_or, get_or-eq_default}
use borrow.Author.Tests.{ne_eqb}
use Rattle.paper.specs.declared.refusal.Refusal.{Refusal}
use Rattle.paper.specs.declared.refusal.Refusal.TheVariants.{TooShort, OldForm, UnknownForm, OutOfRange, PastEnd, BadEntry, AboveUse, SharedRecord, NoSuchSlot, EmptySlot, BadScan, NoEmptySlot, NoRoom, Disagrees, Differs, BadBlank, TooSmall, NotVersionOne, NotConvertible, NotAllCame}
use Rattle.paper.specs.Answers.{Opened, Listed, Span, Taken, Asked, StepAnswer}
use Rattle.paper.specs.declared.job.Step.TheVariants as step
use Rattle.paper.specs.Refusals.{number_of, highest_refusal, value_of, Says, refuses, opened_says, listed_says, span_says, taken_says, asked_says, step_says}

-- what can be undone tells its arguments apart
only : {A B : Type 0} (says : A → B) (back : B → A) → ((a : A) → back (says a) ≡ a) → (a b : A) → says a ≡ says b → a ≡ b
only says back undo a b e = sym (undo a) ∙ ap back e ∙ undo b

-- ---- refusals

-- the refusals by number, with value v; at 0 is none
abbrev refusals : ℕ → List Refusal
refusals v =
    TooShort
    ∷ TooShort
    ∷ OldForm
    ∷ UnknownForm
    ∷ OutOfRange
    ∷ PastEnd
    ∷ BadEntry v
    ∷ AboveUse v
    ∷ SharedRecord v
    ∷ NoSuchSlot
    ∷ EmptySlot
    ∷ BadScan v
    ∷ NoEmptySlot
    ∷ NoRoom
    ∷ Disagrees
    ∷ Differs
    ∷ BadBlank
    ∷ TooSmall
    ∷ NotVersionOne
    ∷ NotConvertible
    ∷ NotAllCame
    ∷ []

-- the refusal with number n and value v
abbrev refusal_at : ℕ → ℕ → Refusal
refusal_at n v = get_or (refusals v) n TooShort

undo : (r : Refusal) → refusal_at (number_of r) (value_of r) ≡ r
undo TooShort = refl
undo OldForm = refl
undo UnknownForm = refl
undo OutOfRange = refl
undo PastEnd = refl
undo (BadEntry slot) = refl
undo (AboveUse slot) = refl
undo (SharedRecord slot) = refl
undo NoSuchSlot = refl
undo EmptySlot = refl
undo (BadScan reason) = refl
undo NoEmptySlot = refl
undo NoRoom = refl
undo Disagrees = refl
undo Differs = refl
undo BadBlank = refl
undo TooSmall = refl
undo NotVersionOne = refl
undo NotConvertible = refl
undo NotAllCame = refl

-- no refusal has number 0, the number of what is accepted
pub number-some : (r : Refusal) → number_of r ≡ 0 → ⊥
number-some r e =
    let t : r ≡ TooShort = sym (undo r) ∙ ap (λ (n : ℕ). refusal_at n (value_of r)) e in
    let k : number_of r ≡ 1 = ap (λ (q : Refusal). number_of q) t in
    omega arith

-- no refusal has a number above the highest: at such a place of the list is its default
number_past : (r : Refusal) → highest_refusal < number_of r → ⊥
number_past r h =
    let t : r ≡ TooShort = sym (undo r) ∙ get_or-eq_default (refusals (value_of r)) TooShort {n = number_of r} (omega arith) in
    let k : number_of r ≡ 1 = ap (λ (q : Refusal). number_of q) t in
    omega arith

pub numbered : (r : Refusal) → (1 ≤ number_of r) × (number_of r ≤ highest_refusal)
numbered r = (omega (arith, number-some r), omega (arith, number_past r))

-- and the highest is some refusal's
pub highest-taken : number_of (refusal_at highest_refusal 0) ≡ highest_refusal
highest-taken = refl

pub refusal-only : (q r : Refusal) → refuses q ≡ refuses r → q ≡ r
refusal-only = only refuses (λ s. refusal_at s.number (get_or s.values 0 0)) undo

-- ---- answers: number 0 and the values, or a refusal

module _ {A : Type 0} (accept : List ℕ → A) (refuse : Refusal → A) where
  abbrev answer_at : Says → A
  answer_at s = cond (eqb s.number 0) (accept s.values) (refuse (refusal_at s.number (get_or s.values 0 0)))

  undo-refused : (r : Refusal) → answer_at (refuses r) ≡ refuse r
  undo-refused r = let n = ne_eqb (number_of r) 0 (number-some r) in rw n (ap refuse (undo r))

abbrev opens : List ℕ → Opened
opens vs =
    Ok
    (record { n = get_or vs 0 0; d = get_or vs 1 0; l = get_or vs 2 0; m = get_or vs 3 0; u = get_or vs 4 0; counter = get_or vs 5 0; kind = get_or vs 6 0; version = get_or vs 7 0 })

undo-opened : (a : Opened) → answer_at opens Err (opened_says a) ≡ a
undo-opened (Ok z) = refl
undo-opened (Err r) = undo-refused opens Err r

pub opened-only : (a b : Opened) → opened_says a ≡ opened_says b → a ≡ b
opened-only = only opened_says (answer_at opens Err) undo-opened

abbrev scans : List ℕ → Listed
scans vs = Ok (get_or vs 0 0)

undo-listed : (a : Listed) → answer_at scans Err (listed_says a) ≡ a
undo-listed (Ok n) = refl
undo-listed (Err r) = undo-refused scans Err r

pub listed-only : (a b : Listed) → listed_says a ≡ listed_says b → a ≡ b
listed-only = only listed_says (answer_at scans Err) undo-listed

abbrev part : List ℕ → Span
part vs = Ok (get_or vs 0 0, get_or vs 1 0)

undo-span : (a : Span) → answer_at part Err (span_says a) ≡ a
undo-span (Ok (from, to)) = refl
undo-span (Err r) = undo-refused part Err r

pub span-only : (a b : Span) → span_says a ≡ span_says b → a ≡ b
span-only = only span_says (answer_at part Err) undo-span

abbrev accepted : List ℕ → Taken
accepted vs = Ok tt

undo-taken : (a : Taken) → answer_at accepted Err (taken_says a) ≡ a
undo-taken (Ok tt) = refl
undo-taken (Err r) = undo-refused accepted Err r

pub taken-only : (a b : Taken) → taken_says a ≡ taken_says b → a ≡ b
taken-only = only taken_says (answer_at accepted Err) undo-taken

abbrev is : List ℕ → Asked
is vs = Ok (eqb (get_or vs 0 0) 1)

undo-asked : (a : Asked) → answer_at is Err (asked_says a) ≡ a
undo-asked (Ok true) = refl
undo-asked (Ok false) = refl
undo-asked (Err r) = undo-refused is Err r

pub asked-only : (a b : Asked) → asked_says a ≡ asked_says b → a ≡ b
asked-only = only asked_says (answer_at is Err) undo-asked

-- by what was done, then record and count
abbrev done : List ℕ → StepAnswer
done vs =
    let r = get_or vs 1 0 in
    let count = get_or vs 2 0 in
    get_or (Ok (step.Wrote r count) ∷ Ok (step.Saved r count) ∷ Ok (step.Cleared r count) ∷ []) (get_or vs 0 0) (Ok (step.Wrote r count))

undo-step : (a : StepAnswer) → answer_at done Err (step_says a) ≡ a
undo-step (Ok (step.Wrote r count)) = refl
undo-step (Ok (step.Saved r count)) = refl
undo-step (Ok (step.Cleared r count)) = refl
undo-step (Err r) = undo-refused done Err r

pub step-only : (a b : StepAnswer) → step_says a ≡ step_says b → a ≡ b
step-only = only step_says (answer_at done Err) undo-step
