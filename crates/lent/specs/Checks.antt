-- Checks in a row: each is a test and what to refuse with where the test holds. The first that fires decides.
use Rattle.std.specs.Prelude.{Bool, cond, List, [], ◌∷◌}

pub data Check (R : Type 0) : Type 0 where
  check : Bool → R → Check R

-- what the checks came to: a refusal, or none
pub data Fired (R : Type 0) : Type 0 where
  clear : Fired R
  fires : R → Fired R

abbrev pub fired : {R : Type 0} → List (Check R) → Fired R
fired [] = clear
fired (check t r ∷ cs) = cond t (fires r) (fired cs)

-- the refusal that fired, as an answer, else the answer a
abbrev pub answer : {R A : Type 0} → (R → A) → A → Fired R → A
answer refuse a clear = a
answer refuse a (fires r) = refuse r

abbrev pub judge : {R A : Type 0} → (R → A) → List (Check R) → A → A
judge refuse cs a = answer refuse a (fired cs)
