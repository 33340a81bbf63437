-- A call that hands something back: what it says of itself, and what it hands back, are its whole answer.
use Rattle.std.specs.Prelude.{Result, Ok, Err}
use Rattle.std.specs.Result.{result_unwrap_or}
use mathlib.Core.Path.{◌≡◌, refl, sym, ap}
use mathlib.Core.List.{List}
use Rattle.lent.specs.Checks.{Check, Fired, clear, fires, fired, answer, judge}
use Rattle.lent.proofs.Checks.{err≢ok, err-same}
use Rattle.paper.specs.declared.refusal.Refusal.{Refusal}
use Rattle.paper.specs.Answers.{taken_in}

module _ {A : Type 0} where
  -- a refusal has nothing else
  pub taken-err : (x : Result A Refusal) (r : Refusal) → taken_in x ≡ Err r → x ≡ Err r
  taken-err (Ok a) r e = absurd (err≢ok (sym e))
  taken-err (Err q) r e = ap Err (err-same e)

  -- accepted where none of its checks fires
  pub taken-ok : (cs : List (Check Refusal)) (a : A) → taken_in (judge Err cs (Ok a)) ≡ Ok tt → fired cs ≡ clear
  taken-ok cs a e = go (fired cs) e
    where
      go : (x : Fired Refusal) → taken_in (answer {A = Result A Refusal} Err (Ok a) x) ≡ Ok tt → x ≡ clear
      go clear e = refl
      go (fires r) e = absurd (err≢ok e)

  pub handed-only : (none : A) (x y : Result A Refusal) → taken_in x ≡ taken_in y → result_unwrap_or x none ≡ result_unwrap_or y none → x ≡ y
  handed-only none (Ok a) (Ok b) e h = ap Ok h
  handed-only none (Ok a) (Err r) e h = absurd (err≢ok (sym e))
  handed-only none (Err q) y e h = sym (taken-err y q (sym e))
