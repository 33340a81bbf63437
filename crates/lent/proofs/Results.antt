-- What an Option or a Result was before the library's method made the answer of it: `ok_or`, `map_err`.
use Rattle.std.proofs.Common.{◌≡◌, Option, Some, None, Result, Ok, Err, refl, sym, ap, ◌∙◌}
use Rattle.std.specs.Prelude.{MatchResult}
use Rattle.std.specs.Option.{ok_or}
use Rattle.std.specs.Result.{IsErrAnd}
use Rattle.lent.proofs.Checks.{err≢ok, err-same, ok-same, passed-on}

module _ {A R : Type 0} where
  pub ok_or-some : (o : Option A) (r : R) {y : Result A R} {a : A} → y ≡ ok_or o r → y ≡ Ok a → o ≡ Some a
  ok_or-some (Some x) r m e = ap Some (ok-same (sym m ∙ e))
  ok_or-some None r m e = absurd (err≢ok (sym m ∙ e))

  pub ok_or-none : (o : Option A) (r : R) {y : Result A R} {q : R} → y ≡ ok_or o r → y ≡ Err q → (o ≡ None) × (q ≡ r)
  ok_or-none (Some x) r m e = absurd (err≢ok (sym e ∙ m))
  ok_or-none None r m e = (refl, err-same (sym e ∙ m))

-- `y` is `x` with another error
module _ {A E R : Type 0} (f : E → R) where
  abbrev pub Mapped : Result A E → Result A R → Type 0
  Mapped x y = MatchResult x (λ a. y ≡ Ok a) (λ e. IsErrAnd y (λ r. r ≡ f e))

  pub mapped-ok : (x : Result A E) {y : Result A R} {a : A} → Mapped x y → y ≡ Ok a → x ≡ Ok a
  mapped-ok (Ok b) m e = ap Ok (ok-same (sym m ∙ e))
  mapped-ok (Err q) {y} m e = absurd (err≢ok (sym (passed-on y m) ∙ e))

  pub mapped-err : (x : Result A E) {y : Result A R} {r : R} → Mapped x y → y ≡ Err r → (q : E) × (x ≡ Err q) × (r ≡ f q)
  mapped-err (Ok b) m e = absurd (err≢ok (sym e ∙ m))
  mapped-err (Err q) {y} m e = (q, refl, err-same (sym e ∙ passed-on y m))
