-- The laws of checks in a row: what is known where none fires, which one fires, and what the answer says of them.
use Rattle.std.proofs.Common.{◌≡◌, ℕ, Bool, true, false, List, [], ◌∷◌, ◌++◌, Result, Ok, Err, refl, sym, ap, ◌∙◌, arith}
use Rattle.std.specs.Result.{IsErrAnd}
use Rattle.std.proofs.lemmas.Result.{err_from_is_err_and}
use Rattle.lent.specs.Checks.{Check, check, Fired, clear, fires, fired, answer, judge}

module _ {R : Type 0} where
  pub clear≢fires : (x : Fired R) (r : R) → x ≡ clear → x ≡ fires r → ⊥
  clear≢fires x r p q = let z : ◌≡◌ {A = ℕ} 0 1 = cc in omega arith

  pub fires-same : (x : Fired R) (q r : R) → x ≡ fires q → x ≡ fires r → q ≡ r
  fires-same x q r e f = cc

  -- no check of the list fires
  abbrev pub Clear : List (Check R) → Type 0
  Clear [] = Unit
  Clear (check t r ∷ cs) = (t ≡ false) × Clear cs

  pub clear-cons : (t : Bool) (r : R) (cs : List (Check R)) → fired (check t r ∷ cs) ≡ clear → (t ≡ false) × (fired cs ≡ clear)
  clear-cons true r cs e = absurd (clear≢fires (fires r) r e refl)
  clear-cons false r cs e = (refl, e)

  pub cons-clear : (t : Bool) (r : R) (cs : List (Check R)) → t ≡ false → fired cs ≡ clear → fired (check t r ∷ cs) ≡ clear
  cons-clear t r cs p q = rw p q

  pub clear-all : (cs : List (Check R)) → fired cs ≡ clear → Clear cs
  clear-all [] e = tt
  clear-all (check t r ∷ cs) e = let p = clear-cons t r cs e in (p.0, clear-all cs p.1)

  pub all-clear : (cs : List (Check R)) → Clear cs → fired cs ≡ clear
  all-clear [] h = refl
  all-clear (check t r ∷ cs) h = cons-clear t r cs h.0 (all-clear cs h.1)

  -- the check fires, or is passed
  pub fires-here : (t : Bool) (r : R) (cs : List (Check R)) → t ≡ true → fired (check t r ∷ cs) ≡ fires r
  fires-here t r cs p = rw p

  -- one list after another: where the first is clear the second decides, and where it fires it decides
  pub clear-append : (cs ds : List (Check R)) → fired cs ≡ clear → fired (cs ++ ds) ≡ fired ds
  clear-append [] ds e = refl
  clear-append (check t r ∷ cs) ds e = let p = clear-cons t r cs e in rw p.0 (clear-append cs ds p.1)

  pub fires-append : (cs ds : List (Check R)) (r : R) → fired cs ≡ fires r → fired (cs ++ ds) ≡ fires r
  fires-append [] ds r e = absurd (clear≢fires clear r refl e)
  fires-append (check true q ∷ cs) ds r e = e
  fires-append (check false q ∷ cs) ds r e = fires-append cs ds r e

  -- and back: a clear whole is clear in both
  pub append-clear : (cs ds : List (Check R)) → fired (cs ++ ds) ≡ clear → (fired cs ≡ clear) × (fired ds ≡ clear)
  append-clear [] ds e = (refl, e)
  append-clear (check t r ∷ cs) ds e =
      let p = clear-cons t r (cs ++ ds) e in
      let q = append-clear cs ds p.1 in
      (cons-clear t r cs p.0 q.0, q.1)

  module _ {A : Type 0} (refuse : R → A) (cs : List (Check R)) (a : A) where
    pub judge-clear : fired cs ≡ clear → judge refuse cs a ≡ a
    judge-clear e = ap (answer refuse a) e

    pub judge-fires : (r : R) → fired cs ≡ fires r → judge refuse cs a ≡ refuse r
    judge-fires r e = ap (answer refuse a) e

    -- an answer that is no refusal
    pub judge-passed : (b : A) → ((r : R) → refuse r ≡ b → ⊥) → judge refuse cs a ≡ b → (fired cs ≡ clear) × (a ≡ b)
    judge-passed b never e = go (fired cs) e
      where
        go : (x : Fired R) → answer refuse a x ≡ b → (x ≡ clear) × (a ≡ b)
        go clear e = (refl, e)
        go (fires r) e = absurd (never r e)

    -- an answer that is a refusal
    pub judge-refused : (r : R) → ((p q : R) → refuse p ≡ refuse q → p ≡ q) → (a ≡ refuse r → ⊥) → judge refuse cs a ≡ refuse r → fired cs ≡ fires r
    judge-refused r one never e = go (fired cs) e
      where
        go : (x : Fired R) → answer refuse a x ≡ refuse r → x ≡ fires r
        go clear e = absurd (never e)
        go (fires q) e = ap fires (one q r e)

  -- one list after another, judged
  pub judge-append : {A : Type 0} (refuse : R → A) (cs ds : List (Check R)) (a : A) → judge refuse (cs ++ ds) a ≡ judge refuse cs (judge refuse ds a)
  judge-append refuse [] ds a = refl
  judge-append refuse (check true r ∷ cs) ds a = refl
  judge-append refuse (check false r ∷ cs) ds a = judge-append refuse cs ds a

-- a value or the refusal, as code answers it: it says which, and which one
module _ {A R : Type 0} where
  pub err≢ok : {r : R} {a : A} → ◌≡◌ {A = Result A R} (Err r) (Ok a) → ⊥
  err≢ok e = let z : ◌≡◌ {A = ℕ} 0 1 = cc in omega arith

  pub err-same : {q r : R} → ◌≡◌ {A = Result A R} (Err q) (Err r) → q ≡ r
  err-same e = cc

  -- what a `?` hands on is the refusal as it came
  pub passed-on : (x : Result A R) {r : R} → IsErrAnd x (λ y. y ≡ r) → x ≡ Err r
  passed-on x h = let p = err_from_is_err_and x h in p.1 ∙ ap Err p.2

  pub ok-same : {a b : A} → ◌≡◌ {A = Result A R} (Ok a) (Ok b) → a ≡ b
  ok-same e = cc

  module _ (cs : List (Check R)) (a : A) where
    pub judged-ok : {b : A} → judge Err cs (Ok a) ≡ Ok b → (fired cs ≡ clear) × (a ≡ b)
    judged-ok {b} e = let p = judge-passed Err cs (Ok a) (Ok b) (λ r. err≢ok) e in (p.0, ok-same p.1)

    pub judged-err : {r : R} → judge Err cs (Ok a) ≡ Err r → fired cs ≡ fires r
    judged-err {r} e = judge-refused Err cs (Ok a) r (λ p q. err-same) (λ x. err≢ok (sym x)) e
