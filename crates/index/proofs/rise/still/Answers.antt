use Rattle.lent.proofs.Lists.{true≢false}
use borrow.Author.Tests.{eqb-true, leb-true}
use mathlib.Core.Path.{refl}
use native.Mathlib.Omega.{arith}
use Rattle.index.proofs.rise.still.Goals as goal

pub returns-then-a-eq0 : goal.returns-then-a-eq0
returns-then-a-eq0 c e = let l = eqb-true c.args.a.last 0 e in record { order = omega arith; past = λ h. absurd (omega arith) }

pub returns-then-a-top : goal.returns-then-a-top
returns-then-a-top c e = absurd (true≢false e refl)

pub returns : goal.returns
returns c e = let l = leb-true _ _ e in record { order = l; past = λ h. omega arith }
