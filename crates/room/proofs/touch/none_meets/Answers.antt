use Rattle.room.proofs.Freeing.{missed-zero, missed_more}
use native.Mathlib.Omega.{arith}
use borrow.Author.Tests.{eqb-true}
use Rattle.room.proofs.touch.none_meets.Goals as goal

pub loop-x-init : goal.loop-x-init
loop-x-init c = (omega arith, λ z. missed-zero _ _ _)

pub loop-x-preserved : goal.loop-x-preserved
loop-x-preserved c = let h = c.meets-met.ensures in (omega arith, λ z. missed_more _ _ _ _ (c.loop-x.invariant.1 (omega arith)) (h.1 (omega arith)))

pub returns : goal.returns
returns c = λ h. let v = c.loop-x.invariant.1 (eqb-true _ _ h) in record { clear = λ t a b. v.clear t a (omega arith) }
