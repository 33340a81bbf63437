use native.Mathlib.Omega.{arith}
use Rattle.gaps.proofs.Left.{swept-start, gaps-no, gaps-yes}
use Rattle.gaps.proofs.walk.none_left.Goals as goal

pub loop-r-init : goal.loop-r-init
loop-r-init c = swept-start _ _ _ (omega arith)

pub returns-in_default : goal.returns-in_default
returns-in_default c = gaps-no _ _ c.loop-r.r (omega arith) c.in_default.ensures

pub returns : goal.returns
returns c = gaps-yes _ _ c.loop-r.invariant (omega arith)
