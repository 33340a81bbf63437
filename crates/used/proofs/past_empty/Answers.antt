use native.Mathlib.Omega.{arith}
use Rattle.entries.proofs.Judging.{bare-none}
use Rattle.used.proofs.Downward.{eight-down}
use Rattle.used.proofs.past_empty.Goals as goal

pub loop-i-init : goal.loop-i-init
loop-i-init c = bare-none _ _ _

pub loop-i-preserved : goal.loop-i-preserved
loop-i-preserved c = eight-down (omega arith) c.loop-i.invariant (c.all_empty.ensures c.if-not-all_empty.false)
