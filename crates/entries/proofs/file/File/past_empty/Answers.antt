use Rattle.entries.proofs.Judging.{bare-none, bare-more}
use native.Mathlib.Omega.{arith}
use Rattle.entries.proofs.file.File.past_empty.Goals as goal

pub loop-i-init : goal.loop-i-init
loop-i-init c = (omega arith, bare-none _ _ _)

pub loop-i-preserved : goal.loop-i-preserved
loop-i-preserved c = (omega arith, bare-more _ _ _ _ _ c.loop-i.invariant.1 (c.all_empty.ensures c.if-not-all_empty.false))
