use Rattle.room.proofs.Freeing.{passed_none}
use native.Mathlib.Omega.{arith}
use Rattle.room.proofs.pass.sweep.Goals as goal

pub loop-x-init : goal.loop-x-init
loop-x-init c = passed_none _ _ _ _ c.requires.ranged (omega arith)
