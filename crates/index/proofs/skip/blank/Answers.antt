use Rattle.index.proofs.Rising.{runs-bare}
use native.Mathlib.Omega.{arith}
use Rattle.index.proofs.skip.blank.Goals as goal

pub loop-x-preserved : goal.loop-x-preserved
loop-x-preserved c = runs-bare _ _ c.loop-x.row _ _ _ c.requires.j_le_u.1 (omega arith) (omega arith) (omega arith) c.loop-x.invariant
