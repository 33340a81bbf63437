use Rattle.room.proofs.Freeing.{jump, touch-here}
use Rattle.paper.specs.Index.{row_run}
use native.Mathlib.Omega.{arith}
use Rattle.room.proofs.pass.step.Goals as goal

pub returns-then-shares : goal.returns-then-shares
returns-then-shares c = let e = c.run_in-b.ensures in jump (row_run _) _ _ _ c.requires.sought.some c.requires.passed c.requires.sought.ranged c.requires.sought.inside _ (touch-here (row_run _) _ _ _ _ _ _ (omega arith) (omega arith) c.span-a.ensures e c.shares.ensures c.if-shares.true) _ cc
