use Rattle.room.specs.Passing.{Passed}
use Rattle.paper.specs.Index.{row_run}
use Prim.Native.Nat.{◌-◌}
use Rattle.room.proofs.settle.Given as goal

abbrev pub invariant-loop-i : goal.invariant-loop-i
invariant-loop-i l = Passed (row_run l.row) l.z l.k l.i

abbrev pub decreases-loop-i : goal.decreases-loop-i
decreases-loop-i l = l.room - l.i
