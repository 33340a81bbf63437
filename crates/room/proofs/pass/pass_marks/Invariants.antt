use Rattle.marks.specs.Marks.{Blocked}
use Prim.Native.Nat.{◌+◌, ◌-◌}
use Rattle.room.proofs.pass.pass_marks.Given as goal

abbrev pub invariant-loop-i : goal.invariant-loop-i
invariant-loop-i l = Blocked l.marks l.k l.from l.i

abbrev pub decreases-loop-i : goal.decreases-loop-i
decreases-loop-i l = l.top + 1 - l.i
