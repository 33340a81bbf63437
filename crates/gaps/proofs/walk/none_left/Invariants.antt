use Prim.Native.Nat.{◌+◌, ◌-◌}
use Rattle.gaps.specs.Held.{Swept}
use Rattle.gaps.proofs.walk.none_left.Given as goal

abbrev pub invariant-loop-r : goal.invariant-loop-r
invariant-loop-r l = Swept l.file l.z l.r

abbrev pub decreases-loop-r : goal.decreases-loop-r
decreases-loop-r l = l.last + 1 - l.r
