use Rattle.find.specs.Walk.{Counted}
use Prim.Native.Nat.{◌+◌, ◌-◌}
use Rattle.find.proofs.walk.count.Given as goal

abbrev pub invariant-loop-r : goal.invariant-loop-r
invariant-loop-r l = Counted l.file.bytes.now l.file.z l.n l.r

abbrev pub decreases-loop-r : goal.decreases-loop-r
decreases-loop-r l = l.last + 1 - l.r
