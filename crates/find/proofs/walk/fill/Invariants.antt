use Rattle.find.specs.Walk.{Filled}
use Prim.Native.Nat.{◌+◌, ◌-◌}
use Rattle.find.proofs.walk.fill.Given as goal

abbrev pub invariant-loop-at : goal.invariant-loop-at
invariant-loop-at l = Filled l.file.bytes.now l.file.z l.initial.out l.end l.out l.at l.r

abbrev pub decreases-loop-at : goal.decreases-loop-at
decreases-loop-at l = l.file.z.n + l.file.z.d + 1 - l.r
