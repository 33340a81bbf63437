use Prim.Native.Nat.{◌-◌}
use Rattle.paper.specs.Sizes.{capacity_of}
use Rattle.entries.specs.Row.{Bare}
use Rattle.used.proofs.highest_to.Given as goal

abbrev pub invariant-loop-t : goal.invariant-loop-t
invariant-loop-t l = Bare l.file.bytes.now l.file.z (l.t - 1) (capacity_of l.file.z)
