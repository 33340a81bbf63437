use Rattle.entries.specs.Row.{Bare}
use Prim.Native.Nat.{◌≤◌, ◌-◌}
use Rattle.entries.proofs.file.File.past_empty.Given as goal

abbrev pub invariant-loop-i : goal.invariant-loop-i
invariant-loop-i l = (l.i ≤ l.to) × Bare l.file.bytes.now l.file.z l.from l.i

abbrev pub decreases-loop-i : goal.decreases-loop-i
decreases-loop-i l = l.to - l.i
