use Rattle.entries.specs.Row.{Bare}
use Rattle.used.proofs.past_empty.Given as goal

abbrev pub invariant-loop-i : goal.invariant-loop-i
invariant-loop-i l = Bare l.file.bytes.now l.file.z l.i l.top

abbrev pub decreases-loop-i : goal.decreases-loop-i
decreases-loop-i l = l.i
