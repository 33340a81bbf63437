use Rattle.entries.specs.Row.{Runs}
use Rattle.index.proofs.skip.blank.Given as goal

abbrev pub invariant-loop-x : goal.invariant-loop-x
invariant-loop-x l = Runs l.file.bytes.now l.fn.file.z l.row l.x
