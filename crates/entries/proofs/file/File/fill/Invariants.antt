use Rattle.entries.specs.Row.{Runs}
use Rattle.entries.proofs.file.File.fill.Given as goal

abbrev pub invariant-loop-i : goal.invariant-loop-i
invariant-loop-i l = Runs l.self.bytes.now l.self.z l.row l.i
