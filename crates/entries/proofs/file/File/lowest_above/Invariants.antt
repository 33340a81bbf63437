use Rattle.paper.specs.Index.{run_of, above_at}
use Rattle.lent.specs.Least.{None}
use Rattle.entries.proofs.file.File.lowest_above.Given as goal

abbrev pub invariant-loop-i : goal.invariant-loop-i
invariant-loop-i l = None (above_at l.self.z (run_of l.self.bytes.now l.self.z)) l.i
