use Rattle.paper.specs.Index.{row_run, above_at}
use Rattle.lent.specs.Least.{None}
use Rattle.runs.proofs.lowest_above.Given as goal

abbrev pub invariant-loop-i : goal.invariant-loop-i
invariant-loop-i l = None (above_at l.fn.z (row_run l.row)) l.i
