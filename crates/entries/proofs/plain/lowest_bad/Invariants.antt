use Rattle.lent.specs.Least.{None}
use Rattle.paper.specs.Index.{row_run, bad_at}
use Rattle.entries.proofs.plain.lowest_bad.Given as goal

abbrev pub invariant-loop-i : goal.invariant-loop-i
invariant-loop-i l = None (bad_at l.z (row_run l.row)) l.i
