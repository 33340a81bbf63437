use Rattle.paper.specs.Index.{row_run, shared_at}
use Rattle.lent.specs.Least.{None}
use Rattle.entries.proofs.plain.lowest_shared.Given as goal

abbrev pub invariant-loop-i : goal.invariant-loop-i
invariant-loop-i l = None (shared_at (row_run l.row)) l.i
