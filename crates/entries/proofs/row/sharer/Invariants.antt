use Rattle.lent.specs.Least.{None}
use Rattle.paper.specs.Index.{row_run, shares}
use Rattle.entries.proofs.row.sharer.Given as goal

abbrev pub invariant-loop-i : goal.invariant-loop-i
invariant-loop-i l = None (λ t. shares l.a (row_run l.row t)) l.i
