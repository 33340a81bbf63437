use Rattle.paper.specs.Index.{row_run, empty}
use Rattle.lent.specs.Least.{None}
use Rattle.room.proofs.lowest_empty.Given as goal

abbrev pub invariant-loop-i : goal.invariant-loop-i
invariant-loop-i l = None (λ s. empty (row_run l.row s)) l.i
