use Rattle.paper.specs.Index.{row_run}
use Rattle.index.specs.Judging.{Shows}
use Rattle.index.proofs.lay.lay_row.Given as goal

abbrev pub invariant-loop-i : goal.invariant-loop-i
invariant-loop-i l = Shows l.marks l.fn.z.n (row_run l.row) l.i
