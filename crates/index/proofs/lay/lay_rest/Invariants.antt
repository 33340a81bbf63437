use Rattle.paper.specs.Index.{row_run}
use Rattle.entries.specs.Row.{Fits}
use Rattle.index.specs.Judging.{Shows}
use Rattle.index.proofs.lay.lay_rest.Given as goal

abbrev pub invariant-loop-i : goal.invariant-loop-i
invariant-loop-i l = Fits l.fn.z (row_run l.row) l.i × Shows l.marks l.fn.z.n (row_run l.row) l.i
