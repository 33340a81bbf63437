use Rattle.room.specs.Passing.{Passed}
use Rattle.paper.specs.Index.{row_run}
use Rattle.room.proofs.pass.sweep.Given as goal

abbrev pub invariant-loop-x : goal.invariant-loop-x
invariant-loop-x l = Passed (row_run l.row) l.z l.k l.i
