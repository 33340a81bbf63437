use Rattle.look.specs.Rows.{pieces_in, row_of}
use Rattle.look.specs.Put.{Put}
use Rattle.paper.specs.Index.{row_run}
use Rattle.look.proofs.rows.fill.Given as goal

abbrev pub invariant-loop-i : goal.invariant-loop-i
invariant-loop-i l = Put l.initial.out 0 (pieces_in row_of (row_run l.row) l.i) l.out l.at
