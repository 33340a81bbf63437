-- `listing::lines`: after i turns the lines of the first i slots are put.
use Rattle.listing.specs.Text.{line_for}
use Rattle.look.specs.Rows.{pieces_in}
use Rattle.look.specs.Put.{Put}
use Rattle.paper.specs.Index.{row_run}
use Rattle.listing.proofs.lines.Given as goal

abbrev pub invariant-loop-i : goal.invariant-loop-i
invariant-loop-i l = Put l.initial.out l.from (pieces_in line_for (row_run l.row) l.i) l.out l.at
