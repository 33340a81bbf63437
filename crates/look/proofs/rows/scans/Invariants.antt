use Rattle.look.specs.Rows.{scans_in}
use Rattle.paper.specs.Index.{row_run}
use lib.ListN.{length}
use mathlib.Core.Path.{◌≡◌}
use Rattle.look.proofs.rows.scans.Given as goal

abbrev pub invariant-loop-i : goal.invariant-loop-i
invariant-loop-i l = l.n ≡ length (scans_in (row_run l.row) l.i)
