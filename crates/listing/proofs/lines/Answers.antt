-- `listing::lines`: after i turns the lines of the first i slots are put.
use Rattle.look.proofs.Putting.{put-begins, next-room, next-put}
use Rattle.listing.specs.Text.{line_for}
use Rattle.paper.specs.Index.{row_run}
use native.Mathlib.Omega.{arith}
use Rattle.listing.proofs.lines.Goals as goal

pub loop-i-init : goal.loop-i-init
loop-i-init c = let a = c.args in put-begins line_for (row_run a.row.now) a.out.now a.from a.u c.requires.u_in_bounds

pub line-at-requires : goal.line-at-requires
line-at-requires c = let a = c.args in next-room line_for (row_run a.row.now) a.out.now a.from a.u c.requires.u_in_bounds _ c.loop-i.invariant (omega arith) c.run_in-a.ensures

pub loop-i-preserved : goal.loop-i-preserved
loop-i-preserved c = let a = c.args in next-put line_for (row_run a.row.now) a.out.now a.from a.u c.requires.u_in_bounds _ c.loop-i.invariant (omega arith) c.run_in-a.ensures c.line-at.ensures
