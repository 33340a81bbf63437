use native.Mathlib.Omega.{arith}
use Rattle.lent.proofs.Leasts.{none-zero, none_more}
use Rattle.lent.proofs.Founds.{found-here, found-end}
use Rattle.paper.specs.Index.{shares, sharer}
use Rattle.entries.proofs.Rows.{read}
use Rattle.entries.proofs.row.sharer.Goals as goal

pub loop-i-init : goal.loop-i-init
loop-i-init c = none-zero _

pub returns-then-shares : goal.returns-then-shares
unfolding sharer
returns-then-shares c = found-here c.loop-i.invariant (read (shares _) c.run_in-b.ensures c.shares.ensures c.if-shares.true) (omega arith)

pub loop-i-preserved : goal.loop-i-preserved
loop-i-preserved c = none_more c.loop-i.invariant (read (shares _) c.run_in-b.ensures c.shares.ensures c.if-shares.false)

pub returns : goal.returns
unfolding sharer
returns c = found-end c.loop-i.invariant (omega arith)
