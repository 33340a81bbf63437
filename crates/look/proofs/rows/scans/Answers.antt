use Rattle.look.proofs.Rowing.{count_next, count-ends}
use Rattle.look.specs.Rows.{full}
use Rattle.paper.specs.Index.{row_run}
use Rattle.lent.proofs.Lists.{length-those}
use Rattle.lent.specs.Lists.{those}
use mathlib.Core.Path.{refl}
use native.Mathlib.Omega.{arith}
use Rattle.look.proofs.rows.scans.Goals as goal

pub loop-i-init : goal.loop-i-init
unfolding those
loop-i-init c = refl

pub next-n-requires : goal.next-n-requires
next-n-requires c = omega (arith, length-those (full (row_run c.args.row.now)) c.loop-i.i)

pub loop-i-preserved : goal.loop-i-preserved
loop-i-preserved c = count_next (row_run c.args.row.now) _ _ _ c.loop-i.invariant c.run_in-a.ensures c.next-n.ensures

pub returns : goal.returns
returns c = count-ends (row_run c.args.row.now) _ _ _ c.loop-i.invariant (omega arith) (omega arith) (omega arith)
