use Rattle.room.proofs.Freeing.{vacant-here, vacant-above, vacant-none}
use Rattle.entries.proofs.Rows.{read}
use Rattle.paper.specs.Index.{empty}
use Rattle.lent.proofs.Leasts.{none-zero, none_more}
use native.Mathlib.Omega.{arith}
use Rattle.room.proofs.lowest_empty.Goals as goal

pub loop-i-init : goal.loop-i-init
loop-i-init c = none-zero _

pub returns-then-empty : goal.returns-then-empty
returns-then-empty c = vacant-here _ _ _ c.loop-i.invariant (read empty c.run_in-a.ensures c.empty.ensures c.if-empty.true) (omega arith) (omega arith)

pub loop-i-preserved : goal.loop-i-preserved
loop-i-preserved c = none_more c.loop-i.invariant (read empty c.run_in-a.ensures c.empty.ensures c.if-empty.false)

pub returns-then-capacity-z : goal.returns-then-capacity-z
returns-then-capacity-z c = vacant-none _ _ _ c.loop-i.invariant (omega arith) (omega arith)

pub returns : goal.returns
returns c = vacant-above _ _ _ c.loop-i.invariant (omega arith) (omega arith)
