use Rattle.room.proofs.Freeing.{blocked-then}
use Rattle.marks.proofs.Passing.{blocked-none}
use Rattle.room.proofs.pass.pass_marks.Goals as goal

pub returns-then-room-k : goal.returns-then-room-k
returns-then-room-k c = blocked-none _ _ _

pub loop-i-init : goal.loop-i-init
loop-i-init c = blocked-none _ _ _

pub loop-i-preserved : goal.loop-i-preserved
loop-i-preserved c = blocked-then _ _ _ _ _ c.loop-i.invariant c.past-j.ensures
