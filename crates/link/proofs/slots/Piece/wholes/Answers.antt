use Rattle.link.proofs.Slotting.{went-more}
use Rattle.link.proofs.slots.Piece.wholes.Goals as goal

pub loop-i-preserved : goal.loop-i-preserved
loop-i-preserved c = went-more _ _ _ _ _ _ _ _ c.loop-i.invariant c.whole.ensures
