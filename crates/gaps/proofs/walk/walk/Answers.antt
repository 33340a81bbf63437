use Rattle.gaps.proofs.Left.{held_none}
use Rattle.gaps.proofs.walk.walk.Goals as goal

pub none_left-requires-2 : goal.none_left-requires-2
none_left-requires-2 c = (c.requires.decoded, held_none _ _)
