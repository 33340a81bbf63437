use Rattle.paper.proofs.Opening.{boot-sound}
use Rattle.gaps.proofs.rowed.Goals as goal

pub with_both-requires-clause-ranged : goal.with_both-requires-clause-ranged
with_both-requires-clause-ranged c = (boot-sound c.requires).ranged
