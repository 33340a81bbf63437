use Rattle.link.specs.Taking.{Went}
use Rattle.link.proofs.slots.Piece.wholes.Given as goal

abbrev pub invariant-loop-i : goal.invariant-loop-i
invariant-loop-i l = Went l.self.z l.self.at l.self.bytes.now l.initial.row l.row l.from l.i
