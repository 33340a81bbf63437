use Rattle.link.specs.Taking.{Put}
use lib.ListN.{take}
use Prim.Native.Nat.{◌-◌}
use Rattle.link.proofs.slots.Piece.cut.Given as goal

abbrev pub invariant-loop-p : goal.invariant-loop-p
invariant-loop-p l = let s = l.self in Put s.z s.at (take (l.p - s.at) s.bytes.now) l.initial.row l.row l.i
