use mathlib.Core.Path.{refl}
use native.Mathlib.Omega.{arith}
use Rattle.marks.proofs.Marking.{clear-zeros}
use Rattle.index.proofs.made.marks_of.Goals as goal

pub f-requires : goal.f-requires
f-requires g c = c.requires.may _ _ refl (record { long = omega arith }) (clear-zeros g.row.N)
