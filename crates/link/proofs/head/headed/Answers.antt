use mathlib.Core.Path.{◌≡◌, ap}
use Rattle.link.proofs.Pieces.{head-room}
use Rattle.lent.proofs.Parts.{length-part-min}
use lib.ListN.{length}
use native.Mathlib.Omega.{arith}
use borrow.Author.Rules.{rules}
use Rattle.link.proofs.head.headed.Goals as goal

pub copy_to-requires : goal.copy_to-requires
copy_to-requires c = let p = c.requires in let k = c.args.k in let q = c.args.piece.now in let n : length k.boot ≡ 32 = search rules in omega (arith, p.0, p.1, head-room k q (omega (arith, p.0, p.1)), ap length c.part.ensures.bytes, length-part-min 0 c.args.h q)

pub overflow_add-came : goal.overflow_add-came
overflow_add-came c = let p = c.requires in let k = c.args.k in let q = c.args.piece.now in omega (arith, p.0, p.1, head-room k q (omega (arith, p.0, p.1)))
