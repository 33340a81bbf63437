use Rattle.std.proofs.Common.{length, ap, ◌∙◌, arith, length-take-le}
use Rattle.lent.proofs.Writes.{write-all}
use Rattle.writes.proofs.boot.head.Goals as goal

pub copy_to-requires : goal.copy_to-requires
copy_to-requires c = omega (arith, ap length c.part.ensures.bytes, length-take-le 32 c.args.file.now c.requires)

pub returns : goal.returns
returns c = c.copy_to.ensures ∙ write-all _ _ (omega (arith, ap length c.part.ensures.bytes, length-take-le 32 c.args.file.now c.requires)) ∙ c.part.ensures.bytes
