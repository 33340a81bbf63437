-- `lent::write::copy_to`: the part that was lent to `copy` holds the source, and all else is as it was.
use Rattle.std.proofs.Common.{◌+◌, length, arith}
use Rattle.lent.proofs.Writes.{put-write}
use Rattle.lent.proofs.write.copy_to.Goals as goal

pub returns : goal.returns
returns c = let a = c.args in put-write (a.at + length a.src.now) _ _ _ _ c.copy.ensures (omega arith)
