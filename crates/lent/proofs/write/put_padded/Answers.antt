-- `lent::write::put_padded`: zeros right after the bytes: one change.
use Rattle.std.proofs.Common.{arith}
use Rattle.lent.specs.Write.{pad}
use Rattle.lent.proofs.Writes.{write_then}
use Rattle.lent.proofs.write.put_padded.Goals as goal

pub returns : goal.returns
unfolding pad
returns c = write_then _ _ _ _ _ _ _ c.copy_to.ensures c.zero_to.ensures (omega arith) (omega arith)
