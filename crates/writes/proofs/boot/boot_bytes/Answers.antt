use Rattle.paper.specs.Sizes.{boot_bytes}
use Rattle.std.proofs.Common.{arith}
use Rattle.lent.proofs.Numbers.{numbers-fill}
use Rattle.writes.proofs.boot.boot_bytes.Goals as goal

pub returns : goal.returns
unfolding boot_bytes
returns c = numbers-fill 4 _ _ _ _ _ c.put_four.ensures c.put_four-2.ensures (omega arith)
