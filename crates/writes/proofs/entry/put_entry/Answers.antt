use Rattle.std.proofs.Common.{arith}
use Rattle.writes.proofs.Bytes.{entry-saved}
use Rattle.writes.proofs.entry.put_entry.Goals as goal

pub returns-then-j : goal.returns-then-j
returns-then-j c = let a = c.args in cc (entry-saved a.z a.j _ c.if-j.true c.front_of-b.ensures (omega arith))
