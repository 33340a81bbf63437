use Rattle.std.proofs.Common.{arith}
use Rattle.writes.proofs.Bytes.{stands-saved}
use Rattle.writes.proofs.entry.entry_stands.Goals as goal

pub returns-then-j : goal.returns-then-j
returns-then-j c = let a = c.args in stands-saved a.file.now a.z a.j _ _ _ c.home-at.ensures c.part-p.ensures.bytes _ c.if-j.true c.front_of-b.ensures (omega arith) c.same_padded.ensures
