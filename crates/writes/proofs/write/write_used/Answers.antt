use Rattle.writes.proofs.Counts.{narrow-lowered}
use Rattle.writes.proofs.write.write_used.Goals as goal

pub boot_bytes-b-requires : goal.boot_bytes-b-requires
boot_bytes-b-requires c = let p = c.requires in rw p.u_value (narrow-lowered _ _ p.booted.ranged)
