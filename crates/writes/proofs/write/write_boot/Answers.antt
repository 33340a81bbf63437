use Rattle.writes.proofs.Counts.{narrow-after}
use Rattle.writes.proofs.write.write_boot.Goals as goal

pub boot_bytes-b-requires : goal.boot_bytes-b-requires
boot_bytes-b-requires c = let p = c.requires in rw (c.sizes_after.ensures, p.u_value) (narrow-after _ _ _ p.homed.held)
