use Rattle.entries.proofs.Rows.{current-is, current-stated, runs-more}
use Rattle.paper.proofs.Sizing.{home-in}
use native.Mathlib.Omega.{arith}
use Rattle.entries.proofs.file.File.put_current.Goals as goal

pub load32-first-requires : goal.load32-first-requires
load32-first-requires c = omega (arith, home-in c.args.self.booted _ c.requires.slot.0 c.requires.slot.1)

pub overflow_add-at : goal.overflow_add-at
overflow_add-at c = omega (arith, home-in c.args.self.booted _ c.requires.slot.0 c.requires.slot.1)

pub load32-last-requires : goal.load32-last-requires
load32-last-requires c = omega (arith, home-in c.args.self.booted _ c.requires.slot.0 c.requires.slot.1)

pub returns : goal.returns
returns c =
    let at = c.home-at.ensures in
    let p = c.load32-first.ensures in
    let q = c.load32-last.ensures in
    record { stated = current-stated _ _ _ _ _ _ c.requires.slot.2 at p q _ _ c.wide.ensures c.wide-2.ensures; runs_2 = rw c.put.ensures (runs-more _ _ _ _ c.requires.in_row.low c.requires.in_row.wide c.requires.runs _ (current-is _ c.args.self.z _ _ _ _ c.requires.slot.2 at p q)) }
