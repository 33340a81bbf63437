use mathlib.Core.Path.{refl}
use native.Mathlib.Omega.{arith}
use Rattle.convert.proofs.Storing.{none-current, some-current}
use Rattle.convert.proofs.entry.put_old.Goals as goal

pub returns-then-z-wide : goal.returns-then-z-wide
returns-then-z-wide c =
    let p = c.requires in
    some-current 0 _ c.args.z _ _ _ p c.home-at.ensures (omega (arith, p.other)) _ c.load32-last.ensures refl (omega (arith, c.wide.ensures.is)) _ c.old_scan.ensures

pub returns-else-z-wide : goal.returns-else-z-wide
returns-else-z-wide c =
    let p = c.requires in
    none-current 0 _ c.args.z _ _ _ p c.home-at.ensures (omega (arith, p.other)) _ c.load32-last.ensures (omega (arith, c.wide.ensures.is))
