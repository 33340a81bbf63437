use native.Mathlib.Omega.{arith}
use Rattle.convert.proofs.Storing.{none_old, some-old}
use Rattle.convert.proofs.entry.put_current.Goals as goal

pub returns-then-z-last : goal.returns-then-z-last
returns-then-z-last c =
    let p = c.requires in
    some-old 1 _ c.args.z _ _ _ p c.home-at.ensures (omega (arith, p.other)) _ c.load16-last.ensures (λ h. omega arith) (λ i. let k = c.shared_slice_known-1.given i in omega arith) (omega arith) _ c.current_scan.ensures

pub returns-else-z-last : goal.returns-else-z-last
returns-else-z-last c = let p = c.requires in none_old 1 _ c.args.z _ _ _ p c.home-at.ensures (omega (arith, p.other)) _ c.load16-last.ensures (omega arith)
