use native.Mathlib.Omega.{arith}
use Rattle.convert.proofs.Storing.{stored-current, middle-is, current-of}
use Rattle.convert.proofs.entry.current_scan.Goals as goal

pub returns : goal.returns
returns c =
    let a = c.args in
    let p = c.requires in
    let m = middle-is a.at a.file.now _ c.middle-b.ensures (omega (arith, p.from)) in
    current-of a.out.now a.file.now a.at _ _ _ _ _ c.load16.ensures c.load16-2.ensures c.load16-3.ensures m.0
    (stored-current a.out.now a.at _ _ _ _ m.1 (omega (arith, p.to)) _ _ _ _ _ _ c.put16.ensures c.put16-2.ensures c.put16-3.ensures c.put16-4.ensures c.copy_to.ensures c.put16-5.ensures)
