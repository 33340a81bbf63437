use Rattle.room.proofs.Freeing.{jump, touch, free-here, free-end}
use Rattle.paper.specs.Index.{row_run}
use Rattle.paper.specs.declared.sizes.Run.{Run}
use mathlib.Core.Path.{ap}
use native.Mathlib.Omega.{arith}
use Rattle.room.proofs.settle.Goals as goal

pub returns-in_default : goal.returns-in_default
returns-in_default c = free-here (row_run _) _ _ _ c.requires.sought.some c.loop-i.invariant _ (omega arith) _ c.touched.ensures c.in_default.is

pub run_in-b-requires : goal.run_in-b-requires
run_in-b-requires c = let h = touch (row_run _) c.args.z _ _ _ c.touched.ensures c.in-Some.is in omega arith

pub loop-i-smaller : goal.loop-i-smaller
loop-i-smaller c =
    let h = touch (row_run _) c.args.z _ _ _ c.touched.ensures c.in-Some.is in
    let e = ap (λ (r : Run). r.last) c.run_in-b.ensures in
    omega (arith, h.shared.before, c.requires.sought.some)

pub loop-i-preserved : goal.loop-i-preserved
loop-i-preserved c = jump (row_run _) _ _ _ c.requires.sought.some c.loop-i.invariant c.requires.sought.ranged c.requires.sought.inside _ (touch (row_run _) _ _ _ _ c.touched.ensures c.in-Some.is) _ (ap (λ (r : Run). r.last) c.run_in-b.ensures)

pub returns : goal.returns
returns c = free-end (row_run _) _ _ _ c.requires.sought.some c.loop-i.invariant _ (omega arith)
