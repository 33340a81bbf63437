use Rattle.find.proofs.Walking.{further, after-few, fill_start, fill-within, fill-room, fill-next, fill_end}
use native.Mathlib.Omega.{arith}
use Rattle.find.proofs.walk.fill.Goals as goal

pub loop-at-init : goal.loop-at-init
loop-at-init c = let p = c.requires in fill_start (omega arith) p.n_bound.0 (omega (arith, p.n_in_bounds)) (omega arith)

pub takes-k-requires : goal.takes-k-requires
takes-k-requires c =
    let i = c.loop-at.invariant in
    (omega (arith, i.past), fill-within i (omega arith))

pub put-at-requires : goal.put-at-requires
put-at-requires c =
    let B = c.args.file.booted in
    let i = c.loop-at.invariant in
    let w = fill-within i (omega arith) in
    record { r_bound = (omega (arith, i.past), w, after-few B _ (omega (arith, i.past)) w c.takes-k.ensures); k_in_bounds = fill-room i B (omega arith) c.takes-k.ensures }

pub after-r-requires : goal.after-r-requires
after-r-requires c =
    let B = c.args.file.booted in
    let i = c.loop-at.invariant in
    let w = fill-within i (omega arith) in
    after-few B _ (omega (arith, i.past)) w c.takes-k.ensures

pub loop-at-smaller : goal.loop-at-smaller
loop-at-smaller c = omega (arith, c.after-r.ensures, further c.loop-at.r _ c.takes-k.ensures, fill-within c.loop-at.invariant (omega arith))

pub loop-at-preserved : goal.loop-at-preserved
loop-at-preserved c = let p = c.put-at.ensures in fill-next c.loop-at.invariant c.args.file.booted (omega arith) c.takes-k.ensures p.value p.out_after c.after-r.ensures

pub returns : goal.returns
returns c = fill_end c.loop-at.invariant (omega arith)
