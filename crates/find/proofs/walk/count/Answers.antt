use Rattle.find.proofs.Walking.{one-is, after-few, count-start, count_next, count-end}
use mathlib.Core.Path.{◌∙◌, ap}
use mir.Val.{bool_byte}
use native.Mathlib.Omega.{arith}
use Rattle.find.proofs.walk.count.Goals as goal

pub loop-r-init : goal.loop-r-init
loop-r-init c = count-start (omega arith)

pub after-r-requires : goal.after-r-requires
after-r-requires c = after-few c.args.file.booted c.loop-r.r (omega (arith, c.loop-r.invariant.past)) (omega arith) c.takes-k.ensures

pub loop-r-preserved : goal.loop-r-preserved
loop-r-preserved c = count_next c.args.file.booted c.loop-r.invariant (omega arith) c.takes-k.ensures (omega (arith, c.from-n.ensures ∙ ap bool_byte c.is_some.ensures ∙ one-is c.takes-k.result)) c.after-r.ensures

pub returns : goal.returns
returns c = count-end c.args.file.booted c.loop-r.invariant (omega arith)
