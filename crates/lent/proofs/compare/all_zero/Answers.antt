-- `lent::compare::all_zero`: the bytes are zeros exactly where the join of those passed is 0 and those left are zeros.
use Rattle.std.proofs.Common.{eqb, length, sym, ap, ◌∙◌, arith}
use Rattle.lent.specs.Lists.{also}
use Rattle.lent.specs.Write.{zeros}
use Rattle.lent.proofs.Lists.{also-unit}
use Rattle.lent.proofs.Sames.{same_end, zeros-step}
use Rattle.lent.proofs.Writes.{length-zeros}
use Rattle.lent.proofs.compare.all_zero.Goals as goal

pub loop-x-preserved : goal.loop-x-preserved
loop-x-preserved c = let l = c.loop-x in l.invariant ∙ zeros-step _ l.met l.x-index (omega arith)

pub returns : goal.returns
returns c =
    let a = c.args.a.now in
    let l = c.loop-x in
    sym (l.invariant ∙ ap (also (eqb l.met 0)) (same_end a (zeros (length a)) l.x-index (omega arith) (omega (arith, length-zeros (length a)))) ∙ also-unit (eqb l.met 0))
