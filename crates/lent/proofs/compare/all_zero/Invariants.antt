-- `lent::compare::all_zero`: the bytes are zeros exactly where the join of those passed is 0 and those left are zeros.
use Rattle.std.proofs.Common.{◌≡◌, eqb}
use Rattle.lent.specs.Lists.{also}
use Rattle.lent.proofs.Sames.{zeros_from}
use Rattle.lent.proofs.compare.all_zero.Given as goal

abbrev pub invariant-loop-x : goal.invariant-loop-x
invariant-loop-x l = zeros_from l.a 0 ≡ also (eqb l.met 0) (zeros_from l.a l.x-index)
