-- `lent::compare::same`: the runs are the same exactly where no turn so far has found a difference and what is left is the same.
use Rattle.std.proofs.Common.{◌≡◌, drop}
use Rattle.lent.specs.Lists.{also}
use Rattle.lent.specs.Same.{same}
use Rattle.lent.proofs.compare.same.Given as goal

abbrev pub invariant-loop-i : goal.invariant-loop-i
invariant-loop-i l = same l.a l.b ≡ also l.ok (same (drop l.i l.a) (drop l.i l.b))
