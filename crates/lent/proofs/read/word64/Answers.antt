-- `lent::read::word64`: past the end 0, else two halves.
use Rattle.std.proofs.Common.{sym, arith}
use Rattle.lent.specs.Number.{big}
use Rattle.lent.proofs.Numbers.{number_past, number-join}
use Rattle.lent.proofs.read.word64.Goals as goal

pub returns-then-s-at : goal.returns-then-s-at
returns-then-s-at c = sym (number_past big 8 _ _ c.if-s-at.true)

pub returns : goal.returns
returns c = let a = c.args in omega (arith, number-join 4 4 a.s.now a.at)
