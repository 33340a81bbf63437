-- `lent::read::word16`: past the end 0, else the two bytes.
use Rattle.std.proofs.Common.{sym, arith}
use Rattle.lent.specs.Number.{big}
use Rattle.lent.proofs.Numbers.{number_past, number-two}
use Rattle.lent.proofs.read.word16.Goals as goal

pub returns-then-s-at : goal.returns-then-s-at
returns-then-s-at c = sym (number_past big 2 _ _ c.if-s-at.true)

pub returns : goal.returns
returns c = let a = c.args in omega (arith, number-two a.s.now a.at)
