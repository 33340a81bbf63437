-- `lent::read::load32`: the four bytes.
use Rattle.std.proofs.Common.{arith}
use Rattle.lent.proofs.Numbers.{number-four}
use Rattle.lent.proofs.read.load32.Goals as goal

pub returns : goal.returns
returns c = let a = c.args in omega (arith, number-four a.s.now a.at)
