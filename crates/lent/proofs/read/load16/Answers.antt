-- `lent::read::load16`: the two bytes.
use Rattle.std.proofs.Common.{arith}
use Rattle.lent.proofs.Numbers.{number-two}
use Rattle.lent.proofs.read.load16.Goals as goal

pub returns : goal.returns
returns c = let a = c.args in omega (arith, number-two a.s.now a.at)
