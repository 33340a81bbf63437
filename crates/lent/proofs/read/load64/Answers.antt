-- `lent::read::load64`: the eight bytes.
use Rattle.std.proofs.Common.{arith}
use Rattle.lent.proofs.Numbers.{number-eight}
use Rattle.lent.proofs.read.load64.Goals as goal

pub returns : goal.returns
returns c = let a = c.args in omega (arith, number-eight a.s.now a.at)
