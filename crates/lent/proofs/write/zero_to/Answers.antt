-- `lent::write::zero_to`: the part that was filled holds zeros, and all else is as it was.
use Rattle.std.proofs.Common.{◌+◌, arith}
use Rattle.lent.specs.Write.{zeros}
use Rattle.lent.proofs.Writes.{put-zeros}
use Rattle.lent.proofs.write.zero_to.Goals as goal

pub returns : goal.returns
unfolding zeros
returns c = let a = c.args in put-zeros (a.at + a.n) _ _ _ _ (c.fill.ensures.after (λ y e. e)) (omega arith) (omega arith)
