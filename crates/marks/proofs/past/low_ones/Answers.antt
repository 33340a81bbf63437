use native.Mathlib.Omega.{arith}
use Rattle.marks.proofs.Passing.{tail-ones}
use Rattle.marks.proofs.past.low_ones.Goals as goal

pub returns : goal.returns
returns c = rw c.trailing_ones.ensures (tail-ones _ (omega arith))
