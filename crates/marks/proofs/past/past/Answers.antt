use native.Mathlib.Omega.{arith}
use Rattle.marks.proofs.Passing.{blocked-full}
use Rattle.marks.proofs.past.past.Goals as goal

pub returns : goal.returns
returns c = blocked-full _ _ _ _ _ _ (omega arith) c.past_gap-j.ensures.0 c.past_ones.ensures (omega (arith, c.past_ones.ensures.low)) (omega (arith, c.past_ones.ensures.low))
