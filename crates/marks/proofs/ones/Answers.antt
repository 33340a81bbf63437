use native.Mathlib.Omega.{arith}
use Rattle.marks.specs.Marks.{ones}
use Rattle.marks.proofs.Marking.{power, powers}
use Rattle.marks.proofs.ones.Goals as goal

pub overflow_sub-result : goal.overflow_sub-result
overflow_sub-result c = let w = powers c.args.x c.args.y (omega arith) (omega arith) in omega (arith, power c.args.x (omega arith), power c.args.y (omega arith))

pub overflow_add-result : goal.overflow_add-result
overflow_add-result c = let w = powers c.args.x c.args.y (omega arith) (omega arith) in record { fits = omega (arith, power c.args.x (omega arith), power c.args.y (omega arith)) }

pub returns : goal.returns
unfolding ones
returns c = omega (arith, power c.args.x (omega arith), power c.args.y (omega arith))
