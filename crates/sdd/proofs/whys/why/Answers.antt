use native.Mathlib.Omega.{arith}
use Rattle.paper.proofs.Answers.{numbered}
use Rattle.sdd.proofs.whys.why.Goals as goal

pub overflow_cast-result : goal.overflow_cast-result
overflow_cast-result c = omega (arith, numbered c.args.r)

pub returns : goal.returns
returns c = rw (c.number-number.ensures, c.value-value.ensures)
