use Rattle.marks.proofs.Marking.{took-none, took_more}
use native.Mathlib.Omega.{arith}
use Rattle.marks.proofs.take_run.Goals as goal

pub returns-then-i-b : goal.returns-then-i-b
returns-then-i-b c = λ e. let a = c.args.a in took_more _ _ _ a a _ _ _ (took-none _ a a (omega arith)) (c.take_bits.ensures e) (omega arith) (omega arith) (omega arith) (omega arith)
