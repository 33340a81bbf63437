use Rattle.lent.proofs.Checks.{passed-on}
use Rattle.store.proofs.Rooms.{rowing}
use Rattle.store.proofs.Starting.{goal-out}
use mathlib.Core.Path.{sym, ◌∙◌}
use Rattle.paper.proofs.Opening.{change-index}
use native.Mathlib.Omega.{arith}
use Rattle.store.proofs.judged.judged.Goals as goal

pub returns-in_err-judge_lent : goal.returns-in_err-judge_lent
returns-in_err-judge_lent c =
    passed-on _ c.from_residual.ensures.1
    ∙ goal-out _ c.args.goal _ _ (change-index c.args.file.now c.requires.headed.may ∙ sym c.judge_lent.ensures.is ∙ c.in_err-judge_lent.was)

pub invariant_of-rowed : goal.invariant_of-rowed
invariant_of-rowed c = let j = c.judge_lent in rowing c.args.file.now _ _ c.args.z _ _ c.requires.headed.may j.ensures c.in_ok-judge_lent.was (omega (arith, j.auto.marks, c.requires.u_in_bounds))
