use Rattle.std.proofs.Common.{sym, ◌∙◌}
use Rattle.lent.proofs.Checks.{passed-on}
use Rattle.paper.proofs.Opening.{open-refused}
use Rattle.index.proofs.Answers.{booted, index-open}
use Rattle.index.proofs.judge.Goals as goal

pub returns-in_err-z : goal.returns-in_err-z
returns-in_err-z c = passed-on _ c.from_residual.ensures.1 ∙ sym (open-refused _ (sym c.boot.ensures ∙ c.in_err-z.was))

pub invariant_of-judge_sized : goal.invariant_of-judge_sized
invariant_of-judge_sized c = record { booted = booted _ _ c.boot.ensures c.in_ok-z.was }

pub returns : goal.returns
returns c = index-open _ _ _ (booted _ _ c.boot.ensures c.in_ok-z.was) c.judge_sized.ensures
