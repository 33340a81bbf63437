use Rattle.std.specs.Prelude.{Ok}
use mathlib.Core.Path.{sym, ◌∙◌, ap}
use native.Mathlib.Omega.{arith}
use Rattle.lent.proofs.Checks.{passed-on}
use Rattle.paper.proofs.Opening.{boot-sound}
use Rattle.paper.proofs.Gaps.{gaps-is, gaps-refused}
use Rattle.gaps.proofs.Left.{looked-refused, looked-opens, decoded}
use Rattle.gaps.proofs.judged.Goals as goal

pub invariant_of-judge_lent : goal.invariant_of-judge_lent
invariant_of-judge_lent c = record { booted = boot-sound c.requires.file_value }

pub walk-requires : goal.walk-requires
walk-requires c =
    let p = c.requires in
    let j = c.judge_lent in
    record { decoded = decoded p.file_value j.ensures (omega (arith, j.auto.row, j.auto.marks, p.u_in_bounds)); reach = record { long = omega (arith, j.auto.row, j.auto.marks, p.reach.0.long) } }

pub returns-in_err-judge_lent : goal.returns-in_err-judge_lent
returns-in_err-judge_lent c = passed-on _ c.from_residual.ensures.1 ∙ sym (gaps-refused _ (looked-refused c.requires.file_value c.judge_lent.ensures c.in_err-judge_lent.was))

pub returns : goal.returns
returns c = ap Ok c.walk.ensures ∙ sym (gaps-is _ _ (looked-opens c.requires.file_value c.judge_lent.ensures c.in_ok-judge_lent.was))
