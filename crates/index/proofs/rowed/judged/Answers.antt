use Rattle.std.proofs.Common.{sym, ◌∙◌}
use Rattle.lent.proofs.Checks.{passed-on}
use Rattle.index.proofs.Answers.{booted, judged-refused, judged-row}
use native.Mathlib.Omega.{arith}
use Rattle.index.proofs.rowed.judged.Goals as goal

pub returns-in_err-z : goal.returns-in_err-z
returns-in_err-z c = judged-refused _ _ _ (passed-on _ c.from_residual.ensures.1) (sym c.boot.ensures ∙ c.in_err-z.was)

pub judge_row-requires : goal.judge_row-requires
judge_row-requires c =
    let h = booted _ _ c.boot.ensures c.in_ok-z.was in
    record { booted = h; u_in_bounds = omega (arith, c.requires, h.ranged.used, h.ranged.shape.slots) }

pub returns : goal.returns
returns c = let h = c.judge_row.ensures in judged-row _ _ _ _ (booted _ _ c.boot.ensures c.in_ok-z.was) h.runs h.value
