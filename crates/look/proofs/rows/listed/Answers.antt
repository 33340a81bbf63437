use Rattle.lent.proofs.Checks.{passed-on}
use Rattle.look.proofs.Rowing.{rows_fit, list-refused, list-small, list_done}
use Rattle.paper.proofs.Opening.{open-sound}
use mathlib.Core.Path.{sym, ◌∙◌}
use native.Mathlib.Omega.{arith}
use Rattle.look.proofs.rows.listed.Goals as goal

pub scans-n-requires : goal.scans-n-requires
scans-n-requires c = let o = sym c.judged.ensures.is ∙ c.in_ok-z.was in let r = (open-sound o).booted.ranged in (omega (arith, c.judged.auto.row), omega arith)

pub returns-then-out-n : goal.returns-then-out-n
returns-then-out-n c =
    let o = sym c.judged.ensures.is ∙ c.in_ok-z.was in
    let both = list-small _ _ o _ (c.judged.ensures.runs _ c.in_ok-z.was) _ c.scans-n.ensures.0 (omega arith) in record { value = both.0; out_after = both.1 }

pub fill-requires : goal.fill-requires
fill-requires c =
    let o = sym c.judged.ensures.is ∙ c.in_ok-z.was in
    let r = (open-sound o).booted.ranged in
    record { in_bounds = (omega (arith, c.judged.auto.row), omega arith); u_in_bounds = rows_fit _ _ _ _ c.scans-n.ensures.0 (omega arith) }

pub returns-in_err-z : goal.returns-in_err-z
returns-in_err-z c = let both = list-refused _ _ (sym c.judged.ensures.is ∙ c.in_err-z.was) in record { value = passed-on _ c.from_residual.ensures.1 ∙ both.0; out_after = both.1 }

pub returns : goal.returns
returns c =
    let o = sym c.judged.ensures.is ∙ c.in_ok-z.was in
    let both = list_done _ _ o _ (c.judged.ensures.runs _ c.in_ok-z.was) _ c.scans-n.ensures.0 _ (omega arith) c.fill.ensures in record { value = both.0; out_after = both.1 }
