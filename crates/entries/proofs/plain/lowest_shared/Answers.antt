use mathlib.Core.Path.{sym, ◌∙◌}
use native.Mathlib.Omega.{arith}
use Rattle.entries.proofs.Judging.{shared-is}
use Rattle.paper.specs.Index.{row_run}
use Rattle.lent.proofs.Leasts.{none_more}
use Rattle.lent.proofs.Founds.{found-here, found-end}
use Rattle.entries.proofs.plain.lowest_shared.Goals as goal

pub returns-then-is_some : goal.returns-then-is_some
returns-then-is_some c = found-here c.loop-i.invariant (shared-is (row_run _) _ _ c.run_in-a.ensures c.sharer.ensures ∙ sym c.is_some.ensures ∙ c.if-is_some.true) (omega arith)

pub loop-i-preserved : goal.loop-i-preserved
loop-i-preserved c = none_more c.loop-i.invariant (shared-is (row_run _) _ _ c.run_in-a.ensures c.sharer.ensures ∙ sym c.is_some.ensures ∙ c.if-is_some.false)

pub returns : goal.returns
returns c = found-end c.loop-i.invariant (omega arith)
