use Rattle.paper.specs.Index.{row_run}
use Rattle.paper.proofs.Opening.{facts_above}
use Rattle.lent.proofs.Leasts.{none_more}
use Rattle.lent.proofs.Founds.{found-here, found-end}
use Rattle.entries.proofs.Judging.{above-some, above-none}
use Rattle.std.proofs.Common.{ap, not}
use native.Mathlib.Omega.{arith}
use Rattle.runs.proofs.lowest_above.Goals as goal

pub loop-i-init : goal.loop-i-init
loop-i-init c = record { none = λ t a b. facts_above c.args.z (row_run _) t (λ l. absurd (omega arith)) }

pub returns-then-not-empty : goal.returns-then-not-empty
returns-then-not-empty c = found-here c.loop-i.invariant (above-some _ (row_run _) _ _ c.run_in-a.ensures c.empty.ensures (ap not c.if-not-empty.true) (omega arith)) (omega arith)

pub loop-i-preserved : goal.loop-i-preserved
loop-i-preserved c = none_more c.loop-i.invariant (above-none _ (row_run _) _ _ c.run_in-a.ensures c.empty.ensures (ap not c.if-not-empty.false))

pub returns : goal.returns
returns c = found-end c.loop-i.invariant (omega arith)
