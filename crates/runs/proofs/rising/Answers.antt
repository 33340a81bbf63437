use Rattle.lent.proofs.Lists.{true≢false}
use Rattle.paper.specs.Index.{row_run}
use Rattle.index.proofs.Rising.{climbs-none, climbs-more, climbs-fits}
use Rattle.index.proofs.Laying.{fits_low}
use borrow.Author.Tests.{leb-true}
use mathlib.Core.Path.{refl}
use native.Mathlib.Omega.{arith}
use Rattle.runs.proofs.rising.Goals as goal

pub loop-i-init : goal.loop-i-init
loop-i-init c = climbs-none _ _

pub returns-then-not-still : goal.returns-then-not-still
returns-then-not-still c e = absurd (true≢false e refl)

pub loop-i-preserved : goal.loop-i-preserved
loop-i-preserved c = climbs-more _ (row_run _) _ _ c.loop-i.invariant _ c.run_in-a.ensures (c.still.ensures c.if-not-still.false) _ (omega arith) (omega arith)

pub returns : goal.returns
returns c e = fits_low (climbs-fits c.loop-i.invariant (leb-true _ _ e)) _ (omega arith)
