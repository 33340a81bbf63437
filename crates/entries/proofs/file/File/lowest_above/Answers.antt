use Rattle.paper.specs.Index.{run_of}
use Rattle.entries.proofs.Judging.{bare-above, above-some, above-none}
use Rattle.lent.proofs.Leasts.{none_more}
use Rattle.lent.proofs.Founds.{found-here, found-end}
use mathlib.Core.Path.{refl}
use native.Mathlib.Omega.{arith}
use Rattle.std.proofs.Common.{ap, not}
use Rattle.entries.proofs.file.File.lowest_above.Goals as goal

pub loop-i-init : goal.loop-i-init
loop-i-init c = bare-above _ _ _ _ refl c.past_empty-from.ensures.1

pub returns-then-not-empty : goal.returns-then-not-empty
returns-then-not-empty c = found-here c.loop-i.invariant (above-some _ (run_of _ c.args.self.z) _ _ c.run_at-a.ensures.is c.empty.ensures (ap not c.if-not-empty.true) (omega (arith, c.past_empty-from.ensures.1.low))) (omega arith)

pub loop-i-preserved : goal.loop-i-preserved
loop-i-preserved c = none_more c.loop-i.invariant (above-none _ (run_of _ c.args.self.z) _ _ c.run_at-a.ensures.is c.empty.ensures (ap not c.if-not-empty.false))

pub returns : goal.returns
returns c = found-end c.loop-i.invariant (omega arith)
