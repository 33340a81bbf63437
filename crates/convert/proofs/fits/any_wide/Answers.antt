use native.Mathlib.Omega.{arith}
use Rattle.convert.proofs.Fitting.{some-found, none-found}
use Rattle.lent.proofs.Leasts.{none_more, least-here, least-end}
use Rattle.paper.specs.Index.{run_of}
use Rattle.convert.proofs.Fitting.{wide_read}
use Rattle.std.proofs.Common.{ap, not}
use Rattle.convert.proofs.fits.any_wide.Goals as goal

pub returns-then-not-narrow : goal.returns-then-not-narrow
returns-then-not-narrow c = some-found _ _ (least-here c.loop-i.invariant (wide_read (run_of _ c.args.file.z) _ _ _ _ c.run_at-a.ensures.is c.narrow.ensures (ap not c.if-not-narrow.true)) (omega arith))

pub loop-i-preserved : goal.loop-i-preserved
loop-i-preserved c = none_more c.loop-i.invariant (wide_read (run_of _ c.args.file.z) _ _ _ _ c.run_at-a.ensures.is c.narrow.ensures (ap not c.if-not-narrow.false))

pub returns : goal.returns
returns c = none-found _ (least-end c.loop-i.invariant (omega arith))
