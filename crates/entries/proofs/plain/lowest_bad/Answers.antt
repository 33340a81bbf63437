use mathlib.Core.Path.{sym, ◌∙◌}
use native.Mathlib.Omega.{arith}
use Rattle.lent.proofs.Leasts.{none_more}
use Rattle.lent.proofs.Founds.{found-here, found-end}
use Rattle.entries.proofs.plain.lowest_bad.Goals as goal

pub returns-then-bad_in : goal.returns-then-bad_in
returns-then-bad_in c = found-here c.loop-i.invariant (sym c.bad_in.ensures ∙ c.if-bad_in.true) (omega arith)

pub loop-i-preserved : goal.loop-i-preserved
loop-i-preserved c = none_more c.loop-i.invariant (sym c.bad_in.ensures ∙ c.if-bad_in.false)

pub returns : goal.returns
returns c = found-end c.loop-i.invariant (omega arith)
