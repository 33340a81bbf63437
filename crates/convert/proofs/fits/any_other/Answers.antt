use mathlib.Core.Path.{sym, ◌∙◌}
use native.Mathlib.Omega.{arith}
use Rattle.convert.proofs.Fitting.{some-found, none-found}
use Rattle.lent.proofs.Leasts.{least-here, least-end}
use Rattle.convert.proofs.fits.any_other.Goals as goal

pub returns-then-other_magic : goal.returns-then-other_magic
returns-then-other_magic c = some-found _ _ (least-here c.loop-i.invariant (sym c.other_magic.ensures ∙ c.if-other_magic.true) (omega arith))

pub returns : goal.returns
returns c = none-found _ (least-end c.loop-i.invariant (omega arith))
