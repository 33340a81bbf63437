use Rattle.paper.proofs.Opening.{shaped-facts}
use Rattle.paper.proofs.Sizing.{head_small}
use mathlib.Core.Path.{sym, ◌∙◌}
use native.Mathlib.Omega.{arith}
use Rattle.store.specs.Blank.{blank_fits}
use Rattle.lent.proofs.Lists.{also-unit}
use Rattle.store.proofs.blanks.fits.Goals as goal

pub overflow_mul-result : goal.overflow_mul-result
overflow_mul-result c = omega (arith, head_small _ (shaped-facts _ (sym c.shaped.ensures ∙ c.if-shaped.true)))

pub returns-then-shaped : goal.returns-then-shaped
unfolding blank_fits
returns-then-shaped c = rw (sym c.shaped.ensures ∙ c.if-shaped.true) (sym (also-unit _))

pub returns-else-shaped : goal.returns-else-shaped
unfolding blank_fits
returns-else-shaped c = rw (sym c.shaped.ensures ∙ c.if-shaped.false) c.if-shaped.false
