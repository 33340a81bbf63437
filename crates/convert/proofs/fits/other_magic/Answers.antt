use Rattle.std.proofs.Common.{not, ap, ◌∙◌}
use borrow.Author.Tests.{eq-eqb}
use Rattle.convert.proofs.Fitting.{magic-two, magic-other}
use Rattle.convert.proofs.fits.other_magic.Goals as goal

pub returns-then-load16-ne2 : goal.returns-then-load16-ne2
returns-then-load16-ne2 c = magic-other _ _ _ _ _ c.home-at.ensures c.load16.ensures c.requires.2 c.if-load16-ne2.true _ _ c.run_at.ensures.is c.empty.ensures

pub returns-else-load16-ne2 : goal.returns-else-load16-ne2
returns-else-load16-ne2 c = ap not (eq-eqb _ _ c.if-load16-ne2.false) ∙ magic-two _ _ _ _ _ c.home-at.ensures c.load16.ensures c.if-load16-ne2.false
