use Rattle.convert.proofs.Fitting.{current-fits}
use Rattle.convert.proofs.fits.fits_current.Goals as goal

pub returns : goal.returns
returns c = let p = c.requires in current-fits _ _ p.0 _ c.any_other.ensures p.1 p.2
