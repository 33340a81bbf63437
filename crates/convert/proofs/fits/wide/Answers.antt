use Rattle.std.proofs.Common.{◌∙◌, arith, le-ltb}
use Rattle.convert.proofs.Fitting.{none-wide}
use Rattle.convert.proofs.fits.wide.Goals as goal

pub returns-else-file-gt32767 : goal.returns-else-file-gt32767
returns-else-file-gt32767 c = le-ltb _ _ c.if-file-gt32767.false ∙ none-wide _ _ c.requires (omega arith)
