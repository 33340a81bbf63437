use Rattle.std.proofs.Common.{refl, arith}
use Rattle.convert.proofs.Fitting.{form-no, old-told}
use Rattle.convert.proofs.fits.fits_old.Goals as goal
use Rattle.convert.proofs.fits.fits_old.Goals.{then-file-gt32767-via-then-file-gt32767, then-file-gt32767-via-else-file-gt32767+then-file-gt65535}

pub returns-then-file-gt32767 : goal.returns-then-file-gt32767
returns-then-file-gt32767 c =
    form-no 0 _ _ c.requires.0 (λ o S. let d = S.few refl in let n = S.counted refl in elim c.then-file-gt32767.branch [
      | then-file-gt32767-via-then-file-gt32767 w ↦ omega arith
      | then-file-gt32767-via-else-file-gt32767+then-file-gt65535 w ↦ omega arith
    ])

pub returns : goal.returns
returns c = let p = c.requires in old-told _ _ p.0 _ c.wide.ensures p.1 p.2 (omega arith) (omega arith)
