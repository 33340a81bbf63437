use mathlib.Core.Path.{◌∙◌}
use native.Mathlib.Omega.{arith}
use Rattle.convert.proofs.Fitting.{form-no}
use Rattle.convert.proofs.fits.fits.Goals as goal
use Rattle.convert.proofs.fits.fits.Goals.{then-file-number-via-then-file-number, then-file-number-via-else-file-number+then-file-eq1}

pub returns-then-file-number : goal.returns-then-file-number
returns-then-file-number c =
    form-no _ _ _ c.requires (λ o S. elim c.then-file-number.branch [
      | then-file-number-via-then-file-number w ↦ o (w.if-file-number.true ∙ c.number.ensures)
      | then-file-number-via-else-file-number+then-file-eq1 w ↦ omega (arith, S.data_type)
    ])
