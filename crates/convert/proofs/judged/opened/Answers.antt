use mathlib.Core.Path.{refl, sym, ◌∙◌}
use native.Mathlib.Omega.{arith}
use Rattle.paper.proofs.Opening.{open-sound}
use Rattle.paper.proofs.Sizing.{head_small}
use Rattle.convert.proofs.Calling.{too_small, not-sayable, convertible, accepted}
use Rattle.convert.proofs.judged.opened.Goals as goal

pub overflow_mul-file : goal.overflow_mul-file
overflow_mul-file c = omega (arith, head_small _ (open-sound c.requires).booted.ranged.shape)

pub returns-then-out-file : goal.returns-then-out-file
returns-then-out-file c = let both = too_small _ _ _ _ _ _ c.requires c.if-out-file.true refl refl in record { value = both.0; out_after = both.1 }

pub fits-requires : goal.fits-requires
fits-requires c = open-sound c.requires

pub returns-then-not-fits : goal.returns-then-not-fits
returns-then-not-fits c = let both = not-sayable _ _ _ _ _ _ c.requires c.if-out-file.false (sym c.fits.ensures ∙ c.if-not-fits.true) refl refl in record { value = both.0; out_after = both.1 }

pub put_records-requires : goal.put_records-requires
put_records-requires c = convertible _ _ _ _ c.requires c.if-out-file.false (sym c.fits.ensures ∙ c.if-not-fits.false)

pub returns : goal.returns
returns c = let both = accepted _ _ _ _ _ _ c.requires c.if-out-file.false (sym c.fits.ensures ∙ c.if-not-fits.false) refl c.put_records.ensures in record { value = both.0; out_after = both.1 }
