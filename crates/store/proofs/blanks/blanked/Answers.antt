use Rattle.store.proofs.Blanking.{fitting, narrow-blank, blank-refused, blank-accepted}
use mathlib.Core.Path.{refl, sym, ◌∙◌}
use native.Mathlib.Omega.{arith}
use Rattle.store.proofs.blanks.blanked.Goals as goal

pub returns-then-not-fits : goal.returns-then-not-fits
returns-then-not-fits c =
    let a = c.args in
    let both = blank-refused a.n a.l a.m a.file.now _ _ (sym c.fits.ensures ∙ c.if-not-fits.true) refl refl in record { value = both.0; file_after = both.1 }

pub boot_bytes-b-requires : goal.boot_bytes-b-requires
boot_bytes-b-requires c = let a = c.args in narrow-blank a.n a.l a.m (fitting _ _ (sym c.fits.ensures ∙ c.if-not-fits.false)).shape

pub overflow_mul-n : goal.overflow_mul-n
overflow_mul-n c = omega (arith, fitting _ _ (sym c.fits.ensures ∙ c.if-not-fits.false))

pub put_padded-requires : goal.put_padded-requires
put_padded-requires c =
    let h = fitting _ _ (sym c.fits.ensures ∙ c.if-not-fits.false) in
    record { n_in_bounds = omega arith; src_len_bound = omega arith }

pub returns : goal.returns
returns c =
    let a = c.args in
    let both = blank-accepted a.n a.l a.m a.file.now _ _ _ (sym c.fits.ensures ∙ c.if-not-fits.false) refl c.boot_bytes-b.ensures c.put_padded.ensures in record { value = both.0; file_after = both.1 }
