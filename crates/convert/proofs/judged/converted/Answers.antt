use mathlib.Core.Path.{refl, sym, ◌∙◌}
use Rattle.lent.proofs.Checks.{passed-on}
use Rattle.paper.proofs.Opening.{open-sound}
use Rattle.convert.proofs.Calling.{not_opened}
use Rattle.convert.proofs.judged.converted.Goals as goal

pub returns-in_err-z : goal.returns-in_err-z
returns-in_err-z c = let both = not_opened _ _ _ _ _ _ (sym c.judge.ensures ∙ c.in_err-z.was) refl refl in record { value = passed-on _ c.from_residual.ensures.1 ∙ both.0; out_after = both.1 }

pub invariant_of-opened : goal.invariant_of-opened
invariant_of-opened c = record { booted = (open-sound (sym c.judge.ensures ∙ c.in_ok-z.was)).booted }
