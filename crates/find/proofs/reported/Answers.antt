use mathlib.Core.Path.{sym, ◌∙◌}
use Rattle.lent.proofs.Checks.{passed-on}
use Rattle.paper.proofs.Opening.{boot-sound}
use Rattle.find.proofs.Reporting.{report-refused}
use Rattle.find.proofs.reported.Goals as goal

pub invariant_of-searched : goal.invariant_of-searched
invariant_of-searched c = record { booted = boot-sound (sym c.boot.ensures ∙ c.in_ok-z.was) }

pub returns-in_err-z : goal.returns-in_err-z
returns-in_err-z c = let both = report-refused _ _ (sym c.boot.ensures ∙ c.in_err-z.was) in record { value = passed-on _ c.from_residual.ensures.1 ∙ both.0; out_after = both.1 }

pub returns : goal.returns
returns c = record { value = c.searched.ensures.value; out_after = c.searched.ensures.out_after }
