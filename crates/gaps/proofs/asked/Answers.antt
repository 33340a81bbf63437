use mathlib.Core.Path.{sym, ◌∙◌}
use Rattle.lent.proofs.Checks.{passed-on}
use Rattle.paper.proofs.Opening.{open-refused}
use Rattle.paper.proofs.Gaps.{gaps-refused}
use Rattle.gaps.proofs.asked.Goals as goal

pub returns-in_err-z : goal.returns-in_err-z
returns-in_err-z c = passed-on _ c.from_residual.ensures.1 ∙ sym (gaps-refused _ (open-refused _ (sym c.boot.ensures ∙ c.in_err-z.was)))
