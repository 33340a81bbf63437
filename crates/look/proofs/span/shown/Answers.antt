use Rattle.lent.proofs.Checks.{passed-on}
use Rattle.look.proofs.Spans.{show-held, show-refused}
use Rattle.look.proofs.Slots.{held, records-within}
use mathlib.Core.Path.{sym, ◌∙◌}
use Rattle.look.proofs.span.shown.Goals as goal

pub records-requires : goal.records-requires
records-requires c = records-within _ _ (held _ _ (sym c.find.ensures ∙ c.in_ok-z.was))

pub returns : goal.returns
returns c = c.records.ensures ∙ show-held _ _ (sym c.find.ensures ∙ c.in_ok-z.was)

pub returns-in_err-z : goal.returns-in_err-z
returns-in_err-z c = passed-on _ c.from_residual.ensures.1 ∙ show-refused _ _ (sym c.find.ensures ∙ c.in_err-z.was)
