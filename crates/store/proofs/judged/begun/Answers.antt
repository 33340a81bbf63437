use Rattle.std.proofs.Common.{rules}
use Rattle.lent.proofs.Checks.{passed-on}
use Rattle.store.specs.Beginning.{Headed}
use Rattle.store.proofs.Starting.{goal-out}
use mathlib.Core.Path.{sym, ◌∙◌}
use Rattle.paper.proofs.Opening.{change-refused, boot-changes}
use Rattle.store.proofs.judged.begun.Goals as goal

pub returns-in_err-z : goal.returns-in_err-z
returns-in_err-z c = passed-on _ c.from_residual.ensures.1 ∙ goal-out _ c.args.goal _ _ (change-refused _ (sym c.boot.ensures ∙ c.in_err-z.was))

pub with_both-requires-clause-ranged : goal.with_both-requires-clause-ranged
with_both-requires-clause-ranged c = (boot-changes _ (sym c.boot.ensures ∙ c.in_ok-z.was)).ranged

pub with_both-requires-clause-may : goal.with_both-requires-clause-may
with_both-requires-clause-may c =
    let h = sym c.boot.ensures ∙ c.in_ok-z.was in
    let headed : Headed _ _ = record { may = h; booted = boot-changes _ h } in
    search rules
