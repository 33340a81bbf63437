-- `scan::spans::data_span`: 11 where the rules are broken, else what follows HEADLEN.
use Rattle.std.specs.Prelude.{Err}
use mathlib.Core.Path.{sym, ap, ◌∙◌}
use native.Mathlib.Omega.{arith}
use Rattle.lent.proofs.Checks.{passed-on}
use Rattle.lent.proofs.Results.{mapped-ok, mapped-err}
use Rattle.paper.specs.declared.refusal.Refusal.TheVariants.{BadScan}
use Rattle.paper.proofs.Rules.{keeps-lengths}
use Rattle.paper.proofs.Classes.{data_is, data-refused}
use Rattle.scan.proofs.spans.data_span.Goals as goal

pub overflow_add-result : goal.overflow_add-result
overflow_add-result c = omega (arith, keeps-lengths (sym c.judge.ensures ∙ mapped-ok BadScan _ c.map_err.ensures.cases c.in_ok-head.was))

pub returns-in_err-head : goal.returns-in_err-head
returns-in_err-head c =
    let m = mapped-err BadScan _ c.map_err.ensures.cases c.in_err-head.was in
    passed-on _ c.from_residual.ensures.1 ∙ ap Err m.2 ∙ sym (data-refused c.args.s.now (sym c.judge.ensures ∙ m.1))

pub returns : goal.returns
returns c = sym (data_is c.args.s.now (sym c.judge.ensures ∙ mapped-ok BadScan _ c.map_err.ensures.cases c.in_ok-head.was))
