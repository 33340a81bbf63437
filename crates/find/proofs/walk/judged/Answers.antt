use mathlib.Core.Path.{sym, ◌∙◌}
use Rattle.paper.proofs.Rules.{keeps-lengths}
use Rattle.find.proofs.Walking.{was-ok, takes-broken, takes-kept}
use native.Mathlib.Omega.{arith}
use Rattle.find.proofs.walk.judged.Goals as goal

pub overflow_add-head : goal.overflow_add-head
overflow_add-head c = let k = keeps-lengths (sym c.judge.ensures ∙ was-ok _ (sym c.ok.ensures.value ∙ c.in_ok-head.was)) in omega (arith, k.head_small, k.rest_small)

pub returns-in_err-head : goal.returns-in_err-head
returns-in_err-head c = let p = c.requires in c.from_residual.ensures ∙ takes-broken c.args.file.booted _ p.0 p.1 c.judge.ensures (sym c.ok.ensures.value ∙ c.in_err-head.was)

pub returns : goal.returns
returns c =
    let p = c.requires in
    takes-kept c.args.file.booted _ p.0 p.1 (sym c.judge.ensures ∙ was-ok _ (sym c.ok.ensures.value ∙ c.in_ok-head.was)) c.records_for.ensures
