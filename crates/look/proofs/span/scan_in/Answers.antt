use Rattle.std.specs.Prelude.{Err}
use Rattle.lent.proofs.Checks.{passed-on}
use Rattle.lent.proofs.Results.{mapped-ok, mapped-err}
use Rattle.paper.specs.declared.refusal.Refusal.TheVariants.{BadScan}
use Rattle.paper.specs.Scan.{ruled_of}
use mathlib.Core.Bool.{false}
use Rattle.paper.proofs.Rules.{keeps-lengths}
use mathlib.Core.Path.{sym, ◌∙◌, ap}
use native.Mathlib.Omega.{arith}
use Rattle.look.proofs.span.scan_in.Goals as goal

pub overflow_add-result : goal.overflow_add-result
overflow_add-result c = let k = keeps-lengths (sym c.judge.ensures ∙ mapped-ok BadScan _ c.map_err.ensures.cases c.in_ok-head.was) in omega arith

pub overflow_add-result-2 : goal.overflow_add-result-2
overflow_add-result-2 c = let k = keeps-lengths (sym c.judge.ensures ∙ mapped-ok BadScan _ c.map_err.ensures.cases c.in_ok-head.was) in omega arith

pub returns : goal.returns
returns c =
    rw (sym (ap (λ s. ruled_of s false) c.part.ensures.bytes) ∙ sym c.judge.ensures ∙ mapped-ok BadScan _ c.map_err.ensures.cases c.in_ok-head.was)

pub returns-in_err-head : goal.returns-in_err-head
returns-in_err-head c =
    let m = mapped-err BadScan _ c.map_err.ensures.cases c.in_err-head.was in
    rw (passed-on _ c.from_residual.ensures.1, m.2, sym (ap (λ s. ruled_of s false) c.part.ensures.bytes) ∙ sym c.judge.ensures ∙ m.1)
