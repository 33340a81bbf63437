-- `scan::rules::rest_kept`: no length, a test of rule 5 that fails, or DATALEN.
use Rattle.std.specs.Prelude.{Some}
use mathlib.Core.Path.{◌≡◌, sym, ◌∙◌}
use native.Mathlib.Omega.{arith}
use Rattle.lent.specs.Number.{be64}
use Rattle.whole.specs.Number.{up_to}
use Rattle.whole.specs.Length.{length_of}
use Rattle.scan.proofs.Lengths.{no-rest, rest-unread, rest_read, yes-rest}
use Rattle.scan.proofs.rules.rest_kept.Goals as goal

pub returns-in_err-rest : goal.returns-in_err-rest
returns-in_err-rest c = c.from_residual.ensures ∙ rest-unread _ (sym c.length_at.ensures ∙ c.in_err-rest.was)

pub returns-then-rest-ne0 : goal.returns-then-rest-ne0
returns-then-rest-ne0 c = let e : up_to 65536 (length_of (be64 c.args.s.now 40)) ≡ Some c.in_ok-rest.rest = sym c.length_at.ensures ∙ c.in_ok-rest.was in no-rest _ (λ f. omega (arith, rest_read _ _ e))

pub overflow_add-head : goal.overflow_add-head
overflow_add-head c = omega (arith, rest_read _ _ (sym c.length_at.ensures ∙ c.in_ok-rest.was))

pub returns-then-s-head : goal.returns-then-s-head
returns-then-s-head c = let e : up_to 65536 (length_of (be64 c.args.s.now 40)) ≡ Some c.in_ok-rest.rest = sym c.length_at.ensures ∙ c.in_ok-rest.was in no-rest _ (λ f. omega (arith, rest_read _ _ e))

pub returns : goal.returns
returns c = let e : up_to 65536 (length_of (be64 c.args.s.now 40)) ≡ Some c.in_ok-rest.rest = sym c.length_at.ensures ∙ c.in_ok-rest.was in yes-rest _ _ e (omega arith) (omega arith)
