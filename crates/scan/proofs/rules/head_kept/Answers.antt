-- `scan::rules::head_kept`: no length, a test of rule 4 that fails, or HEADLEN.
use Rattle.std.specs.Prelude.{Some}
use mathlib.Core.Path.{◌≡◌, sym, ◌∙◌}
use native.Mathlib.Omega.{arith}
use Rattle.lent.specs.Number.{be64}
use Rattle.whole.specs.Number.{up_to}
use Rattle.whole.specs.Length.{length_of}
use Rattle.scan.proofs.Lengths.{no-head, head-unread, head_read, yes-head}
use Rattle.scan.proofs.rules.head_kept.Goals as goal

pub returns-in_err-head : goal.returns-in_err-head
returns-in_err-head c = c.from_residual.ensures ∙ head-unread _ _ (sym c.length_at.ensures ∙ c.in_err-head.was)

pub returns-then-head-ne0 : goal.returns-then-head-ne0
returns-then-head-ne0 c = let e : up_to 65536 (length_of (be64 c.args.s.now 32)) ≡ Some c.in_ok-head.head = sym c.length_at.ensures ∙ c.in_ok-head.was in no-head _ _ (λ f. omega (arith, head_read _ 0 _ e))

pub returns-then-head-last : goal.returns-then-head-last
returns-then-head-last c = let e : up_to 65536 (length_of (be64 c.args.s.now 32)) ≡ Some c.in_ok-head.head = sym c.length_at.ensures ∙ c.in_ok-head.was in no-head _ _ (λ f. omega (arith, head_read _ 0 _ e))

pub returns-then-s-head : goal.returns-then-s-head
returns-then-s-head c = let e : up_to 65536 (length_of (be64 c.args.s.now 32)) ≡ Some c.in_ok-head.head = sym c.length_at.ensures ∙ c.in_ok-head.was in no-head _ _ (λ f. omega (arith, head_read _ 0 _ e))

pub returns : goal.returns
returns c = let e : up_to 65536 (length_of (be64 c.args.s.now 32)) ≡ Some c.in_ok-head.head = sym c.length_at.ensures ∙ c.in_ok-head.was in yes-head _ _ _ e (omega arith) (omega arith) (omega arith)
