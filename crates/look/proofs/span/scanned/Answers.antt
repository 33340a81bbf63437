use Rattle.lent.proofs.Checks.{passed-on}
use Rattle.look.proofs.Slots.{held, entry-slotted, entry-small, records-within}
use Rattle.look.proofs.Spans.{read-other, read_held, read-refused}
use mathlib.Core.Path.{refl, sym, ◌∙◌}
use native.Mathlib.Omega.{arith}
use Rattle.std.proofs.Common.{ap, not}
use Rattle.look.proofs.span.scanned.Goals as goal

pub home-requires : goal.home-requires
home-requires c = entry-slotted _ _ (held _ _ (sym c.find.ensures ∙ c.in_ok-z.was))

pub version_one-requires : goal.version_one-requires
version_one-requires c = rw c.home.ensures (entry-small _ _ (held _ _ (sym c.find.ensures ∙ c.in_ok-z.was)))

pub returns-then-not-version_one : goal.returns-then-not-version_one
returns-then-not-version_one c = read-other _ _ (sym c.find.ensures ∙ c.in_ok-z.was) c.home.ensures c.version_one.ensures (ap not c.if-not-version_one.true)

pub start-requires : goal.start-requires
start-requires c = records-within _ _ (held _ _ (sym c.find.ensures ∙ c.in_ok-z.was))

pub overflow_mul-a : goal.overflow_mul-a
overflow_mul-a c = let w = records-within _ _ (held _ _ (sym c.find.ensures ∙ c.in_ok-z.was)) in omega arith

pub scan_in-requires : goal.scan_in-requires
scan_in-requires c = let w = records-within _ _ (held _ _ (sym c.find.ensures ∙ c.in_ok-z.was)) in omega arith

pub returns : goal.returns
returns c = c.scan_in.ensures ∙ read_held _ _ (sym c.find.ensures ∙ c.in_ok-z.was) c.home.ensures c.version_one.ensures (ap not c.if-not-version_one.false) c.start.ensures refl

pub returns-in_err-z : goal.returns-in_err-z
returns-in_err-z c = passed-on _ c.from_residual.ensures.1 ∙ read-refused _ _ (sym c.find.ensures ∙ c.in_err-z.was)
