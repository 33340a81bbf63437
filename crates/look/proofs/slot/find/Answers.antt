use Rattle.lent.proofs.Checks.{passed-on}
use Rattle.look.proofs.Slots.{find-refused, find-outside, find-empty, find-scan}
use Rattle.paper.proofs.Opening.{open-sound}
use mathlib.Core.Path.{sym, ◌∙◌}
use native.Mathlib.Omega.{arith}
use Rattle.look.proofs.slot.find.Goals as goal
use Rattle.look.proofs.slot.find.Goals.{then-slot-eq0-via-then-slot-eq0, then-slot-eq0-via-else-slot-eq0+then-capacity-slot}

pub returns-then-slot-eq0 : goal.returns-then-slot-eq0
returns-then-slot-eq0 c =
    find-outside _ _ (sym c.judge.ensures ∙ c.in_ok-z.was) (λ a b. elim c.then-slot-eq0.branch [
      | then-slot-eq0-via-then-slot-eq0 w ↦ omega arith
      | then-slot-eq0-via-else-slot-eq0+then-capacity-slot w ↦ omega arith
    ])

pub capacity-requires : goal.capacity-requires
capacity-requires c = (open-sound (sym c.judge.ensures ∙ c.in_ok-z.was)).booted.ranged.shape

pub invariant_of-file : goal.invariant_of-file
invariant_of-file c = record { booted = (open-sound (sym c.judge.ensures ∙ c.in_ok-z.was)).booted }

pub returns-then-empty : goal.returns-then-empty
returns-then-empty c = find-empty _ _ (sym c.judge.ensures ∙ c.in_ok-z.was) (omega arith) (omega arith) c.run_at-a.ensures.is (sym c.empty.ensures ∙ c.if-empty.true)

pub returns-in_err-z : goal.returns-in_err-z
returns-in_err-z c = passed-on _ c.from_residual.ensures.1 ∙ find-refused _ _ (sym c.judge.ensures ∙ c.in_err-z.was)

pub returns : goal.returns
returns c = find-scan _ _ (sym c.judge.ensures ∙ c.in_ok-z.was) (omega arith) (omega arith) c.run_at-a.ensures.is (sym c.empty.ensures ∙ c.if-empty.false)
