use Rattle.lent.proofs.Checks.{passed-on}
use Rattle.paper.proofs.Opening.{change-sound}
use Rattle.store.proofs.Rooms.{opens-shape, has-slot, clearing}
use Rattle.store.proofs.Starting.{clear-out, clear-no-slot, clear-empty, clear-on}
use mathlib.Core.Path.{sym, ◌∙◌}
use Rattle.store.proofs.begin.cleared.Goals as goal

pub returns-in_err-z : goal.returns-in_err-z
returns-in_err-z c = passed-on _ c.from_residual.ensures.1 ∙ clear-out _ _ (sym c.judge.ensures ∙ c.in_err-z.was)

pub has_slot-requires : goal.has_slot-requires
has_slot-requires c = opens-shape c.args.file.now (sym c.judge.ensures ∙ c.in_ok-z.was)

pub returns-then-not-has_slot : goal.returns-then-not-has_slot
returns-then-not-has_slot c = clear-no-slot _ _ (sym c.judge.ensures ∙ c.in_ok-z.was) (sym c.has_slot.ensures ∙ c.if-not-has_slot.true)

pub invariant_of-file : goal.invariant_of-file
invariant_of-file c = record { booted = (change-sound c.args.file.now (sym c.judge.ensures ∙ c.in_ok-z.was)).booted }

pub run_at-requires : goal.run_at-requires
run_at-requires c =
    let i = has-slot c.args.file.now (sym c.judge.ensures ∙ c.in_ok-z.was) _ (sym c.has_slot.ensures ∙ c.if-not-has_slot.false) in
    (i.low, i.high)

pub returns-then-empty : goal.returns-then-empty
returns-then-empty c = clear-empty _ _ (sym c.judge.ensures ∙ c.in_ok-z.was) (sym c.has_slot.ensures ∙ c.if-not-has_slot.false) _ c.run_at.ensures.is _ c.empty.ensures c.if-empty.true

pub clear_job-requires : goal.clear_job-requires
clear_job-requires c = let s = c.args in clearing s.file.now s.slot (sym c.judge.ensures ∙ c.in_ok-z.was) (sym c.has_slot.ensures ∙ c.if-not-has_slot.false) _ c.run_at.ensures.is _ c.empty.ensures c.if-empty.false

pub returns : goal.returns
returns c = clear-on _ _ (sym c.judge.ensures ∙ c.in_ok-z.was) (sym c.has_slot.ensures ∙ c.if-not-has_slot.false) _ c.run_at.ensures.is _ c.empty.ensures c.if-empty.false c.clear_job.ensures
