use Rattle.std.specs.Prelude.{Err}
use Rattle.lent.proofs.Checks.{passed-on}
use Rattle.lent.proofs.Results.{ok_or-some, ok_or-none}
use Rattle.paper.proofs.Opening.{change-sound}
use Rattle.store.proofs.Rooms.{empty-there, kept_there, slot-stated}
use Rattle.store.proofs.Starting.{keep-none, keep-on}
use mathlib.Core.Path.{ap, ◌∙◌}
use Rattle.store.proofs.rowed.Rowed.keep_at.Goals as goal

pub lowest_empty-requires : goal.lowest_empty-requires
lowest_empty-requires c = let r = c.self.invariant in record { ranged = (change-sound _ r.opens).booted.ranged; u_in_bounds = r.wide }

pub returns-in_err-slot : goal.returns-in_err-slot
returns-in_err-slot c =
    let s = c.self.inside in
    let r = c.self.invariant in
    let n = ok_or-none _ _ c.ok_or.ensures.value c.in_err-slot.was in
    passed-on _ c.from_residual.ensures.1 ∙ ap Err n.1
    ∙ rw (← c.self.view_is) (keep-none s.file.now _ _ r.opens _ (empty-there s.file.now s.z s.row.now s.marks.now r _ c.lowest_empty.ensures) n.0)

pub place-requires : goal.place-requires
place-requires c =
    let s = c.self.inside in
    rw (← c.self.view_is) (slot-stated _ c.self.invariant.opens _ (kept_there s.file.now s.z s.row.now s.marks.now c.self.invariant _ _ c.lowest_empty.ensures (ok_or-some _ _ c.ok_or.ensures.value c.in_ok-slot.was)))

pub returns : goal.returns
returns c =
    let s = c.self.inside in
    let r = c.self.invariant in
    let p = rw (← c.self.view_is) at c.place.ensures in
    rw (← c.self.view_is) (keep-on s.file.now _ _ r.opens _ (empty-there s.file.now s.z s.row.now s.marks.now r _ c.lowest_empty.ensures) _ (ok_or-some _ _ c.ok_or.ensures.value c.in_ok-slot.was) p)
