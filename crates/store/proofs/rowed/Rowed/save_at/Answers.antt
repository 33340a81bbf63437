use Rattle.store.proofs.Rooms.{opens-shape, has-slot, slot-stated}
use Rattle.store.proofs.Starting.{save-no-slot, save-on}
use mathlib.Core.Path.{sym, ◌∙◌}
use Rattle.store.proofs.rowed.Rowed.save_at.Goals as goal

pub has_slot-requires : goal.has_slot-requires
has_slot-requires c = opens-shape _ c.self.invariant.opens

pub returns-then-not-has_slot : goal.returns-then-not-has_slot
returns-then-not-has_slot c =
    rw (← c.self.view_is) (save-no-slot c.self.inside.file.now _ _ _ c.self.invariant.opens (sym c.has_slot.ensures ∙ c.if-not-has_slot.true))

pub place-requires : goal.place-requires
place-requires c = let o = c.self.invariant.opens in rw (← c.self.view_is) (slot-stated _ o _ (has-slot c.self.inside.file.now o _ (sym c.has_slot.ensures ∙ c.if-not-has_slot.false)))

pub returns : goal.returns
returns c =
    let p = rw (← c.self.view_is) at c.place.ensures in
    rw (← c.self.view_is) (save-on c.self.inside.file.now _ _ _ c.self.invariant.opens (sym c.has_slot.ensures ∙ c.if-not-has_slot.false) p)
