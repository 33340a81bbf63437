use Rattle.link.proofs.Slotting.{unshaped-row, to_none, to-went, to_end}
use Rattle.paper.proofs.Opening.{shaped-facts}
use mathlib.Core.Path.{sym, ◌∙◌}
use native.Mathlib.Omega.{arith}
use Rattle.link.proofs.slots.lay.Goals as goal

pub returns-then-not-shaped : goal.returns-then-not-shaped
returns-then-not-shaped c = unshaped-row _ _ _ _ (sym c.shaped.ensures ∙ c.if-not-shaped.true)

pub invariant_of-piece-clause-shape : goal.invariant_of-piece-clause-shape
invariant_of-piece-clause-shape c = shaped-facts _ (sym c.shaped.ensures ∙ c.if-not-shaped.false)

pub invariant_of-piece-clause-small : goal.invariant_of-piece-clause-small
invariant_of-piece-clause-small c = λ i. omega (arith, c.type_inv.bytes i)

pub returns : goal.returns
returns c =
    let S = shaped-facts _ (sym c.shaped.ensures ∙ c.if-not-shaped.false) in
    let f = c.first_slot.ensures in
    let b = c.before-first.ensures in
    let w = c.wholes-next.ensures in
    let e = c.before-2.ensures in
    let T = to-went _ _ _ _ _ _ _ _ (to-went _ _ _ _ _ _ _ _ (to-went _ _ _ _ _ _ _ _ (to_none _ _ _ _ S _ f.1) b.went) w.went) e.went in
    to_end _ _ _ _ S _ _ c.requires.0 T e.upper_bound.0 (rw c.end.ensures at e.upper_bound.1)
