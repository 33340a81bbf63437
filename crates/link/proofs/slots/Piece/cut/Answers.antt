use Rattle.link.proofs.Slotting.{cut-none, cut-more, cut-end}
use native.Mathlib.Omega.{arith}
use Rattle.link.proofs.slots.Piece.cut.Goals as goal

pub loop-p-init : goal.loop-p-init
loop-p-init c = cut-none _ _ _ _ _ c.args.self.now.shape c.requires _ (omega (arith, c.max-p.ensures, c.home-home.ensures))

pub loop-p-preserved : goal.loop-p-preserved
loop-p-preserved c = cut-more _ _ _ _ _ c.args.self.now.shape c.requires _ _ _ c.loop-p.invariant (omega (arith, c.max-p.ensures, c.home-home.ensures)) (omega (arith, c.min-p-end.ensures, c.end.ensures)) _ (omega (arith, c.max-p.ensures, c.home-home.ensures)) (omega (arith, c.min-p-end.ensures, c.end.ensures, c.width-width.ensures, c.home-home.ensures)) ((λ h. c.element-e.ensures.1 (omega (arith, c.width-width.ensures, c.home-home.ensures))), (λ h. c.element-e.ensures.2 (omega (arith, c.width-width.ensures, c.home-home.ensures)))) c.more.ensures

pub returns : goal.returns
returns c = cut-end _ _ _ _ _ c.args.self.now.shape c.requires _ _ c.loop-p.invariant (omega (arith, c.max-p.ensures, c.home-home.ensures)) (omega (arith, c.min-p-end.ensures, c.end.ensures, c.width-width.ensures, c.home-home.ensures))
