use Rattle.link.proofs.Elements.{word-old, word-current}
use Rattle.link.proofs.Slotting.{whole-put}
use Prim.Native.Nat.{◌-◌}
use mathlib.Core.Path.{ap}
use native.Mathlib.Omega.{arith}
use Rattle.link.proofs.slots.Piece.whole.Goals as goal

pub returns-then-self-eq0 : goal.returns-then-self-eq0
returns-then-self-eq0 c = let p = c.requires in whole-put _ _ _ _ _ c.args.self.now.shape p.inside _ _ _ (ap (λ h. h - c.args.self.now.at) c.home.ensures) c.args.self.now.small p.at_bound.0 p.at_bound.1 (word-old _ _ _ 0 _ (omega arith) c.load16.ensures (omega arith) c.widened.ensures) (word-old _ _ _ 1 _ (omega arith) c.load16-then-self-eq0.ensures (omega arith) c.widened-then-self-eq0.ensures)

pub returns : goal.returns
returns c = let p = c.requires in whole-put _ _ _ _ _ c.args.self.now.shape p.inside _ _ _ (ap (λ h. h - c.args.self.now.at) c.home.ensures) c.args.self.now.small p.at_bound.0 p.at_bound.1 (word-current _ _ _ 0 _ (λ e. omega arith) c.load32.ensures (omega arith)) (word-current _ _ _ 1 _ (λ e. omega arith) c.load32-2.ensures (omega arith))
