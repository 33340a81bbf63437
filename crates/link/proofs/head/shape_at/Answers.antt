use Rattle.link.proofs.Pieces.{shape-old, shape-current}
use Rattle.link.proofs.Elements.{word-old, word-current}
use mathlib.Core.Path.{◌≡◌, sym, ◌∙◌}
use Rattle.paper.specs.Sizes.{version_of}
use native.Mathlib.Omega.{arith}
use Rattle.link.proofs.head.shape_at.Goals as goal

pub returns-then-load32-eq0 : goal.returns-then-load32-eq0
returns-then-load32-eq0 c = let v : version_of c.args.boot.now ≡ 0 = sym c.load32.ensures ∙ c.if-load32-eq0.true in c.shape.ensures ∙ shape-old _ v (word-old _ _ 0 0 _ v c.load16.ensures (omega arith) c.widened-n.ensures) (word-old _ _ 0 2 _ v c.load16-then-load32-eq0.ensures (omega arith) c.widened-l.ensures) (word-old _ _ 0 3 _ v c.load16-then-load32-eq0-2.ensures (omega arith) c.widened-m.ensures)

pub returns-else-load32-eq0 : goal.returns-else-load32-eq0
returns-else-load32-eq0 c = let v : version_of c.args.boot.now ≡ 0 → ⊥ = λ e. c.if-load32-eq0.false (c.load32.ensures ∙ e) in c.shape-else-load32-eq0.ensures ∙ shape-current _ v (word-current _ _ 0 0 _ v c.load32-n.ensures (omega arith)) (word-current _ _ 0 2 _ v c.load32-l.ensures (omega arith)) (word-current _ _ 0 3 _ v c.load32-m.ensures (omega arith))
