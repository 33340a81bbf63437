use mathlib.Core.Path.{sym, ◌∙◌, ap}
use mathlib.Core.Bool.{not}
use Rattle.std.proofs.Math.Bool.{not-not}
use Rattle.gaps.proofs.Left.{left-zero, left-else}
use Rattle.gaps.proofs.walk.left.Goals as goal

pub returns-then-all_zero : goal.returns-then-all_zero
returns-then-all_zero c = let p = c.requires in left-zero _ _ p.decoded.booted _ p.n_lt_r.0 p.n_lt_r.1 _ c.all_zero.ensures c.if-all_zero.true

pub returns : goal.returns
returns c = let p = c.requires in sym (not-not _) ∙ ap not (sym c.is_none.ensures) ∙ left-else _ _ p.decoded.booted _ p.n_lt_r.0 p.n_lt_r.1 _ c.all_zero.ensures c.if-all_zero.false _ p.decoded.runs c.sharer.ensures
