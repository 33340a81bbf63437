use mathlib.Core.Path.{sym, ◌∙◌}
use Rattle.lent.proofs.Checks.{passed-on}
use Rattle.link.proofs.Verdicts.{verdict-refused, verdict-early, verdict-index}
use Rattle.link.proofs.Pieces.{sized_range, head_bytes}
use native.Mathlib.Omega.{arith}
use Rattle.link.proofs.verdict.booted.Goals as goal

pub returns-in_err-y : goal.returns-in_err-y
returns-in_err-y c = let p = c.requires in passed-on _ c.from_residual.ensures.1 ∙ sym c.in_err-y.was ∙ verdict-refused _ _ p.0 p.1 p.2 _ c.sizes_at-z.ensures _ c.sized.ensures _ c.in_err-y.was

pub overflow_mul-y : goal.overflow_mul-y
overflow_mul-y c = let R = sized_range _ _ c.sized.ensures c.in_ok-y.was in omega (arith, head_bytes _ R)

pub returns-then-k-y : goal.returns-then-k-y
returns-then-k-y c = let p = c.requires in verdict-early _ _ p.0 p.1 p.2 _ c.sizes_at-z.ensures _ c.sized.ensures _ c.in_ok-y.was (omega arith)

pub judge-requires : goal.judge-requires
judge-requires c = (sized_range _ _ c.sized.ensures c.in_ok-y.was, c.requires.0)

pub returns : goal.returns
returns c = let p = c.requires in verdict-index _ _ p.0 p.1 p.2 _ c.sizes_at-z.ensures _ c.sized.ensures _ c.in_ok-y.was _ (omega arith) c.judge.ensures
