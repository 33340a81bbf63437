use Rattle.bootstrap.proofs.Booting.{sized-unknown, sized_range, sized_past, sized-opens, range-kept}
use native.Mathlib.Omega.{arith}
use Rattle.paper.proofs.Sizing.{bytes_small}
use Rattle.std.proofs.Common.{ap, not}
use Rattle.bootstrap.proofs.judge.sized.Goals as goal

pub returns-then-z-gt1 : goal.returns-then-z-gt1
returns-then-z-gt1 c = sized-unknown _ _ (omega arith)

pub returns-then-not-in_range : goal.returns-then-not-in_range
returns-then-not-in_range c = sized_range _ _ (omega arith) c.in_range.ensures (ap not c.if-not-in_range.true)

pub overflow_add-z : goal.overflow_add-z
overflow_add-z c = let h = range-kept _ c.in_range.ensures (ap not c.if-not-in_range.false) in omega arith

pub overflow_mul-z : goal.overflow_mul-z
overflow_mul-z c = let h = range-kept _ c.in_range.ensures (ap not c.if-not-in_range.false) in omega (arith, bytes_small _ h)

pub returns-then-len-z : goal.returns-then-len-z
returns-then-len-z c = sized_past _ _ (omega arith) (range-kept _ c.in_range.ensures (ap not c.if-not-in_range.false)) (omega arith)

pub returns : goal.returns
returns c = sized-opens _ _ (omega arith) (range-kept _ c.in_range.ensures (ap not c.if-not-in_range.false)) (omega arith)
