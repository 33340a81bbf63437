use Rattle.link.proofs.Pieces.{end_refused, end-opens, sized_range, head_bytes}
use native.Mathlib.Omega.{arith}
use Rattle.link.proofs.head.index_end.Goals as goal

pub returns-in_default : goal.returns-in_default
returns-in_default c = end_refused _ c.args.came _ (omega arith) c.sizes_at-z.ensures c.sized.ensures _ c.in_default.is

pub overflow_mul-result : goal.overflow_mul-result
overflow_mul-result c = let R = sized_range _ _ c.sized.ensures c.in-Ok.is in omega (arith, head_bytes _ R)

pub returns : goal.returns
returns c = end-opens _ c.args.came _ (omega arith) c.sizes_at-z.ensures c.sized.ensures _ c.in-Ok.is
