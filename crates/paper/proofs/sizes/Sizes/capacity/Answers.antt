-- `Sizes::capacity`: the product fits, since the index is small.
use native.Mathlib.Omega.{arith}
use Rattle.paper.proofs.Sizing.{index-small}
use Rattle.paper.proofs.sizes.Sizes.capacity.Goals as goal

pub overflow_mul-result : goal.overflow_mul-result
overflow_mul-result c = omega (arith, index-small _ c.requires)
