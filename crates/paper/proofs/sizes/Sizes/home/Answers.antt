-- `Sizes::home`: the product and the sum fit, since slot and entry are small.
use native.Mathlib.Omega.{arith}
use Rattle.paper.proofs.Sizing.{slot_small}
use Rattle.paper.proofs.sizes.Sizes.home.Goals as goal

pub overflow_mul-result : goal.overflow_mul-result
overflow_mul-result c = omega (arith, slot_small _ _ c.requires)

pub overflow_add-result : goal.overflow_add-result
overflow_add-result c = omega (arith, slot_small _ _ c.requires)
