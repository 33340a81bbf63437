-- `Sizes::place`: the product fits, since slot and entry are small.
use native.Mathlib.Omega.{arith}
use Rattle.paper.proofs.Sizing.{slot_small}
use Rattle.paper.proofs.sizes.Sizes.place.Goals as goal

pub overflow_mul-result : goal.overflow_mul-result
overflow_mul-result c = omega (arith, slot_small _ _ c.requires)
