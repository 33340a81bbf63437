-- `Sizes::record`: the product and the sum fit, since slot and entry are small.
use Prim.Native.Nat.{◌-◌, ◌*◌}
use native.Mathlib.Nat.{div-le_self}
use native.Mathlib.Omega.{arith}
use Rattle.paper.proofs.Sizing.{slot_small}
use Rattle.paper.proofs.sizes.Sizes.record.Goals as goal

pub overflow_mul-result : goal.overflow_mul-result
overflow_mul-result c = omega (arith, slot_small _ _ c.requires)

pub overflow_add-result : goal.overflow_add-result
overflow_add-result c = omega (arith, slot_small _ _ c.requires, div-le_self ((c.args.s - 1) * c.args.self.m) c.args.self.l)
