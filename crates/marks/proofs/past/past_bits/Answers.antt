use Prim.Native.Nat.{◌/◌}
use native.Mathlib.Omega.{arith}
use Rattle.marks.proofs.Passing.{full-bits}
use Rattle.marks.proofs.past.past_bits.Goals as goal

pub returns-then-w-marks : goal.returns-then-w-marks
returns-then-w-marks c = (full-bits _ _ _ (omega (arith, (c.type_inv.marks (c.args.a / 64)).fits)) c.low_ones.ensures, omega (arith, c.low_ones.ensures.few))
