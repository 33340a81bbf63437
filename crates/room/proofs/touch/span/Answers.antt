use Prim.Native.Nat.{◌+◌, ◌-◌}
use mathlib.Core.Path.{◌≡◌}
use native.Mathlib.Omega.{arith}
use Rattle.room.proofs.touch.span.Goals as goal

pub returns : goal.returns
returns c = let e : c.args.i + 1 + c.args.k - 1 ≡ c.args.i + c.args.k = omega arith in cc
