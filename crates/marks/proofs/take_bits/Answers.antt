use native.Mathlib.Omega.{arith}
use Prim.Native.Nat.{ℕ}
use mathlib.Core.Path.{◌≡◌}
use Rattle.marks.proofs.Marking.{took-bits}
use Rattle.marks.proofs.take_bits.Goals as goal

pub returns-then-v-m-ne0 : goal.returns-then-v-m-ne0
returns-then-v-m-ne0 c e = absurd (let z : ◌≡◌ {A = ℕ} 0 1 = cc in omega arith)

pub returns : goal.returns
returns c = λ e. took-bits _ _ _ _ c.requires.0 c.requires.1 c.requires.2 _ c.ones-m.ensures c.if-v-m-ne0.false
