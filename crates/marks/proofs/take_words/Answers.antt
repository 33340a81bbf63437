use Rattle.marks.proofs.Marking.{took-none, took_more}
use mathlib.Core.Path.{◌≡◌, refl, ◌∙◌}
use Prim.Native.Nat.{ℕ}
use native.Mathlib.Omega.{arith}
use Rattle.marks.proofs.take_words.Goals as goal

pub loop-i-init : goal.loop-i-init
loop-i-init c = (omega arith, omega arith, omega arith, refl, took-none _ _ _ (omega arith))

pub shape_of-marks-then-not-take_bits : goal.shape_of-marks-then-not-take_bits
shape_of-marks-then-not-take_bits c = c.take_bits.auto.marks ∙ c.loop-i.invariant.3

pub returns-then-not-take_bits : goal.returns-then-not-take_bits
returns-then-not-take_bits c e = absurd (let z : ◌≡◌ {A = ℕ} 0 1 = cc in omega arith)

pub loop-i-preserved : goal.loop-i-preserved
loop-i-preserved c = (omega arith, omega arith, omega arith, c.take_bits.auto.marks ∙ c.loop-i.invariant.3, took_more _ _ _ _ _ _ _ _ c.loop-i.invariant.4 (c.take_bits.ensures c.if-not-take_bits.false) (omega arith) (omega arith) (omega arith) (omega arith))

pub shape_of-marks : goal.shape_of-marks
shape_of-marks c = c.take_bits-2.auto.marks ∙ c.loop-i.invariant.3

pub returns : goal.returns
returns c = λ e. took_more _ _ _ _ _ _ _ _ c.loop-i.invariant.4 (c.take_bits-2.ensures e) (omega arith) (omega arith) (omega arith) (omega arith)
