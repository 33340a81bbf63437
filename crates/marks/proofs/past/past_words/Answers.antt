use mathlib.Core.Path.{◌≡◌}
use native.Mathlib.Omega.{arith}
use Rattle.marks.proofs.Passing.{full-none, full-more, full-word}
use Rattle.marks.proofs.past.past_words.Goals as goal

pub loop-w-init : goal.loop-w-init
loop-w-init c = (full-none _ _, omega arith)

pub returns-then-marks-w : goal.returns-then-marks-w
returns-then-marks-w c = (c.loop-w.invariant.0, omega arith)

pub loop-w-preserved : goal.loop-w-preserved
loop-w-preserved c = (full-more _ _ _ _ _ c.loop-w.invariant.0 (full-word _ _ (omega arith)) (omega arith), omega arith)

pub returns : goal.returns
returns c = let e : c.max.result ≡ c.loop-w.w = omega arith in (rw e c.loop-w.invariant.0, omega arith)
