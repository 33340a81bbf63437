use native.Mathlib.Omega.{arith}
use Rattle.marks.proofs.Passing.{full-more}
use Rattle.marks.proofs.past.past_ones.Goals as goal

pub returns : goal.returns
returns c = full-more _ _ _ _ _ (full-more _ _ _ _ _ c.past_bits-e.ensures.0 c.past_words-w.ensures.0 (omega arith)) c.past_bits.ensures.0 (omega arith)
