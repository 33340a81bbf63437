use borrow.Author.Tests.{eqb-true}
use Rattle.marks.specs.Marks.{mark_of, bit_of}
use Rattle.marks.proofs.past.taken.Goals as goal

pub returns-then-w-marks : goal.returns-then-w-marks
unfolding mark_of bit_of
returns-then-w-marks c = λ e. eqb-true _ _ e
