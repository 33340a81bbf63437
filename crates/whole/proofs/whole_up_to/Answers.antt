-- `whole::whole_up_to`: a law of `Reach` for each return, by the exponent's field.
use mathlib.Core.Path.{sym}
use native.Mathlib.Omega.{arith}
use Rattle.whole.proofs.Reach.{of_zero, below_one, beyond, unit-pos, no-integer, above, within}
use Rattle.whole.proofs.whole_up_to.Goals as goal

pub returns-then-bits-eq0 : goal.returns-then-bits-eq0
returns-then-bits-eq0 c = sym (of_zero _ (omega arith))

pub returns-then-exponent-lt1023 : goal.returns-then-exponent-lt1023
returns-then-exponent-lt1023 c = sym (below_one _ (omega arith) (omega arith))

pub returns-then-exponent-gt1039 : goal.returns-then-exponent-gt1039
returns-then-exponent-gt1039 c = sym (beyond _ (omega arith))

pub nonzero_rem-digits-2 : goal.nonzero_rem-digits-2
nonzero_rem-digits-2 c = unit-pos _ (omega arith)

pub returns-then-digits-unit-ne0 : goal.returns-then-digits-unit-ne0
returns-then-digits-unit-ne0 c = sym (no-integer _ (omega arith) (omega arith) (omega arith))

pub nonzero_div-n : goal.nonzero_div-n
nonzero_div-n c = unit-pos _ (omega arith)

pub returns-then-n-gt65536 : goal.returns-then-n-gt65536
returns-then-n-gt65536 c = sym (above _ (omega arith) (omega arith) (omega arith) (omega arith))

pub returns : goal.returns
returns c = sym (within _ (omega arith) (omega arith) (omega arith) (omega arith))
