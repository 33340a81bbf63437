use Rattle.link.proofs.Elements.{more_old, more-current}
use native.Mathlib.Omega.{arith}
use Rattle.link.proofs.number.more.Goals as goal

pub returns-then-version-eq0 : goal.returns-then-version-eq0
returns-then-version-eq0 c = more_old _ _ _ (omega arith) (omega arith) (omega arith) c.widened.ensures

pub returns : goal.returns
returns c = more-current _ _ _ (λ e. omega arith) (omega arith) (omega arith)
