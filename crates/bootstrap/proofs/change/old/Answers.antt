use Rattle.bootstrap.proofs.Changing.{short-not, long-is}
use native.Mathlib.Omega.{arith}
use mathlib.Core.Path.{ap, ◌∙◌}
use lib.Dec.{eqb}
use borrow.Author.Tests.{lt-leb}
use Rattle.bootstrap.proofs.change.old.Goals as goal

pub returns-then-file-ge512 : goal.returns-then-file-ge512
returns-then-file-ge512 c = ap (λ v. eqb v 0) c.word32.ensures ∙ long-is _ (omega arith)

pub returns-else-file-ge512 : goal.returns-else-file-ge512
returns-else-file-ge512 c = lt-leb _ _ (omega arith) ∙ short-not _ (omega arith)
