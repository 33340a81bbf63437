use Rattle.paper.proofs.Forms.{word-old, word-current}
use native.Mathlib.Omega.{arith}
use Rattle.bootstrap.proofs.words.word.Goals as goal

pub returns-then-version-eq0 : goal.returns-then-version-eq0
returns-then-version-eq0 c = let a = c.args in word-old _ a.version _ _ (omega arith) c.word16-v.ensures c.widened.ensures

pub returns : goal.returns
returns c = let a = c.args in word-current _ a.version _ _ (λ e. omega arith) c.word32.ensures
