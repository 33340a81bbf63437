use Rattle.bootstrap.proofs.Booting.{counter-old, counter-current}
use native.Mathlib.Omega.{arith}
use Rattle.bootstrap.proofs.words.counter.Goals as goal

pub returns-then-version-eq0 : goal.returns-then-version-eq0
returns-then-version-eq0 c = counter-old c.args.file.now (omega arith) c.word16.ensures

pub returns : goal.returns
returns c = counter-current c.args.file.now (λ e. omega arith) c.word32.ensures
