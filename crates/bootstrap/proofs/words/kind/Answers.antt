use Rattle.bootstrap.proofs.Booting.{type-old, type-current}
use mathlib.Core.Path.{refl}
use native.Mathlib.Omega.{arith}
use Rattle.bootstrap.proofs.words.kind.Goals as goal

pub returns-then-version-eq0 : goal.returns-then-version-eq0
returns-then-version-eq0 c = type-old c.args.file.now (omega arith) refl

pub returns : goal.returns
returns c = type-current c.args.file.now (λ e. omega arith) c.size.ensures.is
