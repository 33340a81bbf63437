use Rattle.bootstrap.proofs.Booting.{boot-short, boot-sized}
use native.Mathlib.Omega.{arith}
use Rattle.bootstrap.proofs.judge.boot.Goals as goal

pub returns-then-len-lt512 : goal.returns-then-len-lt512
returns-then-len-lt512 c = boot-short _ (omega arith)

pub returns : goal.returns
returns c = boot-sized _ (omega arith) c.sizes_at-z.ensures c.sized.ensures
