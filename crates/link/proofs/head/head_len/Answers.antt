use Rattle.paper.proofs.Linking.{head_short, head-min}
use mathlib.Core.Path.{sym}
use native.Mathlib.Omega.{arith}
use Rattle.link.proofs.head.head_len.Goals as goal

pub returns-then-k-lt512 : goal.returns-then-k-lt512
returns-then-k-lt512 c = sym (head_short _ _ (omega arith))

pub returns-else-k-lt512 : goal.returns-else-k-lt512
returns-else-k-lt512 c = omega (arith, c.min.ensures, c.saturating_sub.ensures, head-min c.args.k c.args.piece.now (omega arith))
