use Rattle.paper.proofs.Linking.{finish-small, finish-short, finish-early}
use mathlib.Core.Path.{sym}
use native.Mathlib.Omega.{arith}
use Rattle.link.proofs.verdict.verdict.Goals as goal

pub returns-then-row-lt8192 : goal.returns-then-row-lt8192
returns-then-row-lt8192 c = sym (finish-small _ _ (omega arith))

pub returns-then-k-lt512 : goal.returns-then-k-lt512
returns-then-k-lt512 c = sym (finish-short _ _ (omega arith) (omega arith))

pub returns-then-k-lt32 : goal.returns-then-k-lt32
returns-then-k-lt32 c = sym (finish-early _ _ (omega arith) (omega arith) (omega arith))
