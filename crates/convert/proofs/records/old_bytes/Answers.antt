use native.Mathlib.Omega.{arith}
use Rattle.lent.proofs.Numbers.{numbers-fill}
use Rattle.convert.proofs.records.old_bytes.Goals as goal

pub returns : goal.returns
returns c = numbers-fill 2 _ _ _ _ _ c.put_three.ensures c.put_three-2.ensures (omega arith)
