use Rattle.std.proofs.Common.{refl, arith}
use Rattle.lent.proofs.Numbers.{number-first, number-next}
use Rattle.writes.proofs.boot.put_four.Goals as goal

pub returns : goal.returns
returns c =
    let one = number-first 4 _ _ _ _ c.put32.ensures in
    let two = number-next 4 _ _ _ _ _ _ _ one c.put32-2.ensures refl (omega arith) in
    let three = number-next 4 _ _ _ _ _ _ _ two c.put32-3.ensures refl (omega arith) in
    number-next 4 _ _ _ _ _ _ _ three c.put32-4.ensures refl (omega arith)
