use mathlib.Core.Path.{refl}
use native.Mathlib.Omega.{arith}
use Rattle.lent.proofs.Numbers.{number-first, number-next}
use Rattle.convert.proofs.records.put_three.Goals as goal

pub returns : goal.returns
returns c =
    let one = number-first 2 _ _ _ _ c.put16.ensures in
    let two = number-next 2 _ _ _ _ _ _ _ one c.put16-2.ensures refl (omega arith) in
    number-next 2 _ _ _ _ _ _ _ two c.put16-3.ensures refl (omega arith)
