-- `lent::part::part`: nothing, or what there is of it.
use Rattle.std.proofs.Common.{sym, arith}
use Rattle.lent.proofs.Parts.{part-cut, part-empty, place-some, place-empty, on_none, on_some}
use Rattle.lent.proofs.part.part.Goals as goal

pub returns-then-end-from : goal.returns-then-end-from
returns-then-end-from c =
    let a = c.args in
    record { bytes = sym (part-empty a.from a.to a.s.now (omega arith)); place = on_none a.s.ref_ptr (place-empty a.from a.to a.s.now (omega arith)) }

pub returns : goal.returns
returns c =
    let a = c.args in
    record { bytes = rw c.min-end.ensures (part-cut a.from a.to a.s.now); place = on_some a.s.ref_ptr (place-some a.from a.to a.s.now (omega arith) (omega arith)) }
