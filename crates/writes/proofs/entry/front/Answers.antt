use Rattle.std.proofs.Common.{[], ◌∷◌, refl, ◌∙◌, arith, length-append}
use Rattle.lent.proofs.Numbers.{length-numbers, number-first, number-next}
use Rattle.lent.proofs.Writes.{write_then, write-all}
use Rattle.writes.proofs.entry.front.Goals as goal

pub returns : goal.returns
returns c =
    let a = c.args in
    let w = length-numbers 4 (a.first ∷ a.last ∷ []) in
    let one = number-first 4 _ _ _ _ c.put32.ensures in
    let two = number-next 4 _ _ _ _ _ _ _ one c.put32-2.ensures refl (omega arith) in
    write_then _ _ _ _ _ _ _ two c.copy_to.ensures (omega arith) (omega arith) ∙ write-all _ _ (simp length-append (omega arith))
