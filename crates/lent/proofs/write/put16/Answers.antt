-- `lent::write::put16`: the library's digits are the bytes of the number.
use Rattle.std.proofs.Common.{refl, ap, ◌∙◌}
use Rattle.lent.specs.Write.{write}
use Rattle.lent.proofs.Numbers.{bytes-two}
use Rattle.lent.proofs.write.put16.Goals as goal

pub returns : goal.returns
returns c = let a = c.args in c.copy_to.ensures ∙ ap (write a.file.now a.at) (c.to_be_bytes.ensures ∙ bytes-two a.half _ _ refl refl)
