-- `lent::read::int16`: the integer of the 16 bits that are read.
use Rattle.std.proofs.Common.{ap, ◌∙◌, w16, to_z-of_z}
use Rattle.lent.specs.Number.{int16}
use Rattle.lent.proofs.Signed.{signed_is}
use Rattle.lent.proofs.read.int16.Goals as goal

pub returns : goal.returns
returns c = to_z-of_z {w = w16} (record { sfits = c.cast_signed.type_inv }) ∙ c.cast_signed.ensures ∙ signed_is _ ∙ ap int16 c.word16.ensures
