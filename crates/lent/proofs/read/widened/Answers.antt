-- `lent::read::widened`: the bits of the same integer in more bits.
use Rattle.std.proofs.Common.{ap, ◌∙◌, arith, w16, w32, to_z-of_z}
use mir.Val.{of_z}
use Rattle.lent.proofs.Signed.{wide_is}
use Rattle.lent.proofs.read.widened.Goals as goal

pub returns : goal.returns
returns c =
    let same = to_z-of_z {w = w32} (record { sfits = c.from.type_inv }) ∙ c.from.ensures ∙ to_z-of_z {w = w16} (record { sfits = c.cast_signed.type_inv }) ∙ c.cast_signed.ensures in
    c.cast_unsigned.ensures ∙ ap (of_z w32) same ∙ wide_is c.args.v (omega arith)
