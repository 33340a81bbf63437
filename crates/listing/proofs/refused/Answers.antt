-- `listing::refused`: number and slot fit the line, whatever the refusal.
use Rattle.std.proofs.Common.{arith}
use Rattle.listing.proofs.Texts.{refused-short}
use Rattle.listing.proofs.refused.Goals as goal

pub two-requires : goal.two-requires
two-requires c = omega (arith, refused-short c.number.result c.value.result)
