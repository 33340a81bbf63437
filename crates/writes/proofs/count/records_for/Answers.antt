use Rattle.std.proofs.Common.{◌∙◌, arith}
use Rattle.writes.proofs.Counts.{rounded-up}
use Rattle.writes.proofs.count.records_for.Goals as goal

pub returns : goal.returns
returns c = c.div_ceil.ensures ∙ rounded-up _ _ (omega arith)
