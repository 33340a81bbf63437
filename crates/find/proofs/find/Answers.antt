use Rattle.paper.specs.Refusals.{listed_says}
use mathlib.Core.Path.{ap}
use Rattle.find.proofs.find.Goals as goal

pub returns : goal.returns
returns c = record { answer = ap listed_says c.reported.ensures.value; rows = c.reported.ensures.out_after }
