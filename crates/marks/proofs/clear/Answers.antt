use Rattle.marks.proofs.Marking.{clear-zeros}
use Rattle.marks.proofs.clear.Goals as goal

pub returns : goal.returns
returns c = rw (c.fill.ensures.after (λ y e. e)) (clear-zeros _)
