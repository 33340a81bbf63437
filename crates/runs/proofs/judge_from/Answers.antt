use mathlib.Core.Path.{refl}
use Rattle.runs.proofs.judge_from.Goals as goal

pub returns : goal.returns
returns c = c.judge_with.ensures.is _ (λ s a b. refl) (λ a p. p)
