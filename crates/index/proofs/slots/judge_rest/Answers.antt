use Rattle.index.proofs.Answers.{looked-doubt}
use Rattle.index.proofs.slots.judge_rest.Goals as goal

pub returns-then-k-z : goal.returns-then-k-z
returns-then-k-z c = looked-doubt _ _ _ c.lay-k.new.marks _ c.judge_plain.ensures c.fill.ensures
