use Rattle.bootstrap.proofs.Changing.{change-old, change-on}
use Rattle.index.proofs.change.judge.Goals as goal

pub returns-then-old : goal.returns-then-old
returns-then-old c = change-old _ c.old.ensures c.if-old.true

pub returns : goal.returns
returns c = change-on _ c.old.ensures c.if-old.false c.judge.ensures
