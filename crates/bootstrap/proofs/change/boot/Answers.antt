use Rattle.bootstrap.proofs.Changing.{boot_old, boot-on}
use Rattle.bootstrap.proofs.change.boot.Goals as goal

pub returns-then-old : goal.returns-then-old
returns-then-old c = boot_old _ c.old.ensures c.if-old.true

pub returns : goal.returns
returns c = boot-on _ c.old.ensures c.if-old.false c.boot.ensures
