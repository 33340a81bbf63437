use Rattle.sdd.proofs.looks.found.Goals as goal

pub why-requires : goal.why-requires
why-requires c = rw c.in-Err.is at c.requires

pub returns-in-Ok : goal.returns-in-Ok
returns-in-Ok c = rw (c.in-Ok.is, c.entry.ensures, c.accepted.ensures)

pub returns-in-Err : goal.returns-in-Err
returns-in-Err c = rw (c.in-Err.is, c.entry-in-Err.ensures, c.why.ensures)
