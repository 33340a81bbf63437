use Rattle.sdd.proofs.jobs.begun.Goals as goal

pub why-requires : goal.why-requires
why-requires c = rw c.in-Err.is at c.requires

pub returns-in-Ok : goal.returns-in-Ok
returns-in-Ok c = rw (c.in-Ok.is, c.accepted.ensures, c.numbers.ensures)

pub returns-in-Err : goal.returns-in-Err
returns-in-Err c = rw (c.in-Err.is, c.why.ensures, c.numbers-in-Err.ensures)
