use Rattle.sdd.proofs.whys.taken.Goals as goal

pub why-requires : goal.why-requires
why-requires c = rw c.in-Err.is at c.requires

pub returns-in-Err : goal.returns-in-Err
returns-in-Err c = rw c.in-Err.is c.why.ensures
