use Rattle.sdd.proofs.looks.opened.Goals as goal

pub capacity-requires : goal.capacity-requires
capacity-requires c = rw c.in-Ok.is at c.requires

pub room-requires : goal.room-requires
room-requires c = rw c.in-Ok.is at c.requires

pub why-requires : goal.why-requires
why-requires c = rw c.in-Err.is at c.requires

pub returns-in-Ok : goal.returns-in-Ok
returns-in-Ok c = rw (c.in-Ok.is, c.accepted.ensures, c.capacity.ensures, c.room.ensures)

pub returns-in-Err : goal.returns-in-Err
returns-in-Err c = rw (c.in-Err.is, c.why.ensures)
