use Rattle.sdd.proofs.jobs.done.Goals as goal

pub returns : goal.returns
returns c = rw c.accepted.ensures
