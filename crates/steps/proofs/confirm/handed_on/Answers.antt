use Rattle.steps.proofs.confirm.handed_on.Goals as goal

pub returns-in-Err : goal.returns-in-Err
returns-in-Err c = rw c.in-Err.is
