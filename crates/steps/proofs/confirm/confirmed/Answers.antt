use Rattle.steps.proofs.confirm.confirmed.Goals as goal

pub returns-then-j : goal.returns-then-j
returns-then-j c = rw c.if-j.true

pub returns : goal.returns
returns c = rw c.if-j.false
