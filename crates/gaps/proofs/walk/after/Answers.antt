use Rattle.gaps.proofs.Left.{later-marked}
use Rattle.gaps.proofs.walk.after.Goals as goal

pub returns-then-taken : goal.returns-then-taken
returns-then-taken c = let p = c.requires in later-marked _ _ p.decoded.1 _ _ p.n_lt_r.0 (c.taken.ensures c.if-taken.true) c.past_ones.ensures
