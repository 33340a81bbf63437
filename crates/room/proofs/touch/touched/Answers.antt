use Rattle.room.proofs.Freeing.{missed-all}
use native.Mathlib.Omega.{arith}
use Rattle.room.proofs.touch.touched.Goals as goal

pub returns-then-none_meets : goal.returns-then-none_meets
returns-then-none_meets c = missed-all _ _ _ _ _ (omega arith) (c.none_meets.ensures c.if-none_meets.true)

pub returns : goal.returns
returns c = rw (← c.span-a.ensures) c.sharer.ensures
