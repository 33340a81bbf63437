use Prim.Native.Nat.{◌+◌, ◌-◌}
use mathlib.Core.Path.{◌≡◌}
use native.Mathlib.Omega.{arith}
use Rattle.entries.proofs.Judging.{bare-more}
use Rattle.used.proofs.Downward.{one_down, here, nowhere}
use Rattle.used.proofs.highest_to.Goals as goal

pub past_empty-from-requires : goal.past_empty-from-requires
past_empty-from-requires c = (c.requires.bare.low, c.requires.s_bound)

pub loop-t-init : goal.loop-t-init
loop-t-init c = let e : c.past_empty-from.result + 1 - 1 ≡ c.past_empty-from.result = omega arith in rw e (bare-more _ _ _ _ _ c.past_empty-from.ensures c.requires.bare)

pub returns-then-not-empty : goal.returns-then-not-empty
returns-then-not-empty c = let b = c.loop-t.invariant in here _ _ (omega arith) b.low b c.run_at-a.ensures c.empty.ensures c.if-not-empty.true

pub loop-t-preserved : goal.loop-t-preserved
loop-t-preserved c = one_down _ _ (omega arith) c.loop-t.invariant c.run_at-a.ensures c.empty.ensures c.if-not-empty.false

pub returns : goal.returns
returns c = nowhere (omega arith) c.loop-t.invariant
