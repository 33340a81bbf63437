use Rattle.room.specs.Passing.{Missed}
use Rattle.paper.specs.Index.{row_run}
use Prim.Native.Nat.{◌≤◌}
use mathlib.Core.Path.{◌≡◌}
use Rattle.room.proofs.touch.none_meets.Given as goal

abbrev pub invariant-loop-x : goal.invariant-loop-x
invariant-loop-x l = (l.met ≤ l.x) × (l.met ≡ 0 → Missed (row_run l.row) l.x l.i l.e)
