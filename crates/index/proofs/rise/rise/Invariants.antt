use Rattle.entries.specs.Row.{Runs}
use Rattle.paper.specs.Index.{run_of}
use Rattle.index.specs.Judging.{Climbs}
use Prim.Native.Nat.{◌≤◌, ◌-◌}
use Rattle.index.proofs.rise.rise.Given as goal

abbrev pub invariant-loop-i : goal.invariant-loop-i
invariant-loop-i l = (l.i ≤ l.u) × Runs l.file.bytes.now l.file.z l.row l.i × Climbs l.initial.top (run_of l.file.bytes.now l.file.z) l.i l.top

abbrev pub decreases-loop-i : goal.decreases-loop-i
decreases-loop-i l = l.u - l.i
