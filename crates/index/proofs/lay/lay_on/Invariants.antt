use Prim.Native.Nat.{◌≤◌, ◌-◌}
use Rattle.paper.specs.Index.{run_of}
use Rattle.entries.specs.Row.{Runs, Fits}
use Rattle.index.specs.Judging.{Shows}
use Rattle.index.proofs.lay.lay_on.Given as goal

abbrev pub invariant-loop-i : goal.invariant-loop-i
invariant-loop-i l = (l.i ≤ l.u) × Runs l.file.bytes.now l.file.z l.row l.i × Fits l.file.z (run_of l.file.bytes.now l.file.z) l.i × Shows l.marks l.file.z.n (run_of l.file.bytes.now l.file.z) l.i

abbrev pub decreases-loop-i : goal.decreases-loop-i
decreases-loop-i l = l.u - l.i
