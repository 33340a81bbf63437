-- `scan_run::read_full`: what came lies within the memory, and each turn leaves less of it.
use Rattle.std.proofs.Common.{length, ◌-◌, ◌≤◌}
use Rattle.scan_run.proofs.read_full.Given as goal

abbrev pub invariant-loop-n : goal.invariant-loop-n
invariant-loop-n g l = l.n ≤ length l.initial.room

abbrev pub decreases-loop-n : goal.decreases-loop-n
decreases-loop-n g l = length l.initial.room - l.n
