use Rattle.paper.specs.Index.{row_run}
use Rattle.index.specs.Judging.{Climbs}
use Rattle.runs.proofs.rising.Given as goal

abbrev pub invariant-loop-i : goal.invariant-loop-i
invariant-loop-i l = Climbs l.initial.top (row_run l.row) l.i l.top
