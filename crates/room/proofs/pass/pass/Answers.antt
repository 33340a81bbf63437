use Rattle.room.proofs.Freeing.{passed-marks}
use Rattle.paper.specs.Index.{row_run}
use Rattle.room.proofs.pass.pass.Goals as goal

pub returns-then-taken : goal.returns-then-taken
returns-then-taken c = passed-marks (row_run _) _ _ _ c.requires.sought.ranged c.requires.sought.inside c.requires.hints (search (c.taken.ensures, c.if-taken.true)) _ c.pass_marks.ensures
