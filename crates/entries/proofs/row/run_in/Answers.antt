use Rattle.paper.specs.Index.{row_run}
use Rattle.entries.proofs.row.run_in.Goals as goal

pub returns : goal.returns
unfolding row_run
returns c = cc
