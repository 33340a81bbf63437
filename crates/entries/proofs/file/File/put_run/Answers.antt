use Rattle.entries.proofs.Rows.{runs-more}
use Rattle.entries.proofs.file.File.put_run.Goals as goal

pub returns : goal.returns
returns c =
    let t = c.run_at-a.ensures in
    record { stated = t; runs_2 = rw c.put.ensures (runs-more _ _ _ _ c.requires.in_row.low c.requires.in_row.wide c.requires.runs _ t.is) }
