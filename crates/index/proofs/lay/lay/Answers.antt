use native.Mathlib.Omega.{arith}
use Rattle.paper.specs.Index.{run_of, row_run}
use Rattle.entries.proofs.Rows.{fits-same}
use Rattle.index.proofs.Laying.{shows-none, shows-row}
use Rattle.index.proofs.lay.lay.Goals as goal

pub lay_row-i-requires : goal.lay_row-i-requires
lay_row-i-requires c = record { ranged = c.requires.decoded.booted.ranged; j_in_bounds = (omega arith, omega arith, fits-same _ (row_run _) (run_of _ c.args.file.z) _ c.requires.decoded.runs.run _ (omega arith) c.requires.j_lt_u.1); reach = (record { long = omega (arith, c.take_run.auto.marks) }, shows-none _ (row_run _) c.requires.reach.1 (c.take_run.ensures c.if-not-take_run.false)) }

pub lay_more-requires : goal.lay_more-requires
lay_more-requires c = record { decoded = c.requires.decoded; fits = c.requires.j_lt_u.1; reach = (record { long = omega (arith, c.lay_row-i.auto.marks, c.take_run.auto.marks) }, shows-row (row_run _) (run_of _ c.args.file.z) _ c.requires.decoded.runs.run _ _ (c.lay_row-i.ensures.1 (omega arith))) }
