use Rattle.paper.specs.Index.{row_run}
use Rattle.entries.proofs.Rows.{fits-none}
use Rattle.index.proofs.Laying.{shows-none}
use mathlib.Core.Path.{refl}
use native.Mathlib.Omega.{arith}
use Rattle.runs.proofs.laid.Goals as goal

pub returns-then-not-take_run : goal.returns-then-not-take_run
returns-then-not-take_run c = (omega arith, fits-none _ _ _ refl)

pub lay_rest-requires : goal.lay_rest-requires
lay_rest-requires c =
    let t = c.take_run in
    record { ranged = c.requires.ranged.0; u_in_bounds = (omega arith, omega arith, fits-none _ _ _ refl); reach = (record { long = omega (arith, t.auto.marks) }, shows-none _ (row_run _) c.requires.reach.1 (t.ensures c.if-not-take_run.false)) }
