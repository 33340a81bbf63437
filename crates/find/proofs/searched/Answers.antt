use native.Mathlib.Omega.{arith}
use Rattle.find.proofs.Reporting.{report-small, report-done}
use Rattle.find.proofs.searched.Goals as goal

pub returns-then-out-n : goal.returns-then-out-n
returns-then-out-n c = let both = report-small _ _ c.args.file.booted c.count-n.ensures.0 (omega arith) in record { value = both.0; out_after = both.1 }

pub fill-requires : goal.fill-requires
fill-requires c = record { n_bound = c.count-n.ensures; n_in_bounds = omega arith }

pub returns : goal.returns
returns c = let both = report-done _ _ c.args.file.booted c.count-n.ensures.0 (omega arith) c.fill.ensures in record { value = both.0; out_after = both.1 }
