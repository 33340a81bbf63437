use Rattle.entries.proofs.Rows.{runs-low}
use native.Mathlib.Omega.{arith}
use Rattle.entries.proofs.file.File.fill.Goals as goal

pub put_run-requires : goal.put_run-requires
put_run-requires c = record { slot = (omega arith, omega arith); in_row = record { low = omega arith; high = omega arith; wide = omega arith }; runs = runs-low c.loop-i.invariant _ (omega arith) }

pub returns : goal.returns
returns c = runs-low c.loop-i.invariant _ (omega arith)
