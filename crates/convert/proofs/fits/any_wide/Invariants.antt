use Rattle.lent.specs.Least.{None}
use Rattle.paper.specs.Index.{run_of}
use Rattle.paper.specs.Convert.{wide_run}
use Rattle.convert.proofs.fits.any_wide.Given as goal

abbrev pub invariant-loop-i : goal.invariant-loop-i
invariant-loop-i l = None (wide_run (run_of l.file.bytes.now l.file.z)) l.i
