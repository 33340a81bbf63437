use Rattle.lent.specs.Least.{None}
use Rattle.paper.specs.Convert.{other_magic}
use Rattle.convert.proofs.fits.any_other.Given as goal

abbrev pub invariant-loop-i : goal.invariant-loop-i
invariant-loop-i l = None (other_magic l.file.bytes.now l.file.z) l.i
