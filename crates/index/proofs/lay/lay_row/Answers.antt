use native.Mathlib.Omega.{arith}
use Rattle.paper.specs.Index.{row_run}
use Rattle.index.proofs.Laying.{fits_read, shows_more}
use Rattle.index.proofs.lay.lay_row.Goals as goal

pub lodge-requires : goal.lodge-requires
lodge-requires c = let h = fits_read (row_run _) _ c.run_in-a.ensures c.requires.j_in_bounds.2 (omega arith) in (h.0, omega arith, omega (arith, h.1))

pub loop-i-preserved : goal.loop-i-preserved
loop-i-preserved c = shows_more (row_run _) _ c.run_in-a.ensures (c.lodge.ensures c.if-not-lodge.false) c.loop-i.invariant
