use Rattle.paper.specs.Index.{row_run}
use Rattle.index.proofs.Laying.{fits_more, shows_more}
use Rattle.index.proofs.lay.lay_rest.Goals as goal

pub loop-i-preserved : goal.loop-i-preserved
loop-i-preserved c =
    let e = c.run_in-a.ensures in
    let h = c.lodge_to.ensures c.if-not-lodge_to.false in
    (fits_more (row_run _) _ e h.2 h.0 h.1 c.loop-i.invariant.1 c.loop-i.invariant.0, shows_more (row_run _) _ e h.2 c.loop-i.invariant.1)
