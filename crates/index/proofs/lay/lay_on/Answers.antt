use Rattle.paper.specs.Index.{run_of}
use Rattle.index.proofs.Laying.{fits_more, fits-bare, shows_more, shows-bare}
use Rattle.index.proofs.lay.lay_on.Goals as goal

pub loop-i-preserved : goal.loop-i-preserved
loop-i-preserved c =
    let run = run_of _ c.args.file.z in
    let e = c.put_current-a.ensures.stated.is in
    let h = c.lodge_to.ensures c.if-not-lodge_to.false in
    let k = c.skip-i.ensures in
    let i = c.loop-i.invariant in
    (k.most, k.runs, fits-bare k.bare (fits_more run _ e h.2 h.0 h.1 i.3 i.2), shows-bare k.bare (shows_more run _ e h.2 i.3))
