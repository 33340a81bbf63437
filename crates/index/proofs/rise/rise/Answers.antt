use Rattle.entries.proofs.Rows.{runs-low}
use Rattle.paper.specs.Index.{run_of}
use Rattle.index.proofs.Rising.{climbs-more, climbs-bare, climbs-judged}
use native.Mathlib.Omega.{arith}
use Rattle.index.proofs.rise.rise.Goals as goal

pub returns-then-not-still : goal.returns-then-not-still
returns-then-not-still c = climbs-judged c.loop-i.invariant.0 (runs-low c.put_run-a.ensures.runs_2 _ (omega arith)) c.loop-i.invariant.2 c.within.ensures

pub loop-i-preserved : goal.loop-i-preserved
loop-i-preserved c =
    let z = c.args.file.z in
    let e = c.skip-i.ensures in
    let s = c.still.ensures c.if-not-still.false in
    (e.most, e.runs, climbs-bare _ z _ _ _ _ (climbs-more _ (run_of _ z) _ _ c.loop-i.invariant.2 _ c.put_run-a.ensures.stated.is s _ c.higher-top.ensures.0 c.higher-top.ensures.1) e.bare)

pub returns : goal.returns
returns c = climbs-judged c.loop-i.invariant.0 c.loop-i.invariant.1 c.loop-i.invariant.2 c.within-2.ensures
