use native.Mathlib.Omega.{arith}
use mathlib.Core.Path.{sym}
use Rattle.paper.specs.Index.{run_of, row_run}
use Rattle.entries.proofs.Rows.{runs-low, fits-same}
use Rattle.index.proofs.Laying.{shows-row}
use Rattle.index.proofs.lay.lay_old.Goals as goal

pub lay_rest-requires : goal.lay_rest-requires
lay_rest-requires c =
    let g = c.fill in
    let d = c.requires.decoded in
    let m = d.most in
    record { ranged = d.booted.ranged; u_in_bounds = (omega (arith, g.auto.row, d.wide), m, fits-same _ (row_run _) (run_of _ c.args.file.z) _ g.ensures.run _ m c.requires.fits); reach = (c.requires.reach.0, shows-row (run_of _ c.args.file.z) (row_run _) _ (λ t a b. sym (g.ensures.run t a (omega arith))) _ _ c.requires.reach.1) }

pub returns : goal.returns
returns c =
    let z = c.args.file.z in
    let g = c.fill.ensures in
    let l = c.lay_rest.ensures in
    let m = l.upper_bound.0 in
    record { judged_to = record { most = m; runs = runs-low g _ m; fits = fits-same _ (run_of _ z) (row_run _) _ (λ t a b. sym (g.run t a b)) _ m l.upper_bound.1 }; shows = λ h. shows-row (row_run _) (run_of _ z) _ g.run _ _ (l.shows h) }
