-- `scan::preamble::starts`: after k turns the first k starts stand in the array.
use mathlib.Core.Path.{◌≡◌, ◌∙◌}
use native.Mathlib.Omega.{arith}
use lib.ListN.{length-set}
use borrow.Author.Rules.{rules}
use Rattle.lent.specs.Lists.{table}
use Rattle.lent.proofs.Lists.{fill_more, filled}
use Rattle.paper.specs.Scan.{starts_of}
use Rattle.scan.proofs.Naturals.{same16}
use Rattle.scan.proofs.preamble.starts.Invariants.{start}
use Rattle.scan.proofs.preamble.starts.Goals as goal

pub loop-k-init : goal.loop-k-init
unfolding table
loop-k-init c = search rules

pub loop-k-preserved : goal.loop-k-preserved
loop-k-preserved c =
    let at = c.loop-k in
    let s = c.args.s.now in
    let e = same16 c.load_int16.result c.load_int16.type_inv ∙ c.load_int16.ensures in
    (simp length-set at.invariant.0, fill_more at.a at.k _ (start s) (omega arith) e at.invariant.1)

pub returns : goal.returns
unfolding starts_of
returns c =
    let at = c.loop-k in
    let e : at.k ≡ 15 = omega arith in
    filled at.a 15 (start c.args.s.now) (omega arith) (rw e at at.invariant.1)
