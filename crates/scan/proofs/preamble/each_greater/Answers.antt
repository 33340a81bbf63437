-- `scan::preamble::each_greater`: the first k - 1 pairs are in order; a pair that is not ends it.
use Rattle.std.proofs.Common.{◌≡◌, ◌+◌, ◌-◌, ◌<◌, true, sym, arith, rules}
use lib.IntN.{pos}
use lib.ListN.{get_or}
use lib.Signed.{mag}
use Rattle.lent.specs.Lists.{every}
use Rattle.lent.proofs.Lists.{every_more, every-not}
use Rattle.paper.specs.Scan.{rising}
use Rattle.scan.proofs.Naturals.{after-pair, before-pair}
use Rattle.scan.proofs.preamble.each_greater.Invariants.{order}
use Rattle.scan.proofs.preamble.each_greater.Goals as goal

pub loop-k-init : goal.loop-k-init
unfolding every
loop-k-init c = search rules

pub returns-then-starts-k : goal.returns-then-starts-k
unfolding rising
returns-then-starts-k c =
    let st = c.args.starts in
    let k = c.loop-k.k in
    let a : mag (get_or st k (pos 0)) < 32768 = omega arith in
    let b : mag (get_or st (k - 1) (pos 0)) < 32768 = omega arith in
    let q : k - 1 + 1 ≡ k = omega arith in
    sym (every-not (c.args.n - 1) (order st) (k - 1) (omega arith) (rw q (after-pair (get_or st k (pos 0)) (get_or st (k - 1) (pos 0)) a b c.if-starts-k.true)))

pub loop-k-preserved : goal.loop-k-preserved
loop-k-preserved c =
    let st = c.args.starts in
    let k = c.loop-k.k in
    let a : mag (get_or st k (pos 0)) < 32768 = omega arith in
    let b : mag (get_or st (k - 1) (pos 0)) < 32768 = omega arith in
    let q : k - 1 + 1 ≡ k = omega arith in
    let e : every (k - 1 + 1) (order st) ≡ true = every_more (k - 1) (order st) c.loop-k.invariant.1 (rw q (before-pair (get_or st k (pos 0)) (get_or st (k - 1) (pos 0)) a b c.if-starts-k.false)) in
    let r : k - 1 + 1 ≡ k + 1 - 1 = omega arith in
    (omega arith, rw r at e)

pub returns : goal.returns
unfolding rising
returns c =
    let q : c.loop-k.k - 1 ≡ c.args.n - 1 = omega arith in
    sym (rw q at c.loop-k.invariant.1)
