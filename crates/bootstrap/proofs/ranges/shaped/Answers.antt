use native.Mathlib.Omega.{arith}
use borrow.Author.Tests.{leb-true, le-leb}
use Rattle.std.specs.Cmp.{both_ways}
use Rattle.paper.proofs.Opening.{facts-shaped, shaped-facts}
use Rattle.bootstrap.proofs.Booting.{not-shaped, within, outside}
use Rattle.bootstrap.proofs.ranges.shaped.Goals as goal

pub returns-then-not-contains : goal.returns-then-not-contains
returns-then-not-contains c = let n = c.new.ensures in not-shaped _ (λ r. outside _ _ _ _ n.start n.end n.exhausted c.contains.ensures.value c.if-not-contains.true (omega arith, omega arith))

pub returns-then-not-contains-2 : goal.returns-then-not-contains-2
returns-then-not-contains-2 c = let n = c.new-2.ensures in not-shaped _ (λ r. outside _ _ _ _ n.start n.end n.exhausted c.contains-2.ensures.value c.if-not-contains-2.true (omega arith, omega arith))

pub returns-then-not-contains-3 : goal.returns-then-not-contains-3
returns-then-not-contains-3 c = let n = c.new-3.ensures in not-shaped _ (λ r. outside _ _ _ _ n.start n.end n.exhausted c.contains-3.ensures.value c.if-not-contains-3.true (omega arith, omega arith))

pub returns-then-z-ne0 : goal.returns-then-z-ne0
returns-then-z-ne0 c = not-shaped _ (λ r. omega arith)

pub returns : goal.returns
returns c =
    let n = within c.new.ensures.start c.new.ensures.end c.if-not-contains.ensures.cases in
    let l = within c.new-2.ensures.start c.new-2.ensures.end c.if-not-contains-2.ensures.cases in
    let m = within c.new-3.ensures.start c.new-3.ensures.end c.if-not-contains-3.ensures.cases in
    both_ways _ _ (λ e. facts-shaped _ (omega (arith, n.0, n.1, l.0, l.1, m.0, m.1, leb-true _ _ e))) (λ e. le-leb _ _ (let h = shaped-facts _ e in omega arith))
