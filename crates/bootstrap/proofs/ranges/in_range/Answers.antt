use Rattle.bootstrap.proofs.Booting.{not-ranged, shape-kept, shape-broken}
use native.Mathlib.Omega.{arith}
use Rattle.paper.proofs.Opening.{facts-range, range-facts}
use Rattle.std.specs.Cmp.{both_ways}
use borrow.Author.Tests.{leb-true, le-leb}
use Rattle.std.proofs.Common.{ap, not}
use Rattle.bootstrap.proofs.ranges.in_range.Goals as goal

pub returns-then-not-shaped : goal.returns-then-not-shaped
returns-then-not-shaped c = shape-broken _ c.shaped.ensures (ap not c.if-not-shaped.true)

pub overflow_sub-z : goal.overflow_sub-z
overflow_sub-z c = let h = shape-kept _ c.shaped.ensures (ap not c.if-not-shaped.false) in omega arith

pub returns-then-z : goal.returns-then-z
returns-then-z c = not-ranged _ (λ r. omega arith)

pub capacity-requires : goal.capacity-requires
capacity-requires c = shape-kept _ c.shaped.ensures (ap not c.if-not-shaped.false)

pub returns-then-capacity-z : goal.returns-then-capacity-z
returns-then-capacity-z c = not-ranged _ (λ r. omega arith)

pub returns : goal.returns
returns c =
    let h = shape-kept _ c.shaped.ensures (ap not c.if-not-shaped.false) in
    both_ways _ _ (λ e. facts-range _ (record { shape = h; records = omega arith; used = omega arith; known = omega (arith, leb-true _ _ e) })) (λ e. le-leb _ _ (range-facts _ e).known)
