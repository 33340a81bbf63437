use native.Mathlib.Omega.{arith}
use Rattle.std.specs.Cmp.{both_ways}
use borrow.Author.Tests.{eqb-true, eq-eqb}
use Rattle.paper.proofs.Opening.{empty-facts, facts-empty}
use Rattle.entries.proofs.entry.empty.Goals as goal

pub returns-then-a-eq0 : goal.returns-then-a-eq0
returns-then-a-eq0 c = both_ways _ _ (λ e. facts-empty _ (omega (arith, eqb-true _ _ e))) (λ e. eq-eqb _ _ (omega (arith, empty-facts _ e)))

pub returns-else-a-eq0 : goal.returns-else-a-eq0
returns-else-a-eq0 c = both_ways _ _ (λ e. absurd (omega (arith, eqb-true _ _ e))) (λ e. absurd (omega (arith, empty-facts _ e)))
