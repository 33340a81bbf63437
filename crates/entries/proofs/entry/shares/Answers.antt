use native.Mathlib.Omega.{arith}
use mathlib.Core.Path.{sym}
use Rattle.std.specs.Cmp.{both_ways}
use borrow.Author.Tests.{leb-true, le-leb}
use Rattle.lent.proofs.Lists.{not_so}
use Rattle.paper.proofs.Opening.{share-facts, facts-share}
use Rattle.entries.proofs.entry.shares.Goals as goal

pub returns-then-a-eq0 : goal.returns-then-a-eq0
returns-then-a-eq0 c = sym (not_so (λ e. let h = share-facts _ _ e in omega arith))

pub returns-then-b-eq0 : goal.returns-then-b-eq0
returns-then-b-eq0 c = sym (not_so (λ e. let h = share-facts _ _ e in omega arith))

pub returns-then-a-b : goal.returns-then-a-b
returns-then-a-b c = both_ways _ _ (λ e. facts-share _ _ (omega (arith, leb-true _ _ e))) (λ e. le-leb _ _ (let h = share-facts _ _ e in omega arith))

pub returns-else-a-b : goal.returns-else-a-b
returns-else-a-b c = both_ways _ _ (λ e. absurd (omega (arith, leb-true _ _ e))) (λ e. absurd (let h = share-facts _ _ e in omega arith))
