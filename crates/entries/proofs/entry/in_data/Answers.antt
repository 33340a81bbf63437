use native.Mathlib.Omega.{arith}
use mathlib.Core.Path.{sym}
use borrow.Author.Tests.{leb-true, le-leb}
use Rattle.std.specs.Cmp.{both_ways}
use Rattle.lent.proofs.Lists.{not_so}
use Rattle.paper.proofs.Opening.{data-facts, facts-data}
use Rattle.entries.proofs.entry.in_data.Goals as goal

pub returns-then-a-z : goal.returns-then-a-z
returns-then-a-z c = sym (not_so (λ e. let h = data-facts _ _ e in omega arith))

pub returns-then-a : goal.returns-then-a
returns-then-a c = sym (not_so (λ e. let h = data-facts _ _ e in omega arith))

pub returns : goal.returns
returns c = both_ways _ _ (λ e. facts-data _ _ (omega (arith, leb-true _ _ e))) (λ e. le-leb _ _ (let h = data-facts _ _ e in omega arith))
