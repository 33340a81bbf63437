use native.Mathlib.Omega.{arith}
use Rattle.lent.proofs.Lists.{no_all, yes-all}
use Rattle.sdd.specs.Face.{flag_tests, flagged}
use borrow.Author.Tests.{leb-true, le-leb}
use Rattle.sdd.proofs.jobs.flagged.Goals as goal

pub returns-then-c-gt1 : goal.returns-then-c-gt1
unfolding flagged
returns-then-c-gt1 c = no_all (flag_tests c.args.c) (λ t. omega (arith, leb-true))

pub returns-then-c-gt1-2 : goal.returns-then-c-gt1-2
unfolding flagged
returns-then-c-gt1-2 c = no_all (flag_tests c.args.c) (λ t. omega (arith, leb-true))

pub returns : goal.returns
unfolding flagged
returns c = let j = c.args.c in yes-all (flag_tests j) (le-leb j.saves 1 (omega arith), (le-leb j.lowers 1 (omega arith), tt))
