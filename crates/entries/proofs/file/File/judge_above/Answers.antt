use Rattle.entries.proofs.Judging.{judge-above, judge-opens}
use Rattle.lent.proofs.Founds.{found-end}
use mathlib.Core.Path.{refl}
use native.Mathlib.Omega.{arith}
use Rattle.entries.proofs.file.File.judge_above.Goals as goal

pub returns-in-Some : goal.returns-in-Some
returns-in-Some c = judge-above _ _ (found-end c.requires.bad (omega arith)) refl c.lowest_above.ensures _ c.in-Some.is

pub returns : goal.returns
returns c = judge-opens _ _ (found-end c.requires.bad (omega arith)) refl c.lowest_above.ensures c.in_default.is (found-end c.requires.shared (omega arith)) refl
