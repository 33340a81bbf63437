use native.Mathlib.Omega.{arith}
use Rattle.steps.proofs.Confirming.{no_old, old-looked}
use Rattle.steps.proofs.confirm.old_gone.Goals as goal

pub returns-then-many-eq0 : goal.returns-then-many-eq0
returns-then-many-eq0 c = let a = c.args in no_old a.file.now a.j a.z c.if-many-eq0.true

pub overflow_sub-from : goal.overflow_sub-from
overflow_sub-from c = let p = c.requires in omega (arith, p.low (omega arith))

pub overflow_mul-from : goal.overflow_mul-from
overflow_mul-from c = let p = c.requires in omega (arith, p.from (omega arith))

pub overflow_mul-many : goal.overflow_mul-many
overflow_mul-many c = let p = c.requires in omega (arith, p.size (omega arith))

pub overflow_add-from : goal.overflow_add-from
overflow_add-from c = let p = c.requires in omega (arith, p.from (omega arith), p.size (omega arith))

pub returns : goal.returns
returns c = let a = c.args in old-looked a.file.now a.j a.z (c.requires.within (omega arith)) _ _ c.part-p.ensures.bytes c.all_zero.ensures
