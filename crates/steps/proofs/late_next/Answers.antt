use native.Mathlib.Omega.{arith}
use Rattle.steps.proofs.Phases.{lower_late, zero-late, change-is, zero-lies}
use Rattle.steps.proofs.late_next.Goals as goal

pub returns-then-j-c : goal.returns-then-j-c
returns-then-j-c c =
    let a = c.args in
    let both = lower_late a.file.now a.z a.j _ _ (omega (arith, c.change-c.ensures, c.requires.late.rows)) c.used_next.ensures.value c.used_next.ensures.file_after in record { value = both.0; file_after = both.1 }

pub overflow_add-j : goal.overflow_add-j
overflow_add-j c = let a = c.args in omega (arith, (zero-lies a.file.now a.z a.j _ c.requires.late _ c.change-c.ensures (omega arith)).high)

pub write_zeros-requires : goal.write_zeros-requires
write_zeros-requires c = let a = c.args in zero-lies a.file.now a.z a.j _ c.requires.late _ c.change-c.ensures (omega arith)

pub returns : goal.returns
returns c =
    let a = c.args in
    let both = zero-late a.file.now a.z a.j _ _ _ (change-is a.file.now a.z a.j _ c.requires.late _ c.change-c.ensures (omega arith)) (omega arith) c.write_zeros.ensures.value c.write_zeros.ensures.file_after in record { value = both.0; file_after = both.1 }
