use Rattle.steps.proofs.Agreed.{homed, rowed, late, count_small}
use Rattle.steps.proofs.Phases.{agreeing-at, data-step, boot-step, entry-step, late-step}
use native.Mathlib.Omega.{arith}
use Rattle.steps.proofs.write_next.Goals as goal

pub write_data-requires : goal.write_data-requires
write_data-requires c = let a = c.args in rowed a.file.now a.scan.now a.j _ (agreeing-at a.file.now a.scan.now a.j c.requires.j_value c.requires.booted) (omega arith)

pub returns-then-j-k : goal.returns-then-j-k
returns-then-j-k c =
    let a = c.args in
    let both = data-step a.file.now a.scan.now a.j _ _ _ c.requires.j_value c.requires.booted (omega arith) c.write_data.ensures.value c.write_data.ensures.file_after in record { file_after = both.0; file_after_2 = both.1 }

pub boot_next-requires : goal.boot_next-requires
boot_next-requires c = let a = c.args in (c.requires.booted, homed a.file.now a.scan.now a.j _ (agreeing-at a.file.now a.scan.now a.j c.requires.j_value c.requires.booted))

pub returns-then-j-k-2 : goal.returns-then-j-k-2
returns-then-j-k-2 c =
    let a = c.args in
    let both = boot-step a.file.now a.scan.now a.j _ _ _ c.requires.j_value c.requires.booted (omega arith) c.boot_next.ensures.value c.boot_next.ensures.file_after in record { file_after = both.0; file_after_2 = both.1 }

pub overflow_add-k : goal.overflow_add-k
overflow_add-k c = let a = c.args in omega (arith, count_small a.file.now a.scan.now a.j _ (agreeing-at a.file.now a.scan.now a.j c.requires.j_value c.requires.booted))

pub write_entry-requires : goal.write_entry-requires
write_entry-requires c = let a = c.args in homed a.file.now a.scan.now a.j _ (agreeing-at a.file.now a.scan.now a.j c.requires.j_value c.requires.booted)

pub returns-then-j-k-3 : goal.returns-then-j-k-3
returns-then-j-k-3 c =
    let a = c.args in
    let both = entry-step a.file.now a.scan.now a.j _ _ _ c.requires.j_value c.requires.booted (omega arith) c.write_entry.ensures.value c.write_entry.ensures.file_after in record { file_after = both.0; file_after_2 = both.1 }

pub late_next-requires : goal.late_next-requires
late_next-requires c =
    let a = c.args in
    record { booted = c.requires.booted; late = late a.file.now a.scan.now a.j _ (agreeing-at a.file.now a.scan.now a.j c.requires.j_value c.requires.booted) c.requires.left.rows c.requires.left.some }

pub returns : goal.returns
returns c =
    let a = c.args in
    let both = late-step a.file.now a.scan.now a.j _ _ _ c.requires.j_value c.requires.booted c.requires.left.some (omega arith) c.late_next.ensures.value c.late_next.ensures.file_after in record { file_after = both.0; file_after_2 = both.1 }
