use mathlib.Core.Path.{refl}
use native.Mathlib.Omega.{arith}
use mathlib.Core.Path.{sym, ◌∙◌}
use Rattle.writes.proofs.Counts.{spanned}
use Rattle.steps.proofs.Confirming.{entry-differs, records-compared, nothing-compared}
use Rattle.steps.proofs.confirm.given_stands.Goals as goal

pub returns-then-not-entry_stands : goal.returns-then-not-entry_stands
returns-then-not-entry_stands c = let a = c.args in entry-differs a.file.now a.scan.now a.j a.z (sym c.entry_stands.ensures ∙ c.if-not-entry_stands.true)

pub overflow_sub-from : goal.overflow_sub-from
overflow_sub-from c = omega (arith, spanned c.args.z c.args.j refl c.requires.held.slot.shape (c.requires.held.placed c.if-j.true))

pub overflow_mul-from : goal.overflow_mul-from
overflow_mul-from c = omega (arith, spanned c.args.z c.args.j refl c.requires.held.slot.shape (c.requires.held.placed c.if-j.true))

pub overflow_mul-n : goal.overflow_mul-n
overflow_mul-n c = omega (arith, spanned c.args.z c.args.j c.records.ensures c.requires.held.slot.shape (c.requires.held.placed c.if-j.true))

pub overflow_add-from : goal.overflow_add-from
overflow_add-from c = omega (arith, spanned c.args.z c.args.j c.records.ensures c.requires.held.slot.shape (c.requires.held.placed c.if-j.true))

pub returns-then-j : goal.returns-then-j
returns-then-j c =
    let a = c.args in
    records-compared a.file.now a.scan.now a.j a.z (sym c.entry_stands.ensures ∙ c.if-not-entry_stands.false) c.if-j.true
    _ _ _ c.records.ensures c.part-p.ensures.bytes c.same_padded.ensures

pub returns : goal.returns
returns c = let a = c.args in nothing-compared a.file.now a.scan.now a.j a.z (sym c.entry_stands.ensures ∙ c.if-not-entry_stands.false) c.if-j.false
