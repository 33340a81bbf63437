use mathlib.Core.Path.{refl, ap, ◌∙◌}
use Rattle.writes.specs.Inside.{wrote_one}
use Rattle.steps.proofs.Agreed.{count_small, old_small, total-small}
use Rattle.steps.proofs.Phases.{agreeing-at, past-step}
use native.Mathlib.Omega.{arith}
use Rattle.steps.proofs.next.Goals as goal

pub total-requires : goal.total-requires
total-requires c = let a = c.args in let g = agreeing-at a.file.now a.scan.now a.j c.requires.j_value c.requires.booted in (rw c.records-k.ensures (count_small a.file.now a.scan.now a.j _ g), old_small a.file.now a.scan.now a.j _ g)

pub returns-then-total-j : goal.returns-then-total-j
returns-then-total-j c =
    let a = c.args in
    let both = past-step a.file.now a.scan.now a.j _ _ _ c.requires.j_value c.requires.booted (omega (arith, c.total.ensures, c.records-k.ensures)) _ c.confirm-answer.ensures refl refl in record { value = both.0; file_after = both.1 }

pub write_next-r-requires : goal.write_next-r-requires
write_next-r-requires c = record { booted = c.requires.booted; j_value = c.requires.j_value; left = record { rows = c.records-k.ensures; some = omega (arith, c.total.ensures, c.records-k.ensures) } }

pub wrote-requires : goal.wrote-requires
wrote-requires c = let a = c.args in omega (arith, c.total.ensures, c.records-k.ensures, total-small a.file.now a.scan.now a.j _ (agreeing-at a.file.now a.scan.now a.j c.requires.j_value c.requires.booted))

pub returns : goal.returns
returns c = record { value = c.wrote.ensures ∙ ap (wrote_one c.write_next-r.result c.args.j) c.head-b.ensures ∙ c.write_next-r.ensures.file_after; file_after = c.write_next-r.ensures.file_after_2 }
