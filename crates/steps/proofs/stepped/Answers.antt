use Rattle.steps.proofs.Phases.{agreed-boot, refused-step}
use mathlib.Core.Path.{refl, sym, ◌∙◌}
use Rattle.steps.proofs.stepped.Goals as goal

pub returns-then-not-agree : goal.returns-then-not-agree
returns-then-not-agree c = let both = refused-step c.args.file.now c.args.scan.now c.args.j _ _ (sym c.agree.ensures ∙ c.if-not-agree.true) c.refused.ensures refl in record { value = both.0; file_after = both.1 }

pub next-requires : goal.next-requires
next-requires c =
    let e = sym c.agree.ensures ∙ c.if-not-agree.false in
    record { booted = agreed-boot c.args.file.now c.args.scan.now c.args.j e c.sizes_at-z.ensures; j_value = e }
