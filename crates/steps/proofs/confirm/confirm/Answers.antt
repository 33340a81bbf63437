use Rattle.steps.proofs.Phases.{judged-home}
use Rattle.steps.proofs.Confirming.{hands_on, not-standing, all-standing}
use mathlib.Core.Path.{sym, ◌∙◌}
use Rattle.steps.proofs.confirm.confirm.Goals as goal

pub returns-in_default : goal.returns-in_default
returns-in_default c = let a = c.args in hands_on a.file.now a.scan.now a.j _ c.judge-o.ensures _ _ c.in_default.is c.handed_on.ensures

pub stands-requires : goal.stands-requires
stands-requires c = let a = c.args in judged-home a.file.now a.scan.now a.j c.requires (sym c.judge-o.ensures ∙ c.in-Ok.is)

pub returns-then-not-stands : goal.returns-then-not-stands
returns-then-not-stands c = let a = c.args in not-standing a.file.now a.scan.now a.j _ c.judge-o.ensures _ c.in-Ok.is (sym c.stands.ensures ∙ c.if-not-stands.true)

pub returns : goal.returns
returns c = let a = c.args in all-standing a.file.now a.scan.now a.j _ c.judge-o.ensures _ _ c.in-Ok.is (sym c.stands.ensures ∙ c.if-not-stands.false) c.confirmed.ensures
