use Rattle.lent.proofs.Lists.{also-unit}
use Rattle.paper.specs.Index.{bad_at}
use mathlib.Core.Path.{sym, ◌∙◌}
use Rattle.entries.proofs.plain.bad_in.Goals as goal

pub returns-then-empty : goal.returns-then-empty
unfolding bad_at
returns-then-empty c = simp (← c.run_in-a.ensures, sym c.empty.ensures ∙ c.if-empty.true)

pub returns : goal.returns
unfolding bad_at
returns c = simp (← c.run_in-a.ensures, sym c.empty.ensures ∙ c.if-empty.false, ← c.in_data.ensures, also-unit)
