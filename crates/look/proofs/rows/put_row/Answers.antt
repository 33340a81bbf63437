use Rattle.look.proofs.Putting.{put-none}
use Rattle.look.proofs.Rowing.{row_room, row_put}
use mathlib.Core.Path.{sym, ◌∙◌}
use Rattle.look.proofs.rows.put_row.Goals as goal

pub returns-then-empty : goal.returns-then-empty
returns-then-empty c = rw (sym c.empty.ensures ∙ c.if-empty.true) (put-none _ _)

pub returns : goal.returns
returns c = row_put _ (sym c.empty.ensures ∙ c.if-empty.false) _ _ _ (row_room _ (sym c.empty.ensures ∙ c.if-empty.false) _ _ _ c.requires.a_in_bounds)
