-- `listing::line`: an empty slot puts nothing, any other its three numbers.
use Rattle.look.proofs.Putting.{put-none}
use mathlib.Core.Path.{sym, ◌∙◌}
use Rattle.listing.proofs.line.Goals as goal

pub returns-then-empty : goal.returns-then-empty
returns-then-empty c = rw (sym c.empty.ensures ∙ c.if-empty.true) (put-none _ _)
