use Rattle.lent.proofs.Checks.{passed-on}
use Rattle.look.proofs.Fielding.{found-held, found-refused}
use Rattle.look.proofs.Slots.{held, entry-slotted, entry_in, entry-small}
use mathlib.Core.Path.{sym, ◌∙◌}
use Rattle.look.proofs.fields.found.Goals as goal

pub home-requires : goal.home-requires
home-requires c = entry-slotted _ _ (held _ _ (sym c.find.ensures ∙ c.in_ok-z.was))

pub fields-requires : goal.fields-requires
fields-requires c = let h = held _ _ (sym c.find.ensures ∙ c.in_ok-z.was) in rw c.home.ensures (entry_in _ _ h, entry-small _ _ h)

pub returns : goal.returns
returns c = found-held _ _ (sym c.find.ensures ∙ c.in_ok-z.was) c.home.ensures c.fields.ensures

pub returns-in_err-z : goal.returns-in_err-z
returns-in_err-z c = passed-on _ c.from_residual.ensures.1 ∙ found-refused _ _ (sym c.find.ensures ∙ c.in_err-z.was)
