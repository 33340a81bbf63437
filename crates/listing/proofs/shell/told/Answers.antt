-- `listing::shell::told`: an error is a failure, any other answer a count.
use Rattle.std.proofs.Common.{refl, ap, Some}
use Rattle.listing.specs.Input.{input_of}
use Rattle.listing.proofs.shell.told.Goals as goal

pub returns-in_default : goal.returns-in_default
unfolding input_of
returns-in_default c = rw c.in_default.is refl

pub returns : goal.returns
unfolding input_of
returns c = rw c.in-Ok.is (ap Some c.min.ensures)
