-- `listing::shell::some`: what came lies within the room, and was taken from what was left.
use Rattle.listing.proofs.Reading.{told-within, told-took}
use Rattle.listing.proofs.shell.some.Goals as goal

pub returns-clause-within : goal.returns-clause-within
returns-clause-within g c = told-within _ _ c.told.ensures

pub returns-clause-bytes : goal.returns-clause-bytes
returns-clause-bytes g c = told-took _ _ _ _ c.told.ensures c.read-got.ensures.bound c.read-got.ensures.bytes
