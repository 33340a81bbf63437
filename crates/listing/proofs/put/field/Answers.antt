-- `listing::put::field`: the word and then the number, each with its room.
use Rattle.listing.proofs.Putting.{wrote, put-more}
use Rattle.listing.proofs.put.field.Goals as goal

pub returns : goal.returns
returns c = put-more (wrote _ _ _ c.copy_to.ensures) c.requires c.number.ensures
