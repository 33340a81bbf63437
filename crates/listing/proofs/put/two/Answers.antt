-- `listing::put::two`: a field and then one more, each with its room.
use Rattle.listing.proofs.Putting.{put-more}
use Rattle.listing.proofs.put.two.Goals as goal

pub returns : goal.returns
returns c = put-more c.field-k.ensures c.requires c.one.ensures
