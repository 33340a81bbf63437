-- `listing::put::three`: a field and then two more, each with its room.
use Rattle.listing.proofs.Putting.{put-more}
use Rattle.listing.proofs.put.three.Goals as goal

pub returns : goal.returns
returns c = put-more c.field-k.ensures c.requires c.two.ensures
