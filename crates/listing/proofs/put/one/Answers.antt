-- `listing::put::one`: a field and then a newline, each with its room.
use Rattle.listing.proofs.Putting.{put-more}
use Rattle.listing.proofs.put.one.Goals as goal

pub returns : goal.returns
returns c = put-more c.field-k.ensures c.requires c.end.ensures
