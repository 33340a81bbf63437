-- `listing::put::end`: one byte.
use Rattle.listing.proofs.Putting.{put_byte}
use Rattle.listing.proofs.put.end.Goals as goal

pub returns : goal.returns
returns c = put_byte _ _ _ c.requires
