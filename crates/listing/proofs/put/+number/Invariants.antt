-- `listing::put::number`: the number falls with each call.
use Rattle.listing.proofs.put.+number.Given as goal

abbrev pub decreases-number : goal.decreases-number
decreases-number l = l.n
