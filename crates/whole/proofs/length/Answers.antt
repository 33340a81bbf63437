-- `whole::length`: a length is a whole number, by definition.
use Rattle.whole.specs.Length.{length_of}
use Rattle.whole.proofs.length.Goals as goal

pub returns : goal.returns
unfolding length_of
returns c = c.whole_up_to.ensures
