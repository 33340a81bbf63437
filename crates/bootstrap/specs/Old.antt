-- The test of refusal 2.
use Rattle.std.specs.Prelude.{ℕ, Bool, List, leb, eqb, length}
use Rattle.lent.specs.Lists.{also}
use Rattle.paper.specs.Sizes.{version_of}

-- refusal 1 does not hold, and "word 8 is 0 (old form)"
unfoldable pub is_old : List ℕ → Bool
is_old f = also (leb 512 (length f)) (eqb (version_of f) 0)
