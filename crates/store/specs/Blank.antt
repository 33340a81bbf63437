-- The test of refusal 16.
use Rattle.std.specs.Prelude.{ℕ, Bool}
use Rattle.lent.specs.Lists.{all}
use Rattle.paper.specs.declared.sizes.Sizes.{Sizes}
use Rattle.paper.specs.Store.{blank_tests}

-- refusal 16 does not hold
unfoldable pub blank_fits : ℕ → Sizes → Bool
blank_fits len z = all (blank_tests len z)
