-- `scan::preamble::each_greater`: the first k - 1 pairs are in order; a pair that is not ends it.
use Prim.Native.Nat.{ℕ, ◌+◌, ◌-◌, ◌≤◌}
use mathlib.Core.Path.{◌≡◌}
use mathlib.Core.Bool.{Bool, true}
use mathlib.Core.List.{List}
use lib.IntN.{ℤ, pos}
use lib.ListN.{get_or}
use lib.Signed.{lt_z}
use Rattle.lent.specs.Lists.{every}
use Rattle.scan.proofs.preamble.each_greater.Given as goal

abbrev pub order : List ℤ → ℕ → Bool
order starts k = lt_z (get_or starts k (pos 0)) (get_or starts (k + 1) (pos 0))

abbrev pub invariant-loop-k : goal.invariant-loop-k
invariant-loop-k l = (l.k - 1 ≤ l.n - 1) × (every (l.k - 1) (order l.starts) ≡ true)
