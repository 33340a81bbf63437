-- `scan::preamble::starts`: after k turns the first k starts stand in the array.
-- start k + 1
use Prim.Native.Nat.{ℕ, ◌+◌, ◌*◌}
use mathlib.Core.Path.{◌≡◌}
use mathlib.Core.List.{List}
use lib.IntN.{ℤ}
use lib.ListN.{length, take}
use Rattle.lent.specs.Lists.{table}
use Rattle.lent.specs.Number.{be16, int16}
use Rattle.scan.proofs.preamble.starts.Given as goal

abbrev pub start : List ℕ → ℕ → ℤ
start s k = int16 (be16 s (2 + 2 * k))

abbrev pub invariant-loop-k : goal.invariant-loop-k
invariant-loop-k l = (length l.a ≡ 15) × (take l.k l.a ≡ table l.k (start l.s))
