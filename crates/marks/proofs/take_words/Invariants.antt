use Rattle.marks.specs.Marks.{Took}
use lib.ListN.{length}
use mathlib.Core.Path.{◌≡◌}
use Prim.Native.Nat.{◌+◌, ◌*◌, ◌≤◌, ◌<◌}
use Rattle.marks.proofs.take_words.Given as goal

abbrev pub invariant-loop-i : goal.invariant-loop-i
invariant-loop-i l = (l.x < 64) × (l.a ≤ 64 * l.i + l.x) × (64 * l.i + l.x ≤ l.b) × (length l.marks ≡ length l.initial.marks) × Took l.initial.marks l.marks l.a (64 * l.i + l.x)
