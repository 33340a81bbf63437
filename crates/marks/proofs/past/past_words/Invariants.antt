use Prim.Native.Nat.{◌*◌, ◌≤◌, max}
use Rattle.marks.specs.Marks.{Full}
use Rattle.marks.proofs.past.past_words.Given as goal

abbrev pub invariant-loop-w : goal.invariant-loop-w
invariant-loop-w l = Full l.marks (64 * l.from) (64 * l.w) × (l.w ≤ max l.from l.n)
