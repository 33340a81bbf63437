-- `lent::write::copy`: after i turns the first i bytes are those of the source.
use Rattle.std.proofs.Common.{◌≡◌, ℕ, ◌<◌, length, get_or}
use Rattle.lent.proofs.write.copy.Given as goal

abbrev pub invariant-loop-i : goal.invariant-loop-i
invariant-loop-i l = (length l.dst ≡ length l.initial.dst) × ((k : ℕ) → k < l.i → get_or l.dst k 0 ≡ get_or l.src k 0)
