use Rattle.marks.proofs.Marking.{clear-zeros}
use Rattle.std.proofs.lemmas.List.{length-replicate}
use native.Mathlib.Omega.{arith}
use Rattle.runs.proofs.judge_marks.Goals as goal

pub laid-k-requires : goal.laid-k-requires
laid-k-requires g c = record { ranged = c.requires.ranged; reach = (record { long = rw (length-replicate _ _) (omega arith) }, clear-zeros _) }
