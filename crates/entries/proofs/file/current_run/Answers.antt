use Rattle.entries.proofs.Rows.{current-word}
use native.Mathlib.Omega.{arith}
use Rattle.entries.proofs.file.current_run.Goals as goal

pub returns : goal.returns
returns c =
    record {
      first = current-word _ _ 0 _ _ _ c.wide.ensures (omega arith) c.load32-first.ensures;
      last = current-word _ _ 1 _ _ _ c.wide-2.ensures (omega arith) c.load32-last.ensures;
    }
