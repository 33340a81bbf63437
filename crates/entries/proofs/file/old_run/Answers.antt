use Rattle.entries.proofs.Rows.{old-word, not_negative}
use mathlib.Core.Path.{refl}
use native.Mathlib.Omega.{arith}
use Rattle.entries.proofs.file.old_run.Goals as goal

pub returns-then-b-a : goal.returns-then-b-a
returns-then-b-a c =
    record {
      first = old-word _ _ 0 _ _ _ c.spread.ensures.0 _ (omega arith) c.load16-a.ensures refl;
      last = old-word _ _ 1 _ _ _ c.spread.ensures.1 _ (omega arith) c.load16-b.ensures refl;
    }

pub returns-then-b-gt32766 : goal.returns-then-b-gt32766
returns-then-b-gt32766 c =
    record {
      first = old-word _ _ 0 _ _ _ c.spread-then-b-gt32766.ensures.0 _ (omega arith) c.load16-a.ensures refl;
      last = old-word _ _ 1 _ _ _ c.spread-then-b-gt32766.ensures.1 _ (omega arith) c.load16-b.ensures refl;
    }

pub returns-else-b-gt32766 : goal.returns-else-b-gt32766
returns-else-b-gt32766 c =
    record {
      first = old-word _ _ 0 _ _ _ (not_negative _ (omega arith)) _ (omega arith) c.load16-a.ensures refl;
      last = old-word _ _ 1 _ _ _ (not_negative _ (omega arith)) _ (omega arith) c.load16-b.ensures refl;
    }
