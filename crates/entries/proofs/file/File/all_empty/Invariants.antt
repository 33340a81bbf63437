use Prim.Native.Nat.{◌-◌, ◌*◌, ◌≤◌}
use mathlib.Core.Path.{◌≡◌}
use Rattle.entries.specs.Row.{Bare}
use Rattle.entries.proofs.file.File.all_empty.Given as goal

abbrev pub invariant-loop-s : goal.invariant-loop-s
invariant-loop-s g l = (l.sum ≤ (l.s - l.fn.i) * 8589934592) × (l.sum ≡ 0 → Bare l.self.bytes.now l.self.z l.fn.i l.s)
