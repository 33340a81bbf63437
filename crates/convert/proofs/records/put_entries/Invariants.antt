use Prim.Native.Nat.{◌*◌, ◌-◌}
use mathlib.Core.List.{◌++◌}
use mathlib.Core.Path.{◌≡◌}
use lib.ListN.{length}
use Rattle.lent.specs.Write.{write, zeros}
use Rattle.paper.specs.Convert.{carried_at, entries_as}
use Rattle.convert.specs.Form.{form_number}
use Rattle.convert.proofs.records.put_entries.Given as goal

abbrev pub invariant-loop-i : goal.invariant-loop-i
invariant-loop-i l =
    (length l.out ≡ length l.initial.out) × (l.out ≡ write l.initial.out l.z.l (entries_as (form_number l.form) l.z.m (carried_at l.file l.z) l.i ++ zeros ((l.z.u - l.i) * l.z.m)))
