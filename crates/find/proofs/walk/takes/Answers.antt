use mathlib.Core.Path.{sym, ◌∙◌}
use native.Mathlib.Omega.{arith}
use Rattle.find.proofs.Walking.{record-in, takes-classes}
use Rattle.find.proofs.walk.takes.Goals as goal

pub load16-n-requires : goal.load16-n-requires
load16-n-requires c = let p = c.requires in omega (arith, record-in c.args.file.booted _ p.0 p.1, c.args.file.booted.held, c.args.file.booted.ranged.shape.l_low)

pub returns-then-not-count_kept : goal.returns-then-not-count_kept
returns-then-not-count_kept c = let p = c.requires in takes-classes c.args.file.booted _ p.0 p.1 c.load16-n.ensures (sym c.count_kept.ensures ∙ c.if-not-count_kept.true)
