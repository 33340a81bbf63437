use Rattle.paper.proofs.Sizing.{home-in}
use Rattle.entries.proofs.Rows.{run-stated, current, filled-old, filled-current}
use native.Mathlib.Omega.{arith}
use Rattle.entries.proofs.file.File.filled_at.Goals as goal

pub load32-requires : goal.load32-requires
load32-requires c = omega (arith, home-in c.args.self.booted _ c.requires.0 c.requires.1)

pub returns-then-self-eq0 : goal.returns-then-self-eq0
returns-then-self-eq0 c = filled-old _ _ _ _ _ _ c.home-at.ensures (omega arith) c.load32.ensures c.wide.ensures

pub current_run-a-requires : goal.current_run-a-requires
current_run-a-requires c = omega (arith, home-in c.args.self.booted _ c.requires.0 c.requires.1)

pub overflow_add-result : goal.overflow_add-result
overflow_add-result c = let r = c.current_run-a.ensures in omega (arith, r.first.small, r.last.small)

pub returns : goal.returns
returns c = filled-current _ _ _ _ (run-stated _ _ _ _ 1 _ c.home-at.ensures (current c.args.self.booted (λ e. omega arith)) c.current_run-a.ensures)
