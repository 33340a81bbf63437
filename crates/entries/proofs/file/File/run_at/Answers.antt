use Rattle.paper.proofs.Sizing.{home-in}
use Rattle.entries.proofs.Rows.{run-stated, current}
use native.Mathlib.Omega.{arith}
use Rattle.entries.proofs.file.File.run_at.Goals as goal

pub old_run-requires : goal.old_run-requires
old_run-requires c = omega (arith, home-in c.args.self.booted _ c.requires.0 c.requires.1)

pub returns-then-self-eq0 : goal.returns-then-self-eq0
returns-then-self-eq0 c = run-stated _ _ _ _ 0 _ c.home-at.ensures (omega arith) c.old_run.ensures

pub current_run-requires : goal.current_run-requires
current_run-requires c = omega (arith, home-in c.args.self.booted _ c.requires.0 c.requires.1)

pub returns : goal.returns
returns c = run-stated _ _ _ _ 1 _ c.home-at.ensures (current c.args.self.booted (λ e. omega arith)) c.current_run.ensures
