use Rattle.entries.proofs.Rows.{fits-row}
use native.Mathlib.Omega.{arith}
use Rattle.entries.proofs.file.File.judge_plain.Goals as goal

pub judge_with-requires : goal.judge_with-requires
judge_with-requires c = record { ranged = c.args.self.booted.ranged; u_in_bounds = c.requires.u_in_bounds; fits = fits-row _ _ _ c.requires.runs.run _ (omega arith) c.requires.fits; may = c.args.self.booted }

pub returns : goal.returns
returns c = c.judge_with.ensures.is _ c.requires.runs.run (λ a p. p)
