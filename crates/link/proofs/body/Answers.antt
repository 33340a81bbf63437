use Rattle.link.proofs.Pieces.{body-none, body-some}
use native.Mathlib.Omega.{arith}
use Rattle.link.proofs.body.Goals as goal

pub returns-then-ends-came-clause-row_after : goal.returns-then-ends-came-clause-row_after
returns-then-ends-came-clause-row_after c = body-none _ _ _ _ _ c.requires (omega arith)

pub returns : goal.returns
returns c = let both = body-some _ _ _ _ _ _ _ c.shape_at-z.ensures c.min-n.ensures _ c.part.ensures.bytes _ c.lay.ensures in record { value = both.0; row_after = both.1 }
