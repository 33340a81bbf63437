use Rattle.link.proofs.Pieces.{took-body}
use mathlib.Core.Path.{sym, ◌∙◌}
use native.Mathlib.Omega.{arith}
use Rattle.link.proofs.took.Goals as goal

pub returns : goal.returns
returns c =
    let b = c.body.ensures in
    let both = took-body _ _ _ _ _ (sym c.head_len-h.ensures ∙ (omega arith)) b.value b.row_after in record { value = both.0; row_after = both.1 }
