use Rattle.link.proofs.Pieces.{took-rest}
use Rattle.link.proofs.opening.Goals as goal

pub returns : goal.returns
returns c =
    let b = c.body.ensures in
    let both = took-rest _ _ _ _ _ _ _ _ c.requires.1 c.headed-d.ensures c.part.ensures.bytes b.value b.row_after in record { value = both.0; row_after = both.1 }
