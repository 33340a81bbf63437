use Rattle.bootstrap.proofs.Booting.{sizes-is}
use native.Mathlib.Omega.{arith}
use Rattle.bootstrap.proofs.words.sizes_at.Goals as goal

pub returns : goal.returns
returns c =
    sizes-is _ _
    c.size-version.ensures.is
    c.size.ensures.is
    c.size-2.ensures.is
    c.size-3.ensures.is
    c.size-4.ensures.is
    c.size-5.ensures.is
    (omega arith)
    c.kind.ensures
