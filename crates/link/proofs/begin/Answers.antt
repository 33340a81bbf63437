use mathlib.Core.Path.{sym, ap, ◌∙◌}
use native.Mathlib.Omega.{arith}
use Rattle.std.specs.Prelude.{Ok}
use Rattle.paper.specs.Link.{fresh_link}
use Rattle.paper.proofs.Linking.{begin-short, begin-long}
use Rattle.link.proofs.Pieces.{says}
use Rattle.link.proofs.begin.Goals as goal

pub returns-then-row-lt8192 : goal.returns-then-row-lt8192
returns-then-row-lt8192 c = let both = says (fresh_link 0) (sym (begin-short _ _ (omega arith))) in record { answer = both.0; link = both.1 }

pub returns-else-row-lt8192 : goal.returns-else-row-lt8192
returns-else-row-lt8192 c = let both = says (fresh_link 0) (ap Ok c.fresh.ensures ∙ sym (begin-long _ _ (omega arith))) in record { answer = both.0; link = both.1 }
