use Rattle.paper.specs.Gaps.{gaps_of}
use mathlib.Core.Path.{◌∙◌}
use Rattle.sdd.proofs.Through.{asked-small, asked-face}
use Rattle.sdd.proofs.Small.{gaps-small}
use Rattle.sdd.proofs.looks.sdd_gaps_zero.Goals as goal

pub answered-requires : goal.answered-requires
answered-requires c = asked-small c.gaps_zero.result (gaps_of c.args.file.now) c.gaps_zero.ensures (gaps-small c.args.file.now)

pub returns : goal.returns
returns c = c.answered.ensures ∙ asked-face c.gaps_zero.result (gaps_of c.args.file.now) c.gaps_zero.ensures
