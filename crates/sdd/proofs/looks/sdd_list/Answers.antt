use Rattle.paper.specs.Look.{listed_of}
use mathlib.Core.Path.{◌∙◌}
use Rattle.sdd.proofs.Through.{listed_small, listed-face}
use Rattle.sdd.proofs.Small.{list-small}
use Rattle.sdd.proofs.looks.sdd_list.Goals as goal

pub counted-requires : goal.counted-requires
counted-requires c =
    let a = c.args in
    listed_small c.list.result (listed_of a.file.now a.out.now) c.list.ensures.answer (list-small a.file.now a.out.now)

pub returns : goal.returns
returns c =
    let a = c.args in
    record { value = c.counted.ensures ∙ listed-face c.list.result (listed_of a.file.now a.out.now) c.list.ensures.answer; out_after = c.list.ensures.rows }
