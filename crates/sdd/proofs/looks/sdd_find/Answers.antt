use Rattle.paper.specs.Find.{report_of}
use mathlib.Core.Path.{◌∙◌}
use Rattle.sdd.proofs.Through.{listed_small, listed-face}
use Rattle.sdd.proofs.Small.{find-small}
use Rattle.sdd.proofs.looks.sdd_find.Goals as goal

pub counted-requires : goal.counted-requires
counted-requires c =
    let a = c.args in
    listed_small c.find.result (report_of a.file.now a.out.now) c.find.ensures.answer (find-small a.file.now a.out.now)

pub returns : goal.returns
returns c =
    let a = c.args in
    record { value = c.counted.ensures ∙ listed-face c.find.result (report_of a.file.now a.out.now) c.find.ensures.answer; out_after = c.find.ensures.rows }
