use mathlib.Core.Path.{sym, ap, ◌∙◌, subst}
use Rattle.paper.specs.Answers.{Begun, taken_in}
use Rattle.paper.specs.Store.{save_of}
use Rattle.sdd.specs.Face.{begun_c, TakenSmall}
use Rattle.sdd.proofs.Small.{save-small}
use Rattle.sdd.proofs.Through.{begun-is}
use Rattle.sdd.proofs.jobs.sdd_save.Goals as goal

pub begun-requires : goal.begun-requires
begun-requires c =
    let e = begun-is c.save.result (save_of c.args.file.now c.args.slot c.args.scan.now c.args.about.now) c.save.ensures.answer_value c.save.ensures.job_value in
    subst (λ (b : Begun). TakenSmall (taken_in b)) (sym e) (save-small c.args.file.now c.args.slot c.args.scan.now c.args.about.now)

pub returns : goal.returns
returns c = c.begun.ensures ∙ ap begun_c (begun-is c.save.result (save_of c.args.file.now c.args.slot c.args.scan.now c.args.about.now) c.save.ensures.answer_value c.save.ensures.job_value)
