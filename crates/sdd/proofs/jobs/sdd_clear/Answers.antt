use mathlib.Core.Path.{sym, ap, ◌∙◌, subst}
use Rattle.paper.specs.Answers.{Begun, taken_in}
use Rattle.paper.specs.Store.{clear_of}
use Rattle.sdd.specs.Face.{begun_c, TakenSmall}
use Rattle.sdd.proofs.Small.{clear-small}
use Rattle.sdd.proofs.Through.{begun-is}
use Rattle.sdd.proofs.jobs.sdd_clear.Goals as goal

pub begun-requires : goal.begun-requires
begun-requires c =
    let e = begun-is c.clear.result (clear_of c.args.file.now c.args.slot) c.clear.ensures.answer_value c.clear.ensures.job_value in
    subst (λ (b : Begun). TakenSmall (taken_in b)) (sym e) (clear-small c.args.file.now c.args.slot)

pub returns : goal.returns
returns c = c.begun.ensures ∙ ap begun_c (begun-is c.clear.result (clear_of c.args.file.now c.args.slot) c.clear.ensures.answer_value c.clear.ensures.job_value)
