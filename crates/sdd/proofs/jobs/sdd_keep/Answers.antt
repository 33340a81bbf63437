use mathlib.Core.Path.{sym, ap, ◌∙◌, subst}
use Rattle.paper.specs.Answers.{Begun, taken_in}
use Rattle.paper.specs.Store.{keep_of}
use Rattle.sdd.specs.Face.{begun_c, TakenSmall}
use Rattle.sdd.proofs.Small.{keep-small}
use Rattle.sdd.proofs.Through.{begun-is}
use Rattle.sdd.proofs.jobs.sdd_keep.Goals as goal

pub begun-requires : goal.begun-requires
begun-requires c =
    let e = begun-is c.keep.result (keep_of c.args.file.now c.args.scan.now c.args.about.now) c.keep.ensures.answer_value c.keep.ensures.job_value in
    subst (λ (b : Begun). TakenSmall (taken_in b)) (sym e) (keep-small c.args.file.now c.args.scan.now c.args.about.now)

pub returns : goal.returns
returns c = c.begun.ensures ∙ ap begun_c (begun-is c.keep.result (keep_of c.args.file.now c.args.scan.now c.args.about.now) c.keep.ensures.answer_value c.keep.ensures.job_value)
