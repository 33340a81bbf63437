use mathlib.Core.Path.{sym, ap, ◌∙◌, subst}
use Rattle.paper.specs.Answers.{Found, taken_in}
use Rattle.paper.specs.Look.{found_of}
use Rattle.sdd.specs.Face.{found_c, TakenSmall}
use Rattle.sdd.proofs.Small.{found-small}
use Rattle.sdd.proofs.Through.{found-is}
use Rattle.sdd.proofs.looks.sdd_entry_at.Goals as goal

pub found-requires : goal.found-requires
found-requires c =
    let e = found-is c.entry.result (found_of c.args.file.now c.args.slot) c.entry.ensures.answer c.entry.ensures.fields in
    subst (λ (x : Found). TakenSmall (taken_in x)) (sym e) (found-small c.args.file.now c.args.slot)

pub returns : goal.returns
returns c = c.found.ensures ∙ ap found_c (found-is c.entry.result (found_of c.args.file.now c.args.slot) c.entry.ensures.answer c.entry.ensures.fields)
