use mathlib.Core.Path.{sym, ap, ◌∙◌, subst}
use Rattle.paper.specs.Answers.{Linked, taken_in}
use Rattle.paper.specs.declared.link.Link.{Link}
use Rattle.paper.specs.Link.{take_of}
use Rattle.sdd.specs.Face.{link_of, linked_c, TakenSmall}
use Rattle.sdd.proofs.Small.{take-small}
use Rattle.sdd.proofs.Through.{taken-stood}
use Rattle.sdd.proofs.links.sdd_link_take.Goals as goal

pub linked-requires : goal.linked-requires
linked-requires c =
    let k = link_of c.args.c in
    let t = taken-stood _ k c.args.piece.now c.args.row.now c.take.result _ c.stood-k.ensures (c.take.ensures.answer, c.take.ensures.link, c.take.ensures.row) in
    subst (λ (l : Linked). TakenSmall (taken_in l)) (sym t.0) (take-small k c.args.piece.now c.args.row.now)

pub returns : goal.returns
returns c =
    let k = link_of c.args.c in
    let t = taken-stood _ k c.args.piece.now c.args.row.now c.take.result _ c.stood-k.ensures (c.take.ensures.answer, c.take.ensures.link, c.take.ensures.row) in
    record { value = c.linked.ensures ∙ ap (λ (j : Link). linked_c j c.take.result) c.stood-k.ensures ∙ ap (linked_c k) t.0; row_after = t.1 }
