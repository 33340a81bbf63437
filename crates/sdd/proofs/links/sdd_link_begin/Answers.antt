use mathlib.Core.Path.{sym, ap, ◌∙◌, subst}
use Rattle.paper.specs.Answers.{Linked, taken_in}
use Rattle.paper.specs.Link.{fresh_link, begin_of}
use Rattle.sdd.specs.Face.{linked_c, TakenSmall}
use Rattle.sdd.proofs.Small.{begin-small}
use Rattle.sdd.proofs.Through.{linked-is}
use Rattle.sdd.proofs.links.sdd_link_begin.Goals as goal

pub linked-requires : goal.linked-requires
linked-requires c =
    let b = c.begin in
    let e = linked-is (fresh_link 0) b.result (begin_of c.args.length c.args.row.now) b.ensures.answer b.ensures.link in
    subst (λ (l : Linked). TakenSmall (taken_in l)) (sym e) (begin-small c.args.length c.args.row.now)

pub returns : goal.returns
returns c =
    let b = c.begin in
    c.linked.ensures ∙ ap (linked_c (fresh_link 0)) (linked-is (fresh_link 0) b.result (begin_of c.args.length c.args.row.now) b.ensures.answer b.ensures.link)
