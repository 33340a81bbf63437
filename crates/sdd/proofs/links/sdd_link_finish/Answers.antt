use Rattle.sdd.proofs.Small.{finish-fits}
use Rattle.sdd.proofs.Through.{opened-small, opened-face, finish-stood}
use Rattle.sdd.specs.Face.{link_of, opened_c}
use Rattle.paper.specs.Link.{finish_of}
use mathlib.Core.Path.{◌∙◌, ap}
use Rattle.sdd.proofs.links.sdd_link_finish.Goals as goal

pub opened-requires : goal.opened-requires
opened-requires c = let k = link_of c.args.c in let row = c.args.row.now in opened-small c.finish-o.result (finish_of k row) (finish-stood _ k row c.finish-o.result c.stood-k.ensures c.finish-o.ensures) (finish-fits k row)

pub returns : goal.returns
returns c = let k = link_of c.args.c in let row = c.args.row.now in let s = c.stood-k in c.opened.ensures ∙ opened-face s.result.span c.finish-o.result (finish_of k row) (finish-stood _ k row c.finish-o.result s.ensures c.finish-o.ensures) ∙ ap (λ x. opened_c x.span (finish_of k row)) s.ensures
