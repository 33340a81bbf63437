use Rattle.paper.specs.Index.{open_of}
use mathlib.Core.Path.{◌∙◌}
use lib.ListN.{length}
use Rattle.sdd.proofs.Through.{opened-small, opened-face}
use Rattle.sdd.proofs.Small.{opened-fits}
use Rattle.sdd.proofs.looks.sdd_open.Goals as goal

pub opened-requires : goal.opened-requires
opened-requires c =
    let f = c.args.file.now in
    opened-small c.open-o.result (open_of f) c.open-o.ensures (opened-fits f)

pub returns : goal.returns
returns c =
    let f = c.args.file.now in
    c.opened.ensures ∙ opened-face (length f) c.open-o.result (open_of f) c.open-o.ensures
