-- `listing::text`: the refusal's line, or the head and the lines of a file that opens.
use Rattle.std.proofs.Common.{◌≡◌, sym, ◌∙◌, arith, Ok}
use Rattle.paper.specs.Sizes.{Ranged}
use Rattle.paper.specs.Index.{open_of}
use Rattle.paper.proofs.Opening.{open-sound}
use Rattle.look.proofs.Putting.{put_then}
use Rattle.listing.proofs.Texts.{text-refused, text-opens, head_short, row-short, text-put}
use Rattle.listing.proofs.text.Goals as goal

pub scans-n-requires : goal.scans-n-requires
scans-n-requires c =
    let o : open_of c.args.file.now ≡ Ok c.in-Ok.z = sym c.judged-j.ensures.is ∙ c.in-Ok.is in
    let r : Ranged c.in-Ok.z = (open-sound o).booted.ranged in
    (omega (arith, c.judged-j.auto.row), omega arith)

pub capacity-requires : goal.capacity-requires
capacity-requires c =
    let o : open_of c.args.file.now ≡ Ok c.in-Ok.z = sym c.judged-j.ensures.is ∙ c.in-Ok.is in
    let r : Ranged c.in-Ok.z = (open-sound o).booted.ranged in
    r.shape

pub three-at-requires : goal.three-at-requires
three-at-requires c = omega (arith, head_short c.capacity.result c.in-Ok.z.u c.scans-n.result)

pub lines-requires-clause-in_bounds : goal.lines-requires-clause-in_bounds
lines-requires-clause-in_bounds c =
    let o : open_of c.args.file.now ≡ Ok c.in-Ok.z = sym c.judged-j.ensures.is ∙ c.in-Ok.is in
    let r : Ranged c.in-Ok.z = (open-sound o).booted.ranged in
    (omega (arith, c.judged-j.auto.row), omega arith)

pub lines-requires-clause-u_in_bounds : goal.lines-requires-clause-u_in_bounds
lines-requires-clause-u_in_bounds c =
    let o : open_of c.args.file.now ≡ Ok c.in-Ok.z = sym c.judged-j.ensures.is ∙ c.in-Ok.is in
    omega (
      arith,
      head_short c.capacity.result c.in-Ok.z.u c.scans-n.result,
      row-short _ o _ (c.judged-j.ensures.runs _ c.in-Ok.is),
      c.three-at.auto.out,
      c.three-at.ensures.place,
    )

pub returns-in-Err-clause-size : goal.returns-in-Err-clause-size
returns-in-Err-clause-size c = (text-put c.refused.ensures (text-refused _ (sym c.judged-j.ensures.is ∙ c.in-Err.is))).0

pub returns-in-Err-clause-bytes : goal.returns-in-Err-clause-bytes
returns-in-Err-clause-bytes c = (text-put c.refused.ensures (text-refused _ (sym c.judged-j.ensures.is ∙ c.in-Err.is))).1

pub returns-in-Ok-clause-size : goal.returns-in-Ok-clause-size
returns-in-Ok-clause-size c =
    let o : open_of c.args.file.now ≡ Ok c.in-Ok.z = sym c.judged-j.ensures.is ∙ c.in-Ok.is in
    let h = head_short c.capacity.result c.in-Ok.z.u c.scans-n.result in
    (text-put (put_then (omega arith) c.three-at.ensures c.lines.ensures)
    (text-opens _ o _ (c.judged-j.ensures.runs _ c.in-Ok.is) c.capacity.ensures c.scans-n.ensures.0)).0

pub returns-in-Ok-clause-bytes : goal.returns-in-Ok-clause-bytes
returns-in-Ok-clause-bytes c =
    let o : open_of c.args.file.now ≡ Ok c.in-Ok.z = sym c.judged-j.ensures.is ∙ c.in-Ok.is in
    let h = head_short c.capacity.result c.in-Ok.z.u c.scans-n.result in
    (text-put (put_then (omega arith) c.three-at.ensures c.lines.ensures)
    (text-opens _ o _ (c.judged-j.ensures.runs _ c.in-Ok.is) c.capacity.ensures c.scans-n.ensures.0)).1
