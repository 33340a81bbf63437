-- `lent::write::copy`: after i turns the first i bytes are those of the source.
use Rattle.std.proofs.Common.{◌<◌, length, get_or, refl, ◌∙◌, arith, length-set, ext_get_or}
use Rattle.std.proofs.lemmas.List.Edits.{fill_by_more}
use Rattle.lent.proofs.write.copy.Goals as goal

pub loop-i-init : goal.loop-i-init
loop-i-init c = (refl, λ k h. absurd (omega arith))

pub loop-i-preserved : goal.loop-i-preserved
loop-i-preserved c =
    let l = c.loop-i in
    let s = c.args.src.now in
    let w : l.i < length l.dst = omega (arith, l.invariant.0) in
    (simp length-set l.invariant.0, fill_by_more (λ k. get_or s k 0) l.dst l.i 0 w l.invariant.1)

pub returns : goal.returns
returns c =
    let l = c.loop-i in
    ext_get_or 0 l.dst c.args.src.now (l.invariant.0 ∙ c.requires) (λ k h. l.invariant.1 k (omega (arith, l.invariant.0)))
