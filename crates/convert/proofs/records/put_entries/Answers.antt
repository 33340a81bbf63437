use mathlib.Core.Path.{refl, ◌∙◌}
use native.Mathlib.Omega.{arith}
use Rattle.convert.proofs.Recording.{heads, over_none, over-more, over-all}
use Rattle.convert.proofs.records.put_entries.Goals as goal

pub loop-i-init : goal.loop-i-init
loop-i-init c = (refl, over_none _ _ c.args.z _ _ _ (heads _ _ _ _ c.requires).within c.zero_to.ensures)

pub loop-i-preserved : goal.loop-i-preserved
loop-i-preserved c =
    let l = c.loop-i in
    let p = c.requires in
    (c.put_entry.auto.out ∙ l.invariant.0, over-more _ _ c.args.z _ p.sound.booted.ranged.shape (omega (arith, (heads _ _ _ _ p).within, c.zero_to.auto.file)) _ _ _ _ (omega arith) l.invariant.1 c.put_entry.ensures)

pub returns : goal.returns
returns c =
    let p = c.requires in
    over-all _ _ c.args.z _ p.sound.booted.ranged.shape _ _ _ (omega arith) (omega arith) (heads _ _ _ _ p).within c.zero_to.ensures c.loop-i.invariant.1
