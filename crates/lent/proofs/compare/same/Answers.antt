-- `lent::compare::same`: the runs are the same exactly where no turn so far has found a difference and what is left is the same.
use Rattle.std.proofs.Common.{◌+◌, Bool, drop, sym, ap, ◌∙◌, arith}
use Rattle.lent.specs.Lists.{also}
use Rattle.lent.specs.Same.{same}
use Rattle.lent.proofs.Lists.{also-unit, also-false}
use Rattle.lent.proofs.Sames.{same-long, same_step, same_stop, same_end}
use Rattle.lent.proofs.compare.same.Goals as goal
use Rattle.lent.proofs.compare.same.Goals.{then-a-i, else-a-i}

pub returns-then-a-b : goal.returns-then-a-b
returns-then-a-b c = sym (same-long _ _ c.if-a-b.true)

pub loop-i-preserved : goal.loop-i-preserved
loop-i-preserved c =
    let s = c.args in
    let l = c.loop-i in
    let next : Bool = same (drop (l.i + 1) s.a.now) (drop (l.i + 1) s.b.now) in
    elim c.if-a-i.branch [
      | then-a-i w ↦ l.invariant ∙ ap (also l.ok) (same_stop s.a.now s.b.now l.i (omega arith) (omega arith) (λ e. omega arith)) ∙ also-false l.ok ∙ ap (λ (t : Bool). also t next) (sym w.ok-is)
      | else-a-i w ↦ l.invariant ∙ ap (also l.ok) (same_step s.a.now s.b.now l.i (omega arith) (omega arith) (omega arith)) ∙ ap (λ (t : Bool). also t next) (sym w.ok-is)
    ]

pub returns : goal.returns
returns c = let s = c.args in let l = c.loop-i in sym (l.invariant ∙ ap (also l.ok) (same_end s.a.now s.b.now l.i (omega arith) (omega arith)) ∙ also-unit l.ok)
