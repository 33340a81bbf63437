-- `lent::compare::same_padded`: no zeros are asked for; another length; else in two parts, the bytes and the zeros.
use Rattle.std.proofs.Common.{sym, ◌∙◌, arith, ne_eqb}
use Rattle.lent.proofs.Lists.{true≢false}
use Rattle.lent.proofs.Writes.{pad-none}
use Rattle.lent.proofs.Sames.{same-pad, same-pad-long}
use Rattle.lent.proofs.compare.same_padded.Goals as goal
use Rattle.lent.proofs.compare.same_padded.Goals.{then-a-n, else-a-n}

pub returns-then-n-k : goal.returns-then-n-k
returns-then-n-k c = let a = c.args in rw (pad-none a.n a.src.now (omega arith)) c.same.ensures

pub returns-then-same : goal.returns-then-same
returns-then-same c =
    let a = c.args in
    elim c.if-a-n.branch [
      | then-a-n w ↦ simp (same-pad a.a.now a.n a.src.now (omega arith) w.if-a-n.true, ← w.same-then-a-n.ensures, sym w.value-is ∙ c.if-same.true) c.all_zero.ensures
      | else-a-n w ↦ absurd (true≢false c.if-same.true (w.value-is ∙ ne_eqb _ _ w.if-a-n.false))
    ]

pub returns-else-same : goal.returns-else-same
returns-else-same c =
    let a = c.args in
    elim c.if-a-n.branch [
      | then-a-n w ↦ simp (c.if-same.false, same-pad a.a.now a.n a.src.now (omega arith) w.if-a-n.true, ← w.same-then-a-n.ensures, sym w.value-is ∙ c.if-same.false)
      | else-a-n w ↦ w.value-is ∙ ne_eqb _ _ w.if-a-n.false ∙ sym (same-pad-long a.a.now a.n a.src.now (omega arith) w.if-a-n.false)
    ]
