use Rattle.std.proofs.Common.{sym, ap, not, ◌∙◌, arith}
use Rattle.lent.proofs.Lists.{true≢false}
use Rattle.bootstrap.proofs.Booting.{range-kept}
use Rattle.paper.proofs.Sizing.{bytes_small}
use Rattle.steps.proofs.agree.boot_holds.Goals as goal
use Rattle.steps.proofs.agree.boot_holds.Goals.{then-word32-eq1, else-word32-eq1}

pub overflow_add-result : goal.overflow_add-result
overflow_add-result c =
    elim c.if-word32-eq1.branch [
      | then-word32-eq1 w ↦ let h = range-kept _ w.in_range.ensures (ap not (sym w.value-is ∙ c.if-in_range.true)) in omega arith
      | else-word32-eq1 w ↦ absurd (true≢false c.if-in_range.true (w.value-is ∙ w.if-word32-eq1.false))
    ]

pub overflow_mul-result : goal.overflow_mul-result
overflow_mul-result c =
    elim c.if-word32-eq1.branch [
      | then-word32-eq1 w ↦ let h = range-kept _ w.in_range.ensures (ap not (sym w.value-is ∙ c.if-in_range.true)) in omega (arith, bytes_small _ h)
      | else-word32-eq1 w ↦ absurd (true≢false c.if-in_range.true (w.value-is ∙ w.if-word32-eq1.false))
    ]
