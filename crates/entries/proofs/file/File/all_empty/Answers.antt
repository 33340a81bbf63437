use Prim.Native.Nat.{◌+◌}
use mathlib.Core.Path.{◌≡◌, subst}
use native.Mathlib.Omega.{arith}
use Rattle.entries.specs.Row.{Bare}
use Rattle.entries.proofs.Judging.{bare-none, one_up}
use borrow.Author.Tests.{eqb-true}
use Rattle.entries.proofs.file.File.all_empty.Goals as goal

pub loop-s-init : goal.loop-s-init
loop-s-init g c = (omega arith, λ e. bare-none _ _ _)

pub loop-s-preserved : goal.loop-s-preserved
loop-s-preserved g c = let t = c.filled_at-sum.ensures in (omega (arith, t.small), λ e. one_up _ _ c.loop-s.invariant.1 t e)

pub returns : goal.returns
returns g c e = let q : c.loop-s.s ≡ c.args.i + g.row.N = omega arith in subst (Bare _ _ _) q (c.loop-s.invariant.1 (eqb-true _ _ e))
