-- `scan::spans::class_span`: 11 where the rules are broken, else the class by what the preamble says.
use Prim.Native.Nat.{ℕ}
use Rattle.std.specs.Prelude.{Err}
use mathlib.Core.Path.{◌≡◌, sym, ap, ◌∙◌}
use mathlib.Core.List.{List}
use native.Mathlib.Omega.{arith}
use lib.IntN.{ℤ}
use Rattle.lent.proofs.Checks.{passed-on}
use Rattle.lent.proofs.Results.{mapped-ok, mapped-err}
use Rattle.paper.specs.declared.refusal.Refusal.TheVariants.{BadScan}
use Rattle.paper.specs.Scan.{classes_of, starts_of, class_in}
use Rattle.paper.proofs.Rules.{kept}
use Rattle.paper.proofs.Classes.{class-in, class-refused}
use Rattle.scan.proofs.spans.class_span.Goals as goal

same_class : (s : List ℕ) (a : List ℤ) (n head number : ℕ) → a ≡ starts_of s → n ≡ classes_of s → class_in a n head number ≡ class_in (starts_of s) (classes_of s) head number
same_class s a n head number p q = cc

pub starts-requires : goal.starts-requires
starts-requires c = omega (arith, (kept (sym c.judge.ensures ∙ mapped-ok BadScan _ c.map_err.ensures.cases c.in_ok-head.was)).one.0)

pub class_in-requires : goal.class_in-requires
class_in-requires c = omega (arith, c.classes.ensures.is, kept (sym c.judge.ensures ∙ mapped-ok BadScan _ c.map_err.ensures.cases c.in_ok-head.was))

pub returns-in_err-head : goal.returns-in_err-head
returns-in_err-head c =
    let m = mapped-err BadScan _ c.map_err.ensures.cases c.in_err-head.was in
    passed-on _ c.from_residual.ensures.1 ∙ ap Err m.2 ∙ sym (class-refused c.args.s.now (sym c.judge.ensures ∙ m.1) _)

pub returns : goal.returns
returns c = c.class_in.ensures ∙ same_class _ _ _ _ _ c.starts.ensures c.classes.ensures.is ∙ sym (class-in _ (sym c.judge.ensures ∙ mapped-ok BadScan _ c.map_err.ensures.cases c.in_ok-head.was) _)
