use lib.ListN.{length}
use native.Mathlib.Omega.{arith}
use mathlib.Core.Path.{sym, ◌∙◌}
use Rattle.steps.proofs.Agreed.{few-records, few-old, runs-facts, holds-boot, other-file, other_boot, other-slot, other-runs, too_many, all-agree}
use Rattle.steps.proofs.agree.agree.Goals as goal

pub returns-then-not-same_file : goal.returns-then-not-same_file
returns-then-not-same_file c = let a = c.args in other-file a.file.now a.scan.now a.j _ c.requires (sym c.same_file.ensures ∙ c.if-not-same_file.true)

pub returns-then-not-boot_holds : goal.returns-then-not-boot_holds
returns-then-not-boot_holds c = let a = c.args in other_boot a.file.now a.scan.now a.j _ c.requires (sym c.boot_holds.ensures ∙ c.if-not-boot_holds.true)

pub has_slot-requires : goal.has_slot-requires
has_slot-requires c = (holds-boot _ _ c.requires (sym c.boot_holds.ensures ∙ c.if-not-boot_holds.false)).ranged.shape

pub returns-then-not-has_slot : goal.returns-then-not-has_slot
returns-then-not-has_slot c = let a = c.args in other-slot a.file.now a.scan.now a.j _ c.requires (sym c.has_slot.ensures ∙ c.if-not-has_slot.true)

pub runs_fit-requires : goal.runs_fit-requires
runs_fit-requires c = (holds-boot _ _ c.requires (sym c.boot_holds.ensures ∙ c.if-not-boot_holds.false)).ranged.shape

pub returns-then-not-runs_fit : goal.returns-then-not-runs_fit
returns-then-not-runs_fit c = let a = c.args in other-runs a.file.now a.scan.now a.j _ c.requires (sym c.runs_fit.ensures ∙ c.if-not-runs_fit.true)

pub records-k-requires : goal.records-k-requires
records-k-requires c = (holds-boot _ _ c.requires (sym c.boot_holds.ensures ∙ c.if-not-boot_holds.false)).ranged.shape

pub total-requires : goal.total-requires
total-requires c = let a = c.args in let r = runs-facts a.z (length a.file.now) a.j (sym c.runs_fit.ensures ∙ c.if-not-runs_fit.false) in (rw c.records-k.ensures (few-records a.z (length a.file.now) a.j r.0), few-old a.z (length a.file.now) a.j r.1)

pub returns-then-total-j : goal.returns-then-total-j
returns-then-total-j c = let a = c.args in too_many a.file.now a.scan.now a.j _ c.requires (omega (arith, c.total.ensures, c.records-k.ensures))

pub returns : goal.returns
returns c =
    let a = c.args in
    all-agree a.file.now a.scan.now a.j _ c.requires (sym c.same_file.ensures ∙ c.if-not-same_file.false)
    (sym c.boot_holds.ensures ∙ c.if-not-boot_holds.false) (sym c.has_slot.ensures ∙ c.if-not-has_slot.false) (sym c.runs_fit.ensures ∙ c.if-not-runs_fit.false) (omega (arith, c.total.ensures, c.records-k.ensures))
