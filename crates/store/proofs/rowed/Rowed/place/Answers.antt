use Rattle.std.specs.Prelude.{Err}
use Rattle.lent.proofs.Checks.{passed-on}
use Rattle.lent.proofs.Results.{mapped-ok, mapped-err, ok_or-some, ok_or-none}
use Rattle.paper.specs.declared.refusal.Refusal.TheVariants.{BadScan}
use Rattle.paper.proofs.Opening.{change-sound}
use Rattle.store.proofs.Rooms.{opens-shape, opens-long, slot-opened, sought, hints, free-there, old-there}
use Rattle.store.proofs.Starting.{bad_scan, no_place, place_found, records-small}
use mathlib.Core.Path.{ap, sym, ◌∙◌}
use Rattle.store.proofs.rowed.Rowed.place.Goals as goal

pub returns-in_err-map_err : goal.returns-in_err-map_err
returns-in_err-map_err c =
    let m = mapped-err BadScan _ c.map_err.ensures.cases c.in_err-map_err.was in
    passed-on _ c.from_residual.ensures.1 ∙ ap Err m.2 ∙ bad_scan _ _ _ _ (sym c.judge.ensures ∙ m.1)

pub records_for-k-requires : goal.records_for-k-requires
records_for-k-requires c = opens-shape _ c.self.invariant.opens

pub lowest_free-requires : goal.lowest_free-requires
lowest_free-requires c =
    let a = c.args in
    let s = c.self.inside in
    let r = c.self.invariant in
    let kept = sym c.judge.ensures ∙ mapped-ok BadScan _ c.map_err.ensures.cases c.in_ok-map_err.was in
    let k = records-small s.file.now a.slot a.scan.now a.about.now kept _ (opens-shape s.file.now r.opens) _ c.records_for-k.ensures in
    record { sought = sought s.file.now s.z s.row.now s.marks.now r _ k; hints = hints s.file.now s.z s.row.now s.marks.now r }

pub returns-in_err-first : goal.returns-in_err-first
returns-in_err-first c =
    let a = c.args in
    let s = c.self.inside in
    let r = c.self.invariant in
    let kept = sym c.judge.ensures ∙ mapped-ok BadScan _ c.map_err.ensures.cases c.in_ok-map_err.was in
    let n = ok_or-none _ _ c.ok_or.ensures.value c.in_err-first.was in
    passed-on _ c.from_residual-in_err-first.ensures.1 ∙ ap Err n.1
    ∙ rw (← c.self.view_is) (no_place s.file.now a.slot a.scan.now a.about.now kept _ r.opens _ (free-there s.file.now s.z s.row.now s.marks.now r _ _ _ _ c.lowest_free.ensures c.records_for-k.ensures) n.0)

pub run_at-old-requires : goal.run_at-old-requires
run_at-old-requires c =
    let i = slot-opened c.self.inside.file.now c.self.invariant.opens _ (rw (← c.self.view_is) at c.requires) in
    (i.low, i.high)

pub invariant_of-file : goal.invariant_of-file
invariant_of-file c = record { booted = (change-sound c.self.inside.file.now c.self.invariant.opens).booted }

pub save_job-requires : goal.save_job-requires
save_job-requires c = let f = c.self.inside.file.now in let o = c.self.invariant.opens in record { in_bounds = opens-long f o; value = old-there f o c.args.slot c.run_at-old.ensures }

pub returns : goal.returns
returns c =
    let a = c.args in
    let s = c.self.inside in
    let r = c.self.invariant in
    let kept = sym c.judge.ensures ∙ mapped-ok BadScan _ c.map_err.ensures.cases c.in_ok-map_err.was in
    rw (← c.self.view_is) (place_found s.file.now a.slot a.scan.now a.about.now kept _ r.opens _ (free-there s.file.now s.z s.row.now s.marks.now r _ _ _ _ c.lowest_free.ensures c.records_for-k.ensures) _ (ok_or-some _ _ c.ok_or.ensures.value c.in_ok-first.was) c.save_job.ensures)
