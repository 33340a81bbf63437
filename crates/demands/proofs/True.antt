-- Demand 2, of what is confirmed: it stands in the file, and is read back.
use Rattle.std.specs.Prelude.{Ok}
use Prim.Native.Nat.{ℕ, ◌+◌, ◌*◌}
use mathlib.Core.Path.{◌≡◌, refl, sym, ◌∙◌, ap, subst}
use mathlib.Core.Bool.{true, false}
use mathlib.Core.List.{List, Memᴰ}
use native.Mathlib.Omega.{arith}
use lib.ListN.{length}
use Rattle.lent.specs.Part.{part}
use Rattle.paper.specs.declared.sizes.Sizes.{Sizes}
use Rattle.paper.specs.declared.sizes.Run.{Run}
use Rattle.paper.specs.declared.job.Job.{Job}
use Rattle.paper.specs.Answers.{Begun}
use Rattle.paper.specs.declared.job.Step.TheVariants.{Saved}
use Rattle.paper.specs.Index.{run_of, Full, slots_of, open_of, Sound}
use Rattle.paper.specs.Scan.{headlen, datalen, ruled_of}
use Rattle.paper.specs.Look.{list_of, InIndex}
use Rattle.paper.specs.Store.{records_for, run_from, save_of, keep_of, job_in}
use Rattle.paper.proofs.Opening.{open-sound, sound-open, open-reads, full-holds, holds-slots, slots-holds}
use Rattle.paper.proofs.Encoding.{entry-about}
use Rattle.paper.proofs.Confirming.{ended, saved-shown, saved-entry, saved-run, cleared-shown, cleared-entry, cleared-run}
use Rattle.paper.proofs.Reading.{read_back}
use Rattle.paper.proofs.Begins.{save-taken, taken-save, keep_taken, taken-keep}
use Rattle.paper.proofs.Stages.{job_at}
use Rattle.demands.specs.History.{Op, save, keep, clear, Whole, begin, scan_of, writes_by, takes, State, state_after}
use Rattle.demands.specs.Survival.{confirmed}
use Rattle.demands.specs.Truth.{OpensExactly, Shows, SavedShows, ClearedEmpty, ReadsBack, SavedReads, about_of, Saves, RunReads}
use Rattle.demands.proofs.Start.{starts, accepts, steps-are}
use Rattle.demands.proofs.Survived.{confirms-each}

pub opens-exactly : OpensExactly
opens-exactly f z = (open-sound, sound-open)

-- a slot of the list, in the sizes that the file opens with
listed_at : (f : List ℕ) (z : Sizes) → open_of f ≡ Ok z → (s : ℕ) → Memᴰ s (slots_of z (run_of f z)) → Memᴰ s (list_of f)
listed_at f z o s m = subst (λ (y : Sizes). Memᴰ s (slots_of y (run_of f y))) (sym (open-reads f o)) m

at_listed : (f : List ℕ) (z : Sizes) → open_of f ≡ Ok z → (s : ℕ) → Memᴰ s (list_of f) → Memᴰ s (slots_of z (run_of f z))
at_listed f z o s m = subst (λ (y : Sizes). Memᴰ s (slots_of y (run_of f y))) (open-reads f o) m

pub saved-shows : SavedShows
saved-shows f scan j r count e =
    let x = ended f scan j true r count e in
    let z : Sizes = x.z in
    let C = x.facts in
    let A = C.agreeing in
    let full : Full (run_of f z j.slot) =
    subst (λ (y : Run). Full y) (sym (saved-run C x.is)) (omega (arith, A.past x.is)) in
    record {
      z = z;
      opens = C.opens;
      shows = saved-shown C x.is;
      entry = saved-entry C x.is;
      lists =
          listed_at f z C.opens j.slot
          (holds-slots z (run_of f z) j.slot (full-holds (open-sound C.opens).laid j.slot A.low A.high full));
    }

pub cleared-empty : ClearedEmpty
cleared-empty f scan j r count e =
    let x = ended f scan j false r count e in
    let z : Sizes = x.z in
    let C = x.facts in
    record {
      z = z;
      opens = C.opens;
      shows = cleared-shown C x.is;
      entry = cleared-entry C x.is;
      unlisted = λ m.
          let h = slots-holds z (run_of f z) j.slot (at_listed f z C.opens j.slot m) in
          let n : (run_of f z j.slot).first + (run_of f z j.slot).last ≡ 0 = ap (λ (y : Run). y.first + y.last) (cleared-run C x.is) in
          omega (arith, h.full);
    }

-- ---- what is shown is read

shown-reads : {f : List ℕ} {slot first : ℕ} {scan about : List ℕ} (head rest : ℕ) (x : Shows f slot first scan about) → x.z.version ≡ 1 → ruled_of scan true ≡ Ok (head, rest)
    → length about ≡ 54 → ReadsBack f slot scan about
shown-reads {f} {slot} {first} {scan} {about} head rest x v k l =
    let z : Sizes = x.z in
    let S : Sound f z = open-sound x.opens in
    let h = slots-holds z (run_of f z) slot (at_listed f z x.opens slot x.lists) in
    let i : InIndex z slot = record { low = h.low; high = omega (arith, h.high, S.booted.ranged.used) } in
    record {
      z = z;
      opens = x.opens;
      reads = read_back S slot i h.full v (records_for z (length scan) * z.l) scan x.shows k;
      entry = ap (part 8 62) x.entry ∙ entry-about z (run_from first (records_for z (length scan))) about l;
    }

pub saved-reads : SavedReads
unfolding saved-shows
saved-reads f scan j r count head rest e k l = shown-reads head rest (saved-shows f scan j r count e) (ended f scan j true r count e).facts.agreeing.current k l

-- ---- a run to confirmation

-- what a save or a keep was accepted with
record Given (f : List ℕ) (op : Op) : Type 0 where
  keeps : ruled_of (scan_of op) true ≡ Ok (headlen (scan_of op), datalen (scan_of op))
  about : (job_in (begin f op)).about ≡ about_of op
  long : length (about_of op) ≡ 54

given : (f : List ℕ) (op : Op) → Saves op → Whole op → takes f op ≡ true → Given f op
given f (save slot scan about) s w e =
    let t = save-taken f slot scan about (accepts (save_of f slot scan about) e) in
    record { keeps = t.placed.keeps; about = ap (λ (b : Begun). (job_in b).about) (taken-save f slot scan about t); long = w }
given f (keep scan about) s w e =
    let t = keep_taken f scan about (accepts (keep_of f scan about) e) in
    record { keeps = t.placed.keeps; about = ap (λ (b : Begun). (job_in b).about) (taken-keep f scan about t); long = w }
given f (clear slot) s w e = absurd s

saves-step : (op : Op) → Saves op → (c : ℕ) → confirmed op c ≡ Ok (Saved 0 c)
saves-step (save slot scan about) s c = refl
saves-step (keep scan about) s c = refl
saves-step (clear slot) s c = absurd s

pub run-reads : RunReads
run-reads f z o op s w t more =
    let g = given f op s w t in
    let i : ℕ = writes_by f z op + more in
    let st : State = state_after f op i in
    let j : Job = (job_in (begin f op)) in
    let e : st.job ≡ job_at z f (scan_of op) j i = ap (λ (x : State). x.job) (steps-are (starts f z o op w t).begins i) in
    let a : st.job.about ≡ about_of op = ap (λ (k : Job). k.about) e ∙ g.about in
    let back : ReadsBack st.file st.job.slot (scan_of op) st.job.about =
    saved-reads st.file (scan_of op) st.job 0 (writes_by f z op) (headlen (scan_of op)) (datalen (scan_of op))
    ((confirms-each f z o op w t).confirms more ∙ saves-step op s (writes_by f z op)) g.keeps (ap length a ∙ g.long) in
    subst (λ (x : ℕ). ReadsBack st.file x (scan_of op) (about_of op)) (ap (λ (k : Job). k.slot) e)
    (subst (ReadsBack st.file st.job.slot (scan_of op)) a back)
