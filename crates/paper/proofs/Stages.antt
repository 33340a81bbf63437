-- A job just begun on a file that opens, step by step: each step performs the next of its writes, and after the last the change is confirmed.
use Rattle.std.specs.Prelude.{Ok}
use Prim.Native.Nat.{ℕ, suc, ◌+◌, ◌≤◌, ◌<◌, min}
use mathlib.Core.Path.{◌≡◌, refl, sym, ◌∙◌, ap}
use mathlib.Core.Bool.{true, cond}
use mathlib.Core.List.{List}
use mathlib.Core.Logic.{⊎_elim}
use native.Mathlib.Omega.{arith}
use lib.ListN.{take, get_or}
use Rattle.lent.proofs.Lists.{lt-or-ge}
use Rattle.paper.specs.declared.sizes.Sizes.{Sizes}
use Rattle.paper.specs.declared.job.Job.{Job}
use Rattle.paper.specs.declared.job.Step.TheVariants.{Wrote, Saved, Cleared}
use Rattle.paper.specs.Sizes.{renewed}
use Rattle.paper.specs.Index.{entry_at}
use Rattle.paper.specs.Entry.{entry_bytes}
use Rattle.paper.specs.Store.{Write, perform, count_of, entry_after, total_of, writes_of}
use Rattle.paper.specs.Step.{agrees, no_write, write_at, step_file, placed, step_job, stands, confirm_of, step_answer, Agreeing}
use Rattle.paper.proofs.Opening.{sound-open}
use Rattle.paper.proofs.Writes.{writes-past}
use Rattle.paper.proofs.Agreement.{agreeing, step-file, job-head, job-past, answer-wrote, answer-past, standing}
use Rattle.paper.proofs.Ready.{Ready, file_at, file-start, file-next, along, end_stays, end-keeps, end-entry, end-rows, end-zeros}

-- the job after i steps: its place in the list, and the file's first 32 bytes, on which it was begun or which it wrote
abbrev pub job_at : Sizes → List ℕ → List ℕ → Job → ℕ → Job
job_at z f scan j i = placed j (min i (total_of z j)) (take 32 (file_at f scan j i))

pub job-start : {z : Sizes} {f scan : List ℕ} {j : Job} → Agreeing f scan j z → j.written ≡ 0 → job_at z f scan j 0 ≡ j
job-start {z} {f} {scan} {j} A h =
    let e : min 0 (total_of z j) ≡ 0 = omega arith in
    rw (e, file-start f scan j, A.begun) (ap (λ (w : ℕ). placed j w j.boot) (sym h))

-- the writes are those of the job as it was begun, and so is the entry, whatever D, U and the counter are
writes-placed : (g : List ℕ) (z : Sizes) (j : Job) (w : ℕ) (b scan : List ℕ) → writes_of g z (placed j w b) scan ≡ writes_of g z j scan
unfolding writes_of
writes-placed g z j w b scan = refl

entry-placed : (z : Sizes) (d u c : ℕ) (j : Job) (w : ℕ) (b : List ℕ) → entry_after (renewed z d u c) (placed j w b) ≡ entry_after z j
unfolding entry_bytes
entry-placed z d u c j w b = refl

module _ {z : Sizes} {f scan : List ℕ} {j : Job} (Y : Ready z f scan j) (A : Agreeing f scan j z) where
  abbrev T : ℕ
  T = total_of z j

  abbrev F : ℕ → List ℕ
  F i = file_at f scan j i

  abbrev J : ℕ → Job
  J i = job_at z f scan j i

  -- the sizes as they stand after i steps
  abbrev pub sizes_at : ℕ → Sizes
  sizes_at i = renewed z (along Y i).d (along Y i).u (along Y i).c

  -- job and file agree at every step
  at-agrees : (i : ℕ) → agrees (F i) scan (J i) ≡ true
  at-agrees i =
      let a = along Y i in
      agreeing (F i) scan (J i) (sizes_at i)
      (record {
        booted = a.sound.booted;
        current = A.current;
        size = A.size;
        span = a.len ∙ A.span;
        begun = refl;
        filled = A.filled;
        low = A.low;
        high = A.high;
        past = A.past;
        within = rw a.len A.within;
        left = omega arith;
        old_past = A.old_past;
        old_within = rw a.len A.old_within;
      })

  -- the write of each step is the list's next
  next-write : (i : ℕ) → write_at (F i) (sizes_at i) scan (J i) ≡ get_or (writes_of (F i) (sizes_at i) j scan) i no_write
  next-write i =
      let y : Sizes = sizes_at i in
      ap (λ (ws : List Write). get_or ws (min i T) no_write) (writes-placed (F i) y j (min i T) (take 32 (F i)) scan)
      ∙ ⊎_elim (λ (h : i < T). ap (λ (n : ℕ). get_or (writes_of (F i) y j scan) n no_write) (omega arith))
      (λ (h : T ≤ i). writes-past (F i) y j scan (min i T) (omega arith) ∙ sym (writes-past (F i) y j scan i h)) (lt-or-ge i T)

  -- ---- the file and the job after a step

  pub stage-file : (i : ℕ) → step_file (file_at f scan j i) scan (job_at z f scan j i) ≡ file_at f scan j (suc i)
  stage-file i =
      let r = (along Y i).sound.booted.reads in
      step-file (F i) scan (J i) (sizes_at i) (at-agrees i) r ∙ ap (perform (F i)) (next-write i) ∙ sym (file-next f scan j i (sizes_at i) _ r refl)

  pub stage-job : (i : ℕ) → step_job (file_at f scan j i) scan (job_at z f scan j i) ≡ job_at z f scan j (suc i)
  stage-job i =
      let r = (along Y i).sound.booted.reads in
      ⊎_elim
      (λ (h : i < T).
      job-head (F i) scan (J i) (sizes_at i) (at-agrees i) r (omega arith)
      ∙ ap (λ (g : List ℕ). placed j (min i T + 1) (take 32 g)) (stage-file i) ∙ ap (λ (w : ℕ). placed j w (take 32 (F (suc i)))) (omega arith))
      (λ (h : T ≤ i).
      job-past (F i) scan (J i) (sizes_at i) (at-agrees i) r (omega arith)
      ∙ ap (λ (g : List ℕ). placed j (min i T) (take 32 g)) (end_stays Y i h ∙ sym (end_stays Y (suc i) (omega arith)))
      ∙ ap (λ (w : ℕ). placed j w (take 32 (F (suc i)))) (omega arith))
      (lt-or-ge i T)

  -- ---- what the steps answer

  -- while a write is left: its record, and the count
  pub stage-wrote : (i : ℕ) → i < total_of z j
      → step_answer (file_at f scan j i) scan (job_at z f scan j i) ≡ Ok (Wrote (get_or (writes_of (file_at f scan j i) (sizes_at i) j scan) i no_write).record_no (i + 1))
  stage-wrote i h =
      answer-wrote (F i) scan (J i) (sizes_at i) (at-agrees i) (along Y i).sound.booted.reads (omega arith)
      ∙ ap (λ (w : Write). Ok (Wrote w.record_no (min i T + 1))) (next-write i)
      ∙ ap (λ (n : ℕ). Ok (Wrote (get_or (writes_of (F i) (sizes_at i) j scan) i no_write).record_no n)) (omega arith)

  -- with none left: the file is judged, and the change confirmed
  pub stage-confirms : (i : ℕ) → total_of z j ≤ i
      → step_answer (file_at f scan j i) scan (job_at z f scan j i) ≡ cond j.saves (Ok (Saved 0 (total_of z j))) (Ok (Cleared 0 (total_of z j)))
  stage-confirms i h =
      let a = along Y i in
      let y : Sizes = sizes_at i in
      let e : min i T ≡ T = omega arith in
      let late : count_of z j + 2 ≤ i = omega arith in
      let entry : entry_at (F i) z j.slot ≡ entry_after y (J i) =
      (end-keeps Y i late).entries j.slot A.low A.high ∙ end-entry Y ∙ sym (entry-placed z a.d a.u a.c j (min i T) (take 32 (F i))) in
      let s : stands (F i) scan (J i) y ≡ true = standing (F i) scan (J i) y (record { entry = entry; rows = end-rows Y i late; gone = end-zeros Y i h }) in
      answer-past (F i) scan (J i) y (at-agrees i) a.sound.booted.reads (omega arith)
      ∙ ap (confirm_of (F i) scan (J i)) (sound-open a.sound)
      ∙ rw (s, e)
