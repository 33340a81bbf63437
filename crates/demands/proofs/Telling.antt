-- Demand 2, of what is listed and counted.
use Rattle.std.specs.Prelude.{Ok, Err}
use Prim.Native.Nat.{ℕ, ◌+◌, ◌-◌, ◌*◌, ◌≤◌, ◌<◌}
use mathlib.Core.Path.{◌≡◌, refl, sym, ◌∙◌, ap, subst}
use mathlib.Core.Bool.{Bool, true, false, cond, not}
use mathlib.Core.List.{List, Memᴰ}
use mathlib.Core.Logic.{⊎_elim}
use native.Mathlib.Omega.{arith}
use borrow.Author.Tests.{ltb-true}
use lib.ListN.{length, take, drop, get_or, length-take}
use Rattle.lent.specs.Write.{write, zeros}
use Rattle.lent.specs.Lists.{Rising}
use Rattle.lent.proofs.Checks.{err≢ok}
use Rattle.lent.proofs.Lists.{lt-or-ge, those-rising}
use Rattle.lent.proofs.Writes.{length-zeros, length-write, write-before, write-after}
use Rattle.paper.specs.declared.sizes.Sizes.{Sizes}
use Rattle.paper.specs.declared.refusal.Refusal.TheVariants.{Disagrees, Differs}
use Rattle.paper.specs.Answers.{Opened}
use Rattle.paper.specs.declared.job.Job.{Job}
use Rattle.paper.specs.declared.job.Step.TheVariants as step
use Rattle.paper.specs.Sizes.{sizes_of, boot_bytes, start_of, home_of}
use Rattle.paper.specs.Index.{run_of, empty, slots_of, open_of}
use Rattle.paper.specs.Store.{records_for, count_of, padded_of, sizes_after, entry_after, lowered, change_of, total_of}
use Rattle.paper.specs.Step.{agrees, has_left, write_at, stands, confirm_of, step_file, step_answer}
use Rattle.paper.proofs.Opening.{open-sound, open-reads, slots-holds, holds-slots, full-holds}
use Rattle.paper.proofs.Sizing.{less, times, home-is, home-in}
use Rattle.paper.proofs.Encoding.{length-boot}
use Rattle.paper.proofs.Free.{room_in}
use Rattle.paper.proofs.Records.{entry_length}
use Rattle.paper.proofs.Writes.{phases, row-saves}
use Rattle.paper.proofs.Agreement.{agreed, file-refused, step-file, step-data, step-boot, step-entry, step-lower, step-zero, step_past, job-head}
use Rattle.demands.specs.Reads.{entry_byte}
use Rattle.demands.specs.Said.{ListExactly, Next, WroteNext, Outside, StepKeeps}

slots-rising : (z : Sizes) (f : List ℕ) → Rising (slots_of z (run_of f z))
unfolding slots_of
slots-rising z f = those-rising (λ s. not (empty (run_of f z s))) z.u

pub list-exactly : ListExactly
list-exactly f z o =
    let S = open-sound o in
    let e : sizes_of f ≡ z = open-reads f o in
    record {
      only = λ s m.
          let h = slots-holds z (run_of f z) s (subst (λ (y : Sizes). Memᴰ s (slots_of y (run_of f y))) e m) in
          (h.low, omega (arith, h.high, S.booted.ranged.used), h.full);
      each = λ s a b h.
          subst (λ (y : Sizes). Memᴰ s (slots_of y (run_of f y))) (sym e) (holds-slots z (run_of f z) s (full-holds S.laid s a b h));
      rising = slots-rising (sizes_of f) f;
    }

-- ---- a step that wrote

-- no confirming step answers that it wrote
confirm-never : (f scan : List ℕ) (j : Job) (o : Opened) (r count : ℕ) → confirm_of f scan j o ≡ Ok (step.Wrote r count) → ⊥
confirm-never f scan j (Err q) r count e = err≢ok e
confirm-never f scan j (Ok z) r count e = go (stands f scan j z) j.saves e
  where
    go : (b s : Bool) → cond b (cond s (Ok (step.Saved 0 j.written)) (Ok (step.Cleared 0 j.written))) (Err Differs) ≡ Ok (step.Wrote r count) → ⊥
    go true true e = let z : ◌≡◌ {A = ℕ} 0 1 = cc in omega arith
    go true false e = let z : ◌≡◌ {A = ℕ} 0 1 = cc in omega arith
    go false s e = err≢ok e

next : (f scan : List ℕ) (j : Job) (r count : ℕ) (a left : Bool) → agrees f scan j ≡ a → has_left (sizes_of f) j ≡ left
    → cond a (cond left (Ok (step.Wrote (write_at f (sizes_of f) scan j).record_no (j.written + 1))) (confirm_of f scan j (open_of f))) (Err Disagrees)
    ≡ Ok (step.Wrote r count)
    → Next f scan j r count
next f scan j r count false left p q e = absurd (err≢ok e)
next f scan j r count true false p q e = absurd (confirm-never f scan j (open_of f) r count e)
next f scan j r count true true p q e =
    let h : j.written < total_of (sizes_of f) j = ltb-true j.written (total_of (sizes_of f) j) q in
    let c : count ≡ j.written + 1 = cc in
    record {
      record_is = cc;
      counts = c;
      file = step-file f scan j (sizes_of f) p refl;
      job = ap (λ (k : Job). k.written) (job-head f scan j (sizes_of f) p refl h) ∙ sym c;
    }

pub wrote-next : WroteNext
unfolding step_answer
wrote-next f scan j r count e = next f scan j r count (agrees f scan j) (has_left (sizes_of f) j) refl refl e

-- ---- the bytes that a step keeps

keeps-write : (f : List ℕ) (at : ℕ) (bs : List ℕ) (b : ℕ) → at + length bs ≤ length f → (at ≤ b → at + length bs ≤ b)
    → (get_or (write f at bs) b 0 ≡ get_or f b 0) × (length (write f at bs) ≡ length f)
keeps-write f at bs b fits h = (
  ⊎_elim (λ (l : b < at). write-before f at bs (omega arith) b l) (λ (l : at ≤ b). write-after f at bs (omega arith) b (h l)) (lt-or-ge b at),
  length-write f at bs fits,
)

module _ (f scan : List ℕ) (j : Job) (k54 : length j.about ≡ 54) (b : ℕ) (o : Outside (sizes_of f) j b) where
  abbrev z : Sizes
  z = sizes_of f

  abbrev Keeps : Type 0
  Keeps = (get_or (step_file f scan j) b 0 ≡ get_or f b 0) × (length (step_file f scan j) ≡ length f)

  written : (at : ℕ) (bs : List ℕ) → step_file f scan j ≡ write f at bs → at + length bs ≤ length f → (at ≤ b → at + length bs ≤ b) → Keeps
  written at bs e fits h = rw e (keeps-write f at bs b fits h)

  keeps-row : agrees f scan j ≡ true → j.written < count_of z j → Keeps
  keeps-row e h =
      let A = agreed f scan j e in
      let s : j.saves ≡ true = row-saves z j (omega arith) in
      let w : ℕ = j.written in
      let bs : List ℕ = take z.l (drop (w * z.l) (padded_of z j scan)) in
      let k : count_of z j ≡ records_for z j.size = ap (λ (t : Bool). cond t (records_for z j.size) 0) s in
      let l : length bs ≤ z.l = omega (arith, length-take z.l (drop (w * z.l) (padded_of z j scan))) in
      let a : (j.first + w - 1) * z.l + z.l ≡ (j.first + w) * z.l = less (j.first + w) z.l (omega (arith, A.past s)) in
      let r : (j.first + w) * z.l ≤ length f = room_in z (length f) (j.first + w) (omega (arith, A.within s)) in
      let p : (j.first - 1) * z.l ≤ (j.first + w - 1) * z.l = times (j.first - 1) (j.first + w - 1) z.l (omega (arith, A.past s)) in
      let q : (j.first + w) * z.l ≤ (j.first - 1 + records_for z j.size) * z.l =
      times (j.first + w) (j.first - 1 + records_for z j.size) z.l (omega (arith, A.past s)) in
      written (start_of z (j.first + w)) bs (step-data f scan j z e refl h) (omega arith) (λ x. omega (arith, o.rows s (omega arith)))

  keeps-zero : agrees f scan j ≡ true → (m : ℕ) → j.written ≡ change_of z j + m → m < j.many → Keeps
  keeps-zero e m h k =
      let A = agreed f scan j e in
      let past = A.old_past (omega arith) in
      let n = length-zeros z.l in
      let a : (j.old + m - 1) * z.l + z.l ≡ (j.old + m) * z.l = less (j.old + m) z.l (omega arith) in
      let r : (j.old + m) * z.l ≤ length f = room_in z (length f) (j.old + m) (omega (arith, A.old_within (omega arith))) in
      let p : (j.old - 1) * z.l ≤ (j.old + m - 1) * z.l = times (j.old - 1) (j.old + m - 1) z.l (omega arith) in
      let q : (j.old + m) * z.l ≤ (j.old - 1 + j.many) * z.l = times (j.old + m) (j.old - 1 + j.many) z.l (omega arith) in
      written (start_of z (j.old + m)) (zeros z.l) (step-zero f scan j z e refl m h k) (omega arith) (λ x. omega (arith, o.olds (omega arith)))

  keeps-boot : agrees f scan j ≡ true → (y : Sizes) → step_file f scan j ≡ write f 0 (boot_bytes y) → Keeps
  keeps-boot e y s =
      written 0 (boot_bytes y) s (omega (arith, length-boot y, (agreed f scan j e).booted.long)) (λ x. omega (arith, length-boot y, o.boot))

  keeps_entry : agrees f scan j ≡ true → j.written ≡ count_of z j + 1 → Keeps
  keeps_entry e h =
      let A = agreed f scan j e in
      let n : length (entry_after z j) ≡ z.m = entry_length z A.booted.ranged.shape j k54 in
      let q : entry_byte z j.slot ≡ home_of z j.slot = home-is z j.slot in
      written (home_of z j.slot) (entry_after z j) (step-entry f scan j z e refl h) (omega (arith, home-in A.booted j.slot A.low A.high))
      (λ x. omega (arith, o.entry (omega arith)))

  keeps-file : step_file f scan j ≡ f → Keeps
  keeps-file e = (ap (λ (g : List ℕ). get_or g b 0) e, ap length e)

  keeps : (a : Bool) → agrees f scan j ≡ a → Keeps
  keeps false e = keeps-file (file-refused f scan j e)
  keeps true e =
      ⊎_elim (λ (h : j.written < total_of z j). phases Keeps z j j.written h (keeps-row e) (λ b. keeps-boot e (sizes_after f z j) (step-boot f scan j z e refl b)) (keeps_entry e) (λ b t. keeps-boot e (lowered f z) (step-lower f scan j z e refl b t)) (keeps-zero e))
      (λ (h : total_of z j ≤ j.written). keeps-file (step_past f scan j z e refl h)) (lt-or-ge j.written (total_of z j))

pub step_keeps : StepKeeps
step_keeps f scan j k54 b o = keeps f scan j k54 b o (agrees f scan j) refl
