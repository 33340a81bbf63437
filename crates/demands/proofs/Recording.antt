-- A step that wrote changed one record, the one that it names.
use Rattle.std.specs.Prelude.{Ok}
use Prim.Native.Nat.{ℕ, ◌+◌, ◌-◌, ◌*◌, ◌≤◌, ◌<◌}
use mathlib.Core.Path.{◌≡◌, refl, sym, ◌∙◌, ap, subst}
use mathlib.Core.Bool.{Bool, true, false}
use mathlib.Core.List.{List}
use mathlib.Core.Logic.{⊎_elim}
use native.Mathlib.Omega.{arith}
use native.Mathlib.Nat.{lt_of_mul-lt-mul_right}
use borrow.Author.Tests.{ltb-true, ltb-false}
use lib.ListN.{length, take}
use Rattle.lent.proofs.Lists.{true≢false, lt-or-ge}
use Rattle.lent.proofs.Writes.{length-write, write-before, write-after}
use Rattle.paper.specs.declared.sizes.Sizes.{Sizes}
use Rattle.paper.specs.declared.job.Job.{Job}
use Rattle.paper.specs.declared.job.Step.TheVariants as step
use Rattle.paper.specs.Sizes.{sizes_of, record_of, start_of, room_of}
use Rattle.paper.specs.Store.{Write, perform, count_of, change_of, total_of}
use Rattle.paper.specs.Step.{is_confirmed, agrees, has_left, write_at, placed, step_file, step_job, step_answer}
use Rattle.paper.proofs.Sizing.{less, times, home-is, home-end, head_in}
use Rattle.paper.proofs.Free.{room_in}
use Rattle.paper.proofs.Writes.{length-writes, phases, writes-row, writes-boot, writes-entry, writes_lower, writes-zero, row-saves}
use Rattle.paper.proofs.Records.{InRecord, writes-in-record}
use Rattle.paper.proofs.Agreement.{agreed, step-file, step_past, job-head, job-past, answer-wrote, job-refused, answer-refused}
use Rattle.demands.specs.OneRecord.{ButRecord, Named, Renewed, OneRecord}
use Rattle.demands.proofs.Telling.{wrote-next}

-- ---- a write within its record

-- r is a record of f
record InFile (z : Sizes) (f : List ℕ) (r : ℕ) : Type 0 where
  low : 1 ≤ r
  inside : start_of z r + z.l ≤ length f

write-one : (f : List ℕ) (z : Sizes) (w : Write) → InFile z f w.record_no → InRecord z w → ButRecord f (perform f w) z w.record_no
write-one f z w l i =
    record {
      low = l.low;
      inside = l.inside;
      others = λ b h.
          ⊎_elim (λ (x : b < w.at). write-before f w.at w.bytes (omega (arith, i.to, l.inside)) b x)
          (λ (x : w.at ≤ b). write-after f w.at w.bytes (omega (arith, i.to, l.inside)) b (omega (arith, i.from, i.to, h (omega (arith, i.from)))))
          (lt-or-ge b w.at);
      long = length-write f w.at w.bytes (omega (arith, i.to, l.inside));
    }

-- ---- the record of every write

module _ (f scan : List ℕ) (j : Job) (e : agrees f scan j ≡ true) where
  abbrev z : Sizes
  z = sizes_of f

  lies-data : (r : ℕ) → 1 ≤ r → r ≤ room_of z (length f) → InFile z f r
  lies-data r a b = record { low = a; inside = omega (arith, less r z.l a, room_in z (length f) r b) }

  lies-index : (r : ℕ) → 1 ≤ r → r ≤ z.n → InFile z f r
  lies-index r a b =
      record { low = a; inside = omega (arith, less r z.l a, times r z.n z.l b, head_in (agreed f scan j e).booted) }

  lies-entry : InFile z f (record_of z j.slot)
  lies-entry =
      let A = agreed f scan j e in
      let s = A.booted.ranged.shape in
      let r : ℕ = record_of z j.slot in
      let k : (r - 1) * z.l < z.n * z.l = omega (arith, home-is z j.slot, home-end z s j.slot A.low A.high, s.m_low) in
      lies-index r (omega arith) (omega (arith, lt_of_mul-lt-mul_right z.l k))

  lies-first : InFile z f 1
  lies-first = lies-index 1 (omega arith) (omega (arith, (agreed f scan j e).booted.ranged.shape.n_low))

  abbrev At : Write → Type 0
  At w = InFile z f w.record_no

  lies-row : j.written < count_of z j → At (write_at f z scan j)
  lies-row h =
      let A = agreed f scan j e in
      let s : j.saves ≡ true = row-saves z j (omega arith) in
      subst At (sym (writes-row f z j scan j.written h)) (lies-data (j.first + j.written) (omega (arith, A.past s)) (omega (arith, A.within s)))

  lies-zero : (m : ℕ) → j.written ≡ change_of z j + m → m < j.many → At (write_at f z scan j)
  lies-zero m q h =
      let A = agreed f scan j e in
      subst At (sym (writes-zero f z j scan j.written m q h))
      (lies-data (j.old + m) (omega (arith, A.old_past (omega arith))) (omega (arith, A.old_within (omega arith))))

  lies_at : j.written < total_of z j → At (write_at f z scan j)
  lies_at h =
      phases (At (write_at f z scan j)) z j j.written h lies-row
      (λ b. subst At (sym (writes-boot f z j scan j.written b)) lies-first)
      (λ b. subst At (sym (writes-entry f z j scan j.written b)) lies-entry)
      (λ b t. subst At (sym (writes_lower f z j scan j.written b t)) lies-first)
      lies-zero

  agreed-record : length j.about ≡ 54 → j.written < total_of z j → ButRecord f (step_file f scan j) z (write_at f z scan j).record_no
  agreed-record k h =
      subst (λ (g : List ℕ). ButRecord f g z (write_at f z scan j).record_no) (sym (step-file f scan j z e refl))
      (write-one f z (write_at f z scan j) (lies_at h)
      (writes-in-record z (agreed f scan j e).booted.ranged.shape f j scan k j.written (omega (arith, length-writes f z j scan))))

-- ---- the job

renewed : (j k : Job) (count : ℕ) (head : List ℕ) → k ≡ placed j count head → Renewed j k count head
renewed j k count head e =
    subst (λ (x : Job). Renewed j x count head) (sym e)
    (record {
      saves = refl;
      lowers = refl;
      slot = refl;
      size = refl;
      span = refl;
      first = refl;
      written = refl;
      old = refl;
      many = refl;
      boot = refl;
      about = refl;
    })

-- ---- what the answer tells

-- job and file agree, and a write is left
record Writing (f scan : List ℕ) (j : Job) : Type 0 where
  agree : agrees f scan j ≡ true
  left : j.written < total_of (sizes_of f) j

module _ (f scan : List ℕ) (j : Job) where
  -- so it is where a step wrote: its job has moved on, and none else moves one
  writing : (r count : ℕ) → step_answer f scan j ≡ Ok (step.Wrote r count) → Writing f scan j
  writing r count e = go (agrees f scan j) (has_left (sizes_of f) j) refl refl
    where
      moves : step_job f scan j ≡ j → ⊥
      moves k = let x = wrote-next f scan j r count e in omega (arith, x.counts, x.job, ap (λ (i : Job). i.written) k)

      go : (a left : Bool) → agrees f scan j ≡ a → has_left (sizes_of f) j ≡ left → Writing f scan j
      go false left p q = absurd (moves (job-refused f scan j p))
      go true false p q = absurd (moves (job-past f scan j (sizes_of f) p refl (ltb-false j.written (total_of (sizes_of f) j) q)))
      go true true p q = record { agree = p; left = ltb-true j.written (total_of (sizes_of f) j) q }

  record-named : (r count : ℕ) → step_answer f scan j ≡ Ok (step.Wrote r count) → Named f scan j r count
  record-named r count e =
      let w = writing r count e in
      let x = wrote-next f scan j r count e in
      record { listed = omega (arith, w.left, length-writes f (sizes_of f) j scan); record_is = x.record_is; counts = omega (arith, x.counts) }

  job-renewed : (r count : ℕ) → step_answer f scan j ≡ Ok (step.Wrote r count) → Renewed j (step_job f scan j) count (take 32 (step_file f scan j))
  job-renewed r count e =
      let w = writing r count e in
      let c = (wrote-next f scan j r count e).counts in
      renewed j (step_job f scan j) count (take 32 (step_file f scan j))
      (job-head f scan j (sizes_of f) w.agree refl w.left ∙ ap (λ (k : ℕ). placed j k (take 32 (step_file f scan j))) (sym c))

  confirm-kept : is_confirmed (step_answer f scan j) ≡ true → (step_file f scan j ≡ f) × (step_job f scan j ≡ j)
  confirm-kept c = go (agrees f scan j) (has_left (sizes_of f) j) refl refl
    where
      go : (a left : Bool) → agrees f scan j ≡ a → has_left (sizes_of f) j ≡ left → (step_file f scan j ≡ f) × (step_job f scan j ≡ j)
      go false left p q = absurd (true≢false c (ap is_confirmed (answer-refused f scan j p)))
      go true true p q =
          absurd (true≢false c (ap is_confirmed (answer-wrote f scan j (sizes_of f) p refl (ltb-true j.written (total_of (sizes_of f) j) q))))
      go true false p q =
          let h : total_of (sizes_of f) j ≤ j.written = ltb-false j.written (total_of (sizes_of f) j) q in
          (step_past f scan j (sizes_of f) p refl h, job-past f scan j (sizes_of f) p refl h)

pub one_record : OneRecord
one_record =
    record {
      wrote = λ f scan j k r count e.
          let w = writing f scan j r count e in
          subst (ButRecord f (step_file f scan j) (sizes_of f)) (sym (wrote-next f scan j r count e).record_is) (agreed-record f scan j w.agree k w.left);
      named = record-named;
      job = job-renewed;
      confirmed = confirm-kept;
    }
