-- The old run is zeros once a job is confirmed, and after confirmed jobs alone the gaps are what they were: all zeros.
use Rattle.std.specs.Prelude.{Ok}
use Prim.Native.Nat.{ℕ, zero, suc, ◌+◌, ◌-◌, ◌*◌, ◌≤◌, ◌<◌}
use mathlib.Core.Path.{◌≡◌, refl, sym, ◌∙◌, ap, subst}
use mathlib.Core.Bool.{Bool, true, false, cond}
use mathlib.Core.List.{List, [], ◌∷◌}
use mathlib.Core.Logic.{◌≢◌, ⊎_elim}
use native.Mathlib.Omega.{arith}
use native.Mathlib.Nat.{add-mul, lt_of_mul-lt-mul_right}
use lib.ListN.{length, get_or}
use Rattle.lent.specs.Write.{zeros}
use Rattle.lent.proofs.Checks.{ok-same}
use Rattle.lent.proofs.Lists.{lt-or-ge, same_or}
use Rattle.lent.proofs.Parts.{part_at, length_part, part_same}
use Rattle.lent.proofs.Writes.{get_or-zeros, all-zeros}
use Rattle.paper.specs.declared.sizes.Sizes.{Sizes}
use Rattle.paper.specs.declared.sizes.Run.{Run}
use Rattle.paper.specs.declared.job.Job.{Job}
use Rattle.paper.specs.Sizes.{renewed, capacity_of, start_of, home_of}
use Rattle.paper.specs.Index.{run_of, open_of, Sound}
use Rattle.paper.specs.Store.{highest, count_of, records_for, entry_after, sizes_after, counter_after, total_of, job_in}
use Rattle.paper.specs.Step.{is_confirmed, step_answer, rows_at}
use Rattle.paper.specs.Gaps.{record_at, InGap, GapsZero}
use Rattle.paper.proofs.Sizing.{less, times, home-is, home-end, head-long}
use Rattle.paper.proofs.Opening.{sound-open}
use Rattle.paper.proofs.Encoding.{stated_by}
use Rattle.paper.proofs.Free.{rows_in, used-room, scan-lies}
use Rattle.paper.proofs.Gaps.{gaps-true, true-gaps, gaps-false, false-gaps, gaps-is}
use Rattle.paper.proofs.Ready.{Ready, file_at, file-start, along, last-sound, end-run, end-runs, end-keeps, end-zeros}
use Rattle.paper.proofs.Stages.{job_at, stage-file}
use Rattle.paper.proofs.Confirming.{confirm-came}
use Rattle.demands.specs.History.{Op, Whole, begin, scan_of, takes, State, state_after, answer_after, steps_of, Cut, run, Done, Wholes, after}
use Rattle.demands.specs.Reads.{entry_byte}
use Rattle.demands.specs.Said.{Outside}
use Rattle.demands.specs.Gaps.{ConfirmedErased, NoneReadable, GapsExactly, Finished, GapsStay}
use Rattle.demands.proofs.Start.{Starts, starts, total-is, steps-are}
use Rattle.demands.proofs.Survived.{not_yet}
use Rattle.demands.proofs.Telling.{step_keeps}

-- ---- the question

pub gaps-exactly : GapsExactly
gaps-exactly f z o =
    let e = gaps-is f z o in
    record {
      yes_so = λ h. gaps-true f z (ok-same (sym e ∙ h));
      so_yes = λ h. e ∙ ap Ok (true-gaps f z h);
      no_so = λ h. gaps-false f z (ok-same (sym e ∙ h));
      so_no = λ h. e ∙ ap Ok (false-gaps f z h.at h.left);
    }

-- ---- records that are zeros

-- one of many
zero-record : (f : List ℕ) (z : Sizes) (a k r : ℕ) → rows_at f z a k ≡ zeros (k * z.l) → 1 ≤ a → start_of z a + k * z.l ≤ length f → a ≤ r → r < a + k
    → record_at f z r ≡ zeros z.l
zero-record f z a k r e a₁ fits lo hi =
    let p : start_of z a ≤ start_of z r = times (a - 1) (r - 1) z.l (omega arith) in
    let s : (r - 1) * z.l + z.l ≡ r * z.l = less r z.l (omega arith) in
    let t : (a - 1 + k) * z.l ≡ start_of z a + k * z.l = add-mul (a - 1) k z.l in
    let q : r * z.l ≤ (a - 1 + k) * z.l = times r (a - 1 + k) z.l (omega arith) in
    all-zeros z.l (record_at f z r) (length_part (start_of z r) (start_of z r + z.l) f (omega arith) ∙ omega arith)
    (λ i h.
    let o : ℕ = start_of z r - start_of z a + i in
    let w : start_of z a + o ≡ start_of z r + i = omega arith in
    part_at (start_of z r) (start_of z r + z.l) f i (omega arith) ∙ ap (λ (b : ℕ). get_or f b 0) (sym w)
    ∙ sym (part_at (start_of z a) (start_of z a + k * z.l) f o (omega arith)) ∙ ap (λ (x : List ℕ). get_or x o 0) e ∙ get_or-zeros (k * z.l) o)

-- "also requires the zeros"
pub confirmed-erased : ConfirmedErased
confirmed-erased f scan j c =
    let k = confirm-came f scan j (step_answer f scan j) refl c in
    let A = k.facts.agreeing in
    let z : Sizes = k.z in
    record {
      z = z;
      opens = k.facts.opens;
      gone = λ r lo hi.
          let past = A.old_past (omega arith) in
          zero-record f z j.old j.many r k.facts.standing.gone (omega arith)
          (rows_in z (length f) j.old j.many (omega arith) (A.old_within (omega arith))) lo hi;
    }

-- ---- one operation, run to its end

module _ {z : Sizes} {f : List ℕ} {op : Op} {j : Job} (B : Starts z f op j) where
  Y : Ready z f (scan_of op) j
  Y = B.begins.ready

  abbrev F : ℕ → List ℕ
  F i = file_at f (scan_of op) j i

  abbrev E : Run
  E = stated_by (entry_after z j)

  -- bytes that the job writes to at no step
  bytes-stay : (b : ℕ) → Outside z j b → (i : ℕ) → get_or (F i) b 0 ≡ get_or f b 0
  bytes-stay b o zero = ap (λ (g : List ℕ). get_or g b 0) (file-start f (scan_of op) j)
  bytes-stay b o (suc i) =
      let a = along Y i in
      let out : Outside (renewed z a.d a.u a.c) (job_at z f (scan_of op) j i) b = record { boot = o.boot; entry = o.entry; rows = o.rows; olds = o.olds } in
      ap (λ (g : List ℕ). get_or g b 0) (sym (stage-file Y B.begins.agreeing i))
      ∙ (step_keeps (F i) (scan_of op) (job_at z f (scan_of op) j i) B.long b (subst (λ (y : Sizes). Outside y (job_at z f (scan_of op) j i) b) (sym a.sound.booted.reads) out)).0
      ∙ bytes-stay b o i

  module _ (i : ℕ) (done : total_of z j ≤ i) where
    abbrev g : List ℕ
    g = F i

    abbrev y : Sizes
    y = renewed z (sizes_after f z j).d (highest g z) (counter_after z)

    S : Sound g y
    S = last-sound Y i (omega arith)

    -- the records of the scan that was there
    old-zeros : (r : ℕ) → 1 ≤ r → (run_of f z j.slot).first ≤ r → r ≤ (run_of f z j.slot).last → record_at g z r ≡ zeros z.l
    old-zeros r r₁ lo hi =
        let m = Y.many_is in
        let p = Y.old-is in
        let o = scan-lies Y.sound.laid j.slot Y.low Y.high (omega arith) in
        let w = rows_in z (length g) j.old j.many (omega (arith, o.past)) (rw (along Y i).len (omega (arith, o.within, used-room Y.sound.booted))) in
        zero-record g z j.old j.many r (end-zeros Y i done) (omega (arith, o.past)) w (omega arith) (omega (arith, o.past))

    -- a record that neither the old run nor the new one has is as it was
    module _ (r : ℕ) (past : z.n < r) (within : r ≤ z.n + z.d) (new : E.first ≤ r → r ≤ E.last → ⊥)
        (old : (run_of f z j.slot).first ≤ r → r ≤ (run_of f z j.slot).last → ⊥) where
      outside : (b : ℕ) → start_of z r ≤ b → b < start_of z r + z.l → Outside z j b
      outside b lo hi =
          let s : (r - 1) * z.l + z.l ≡ r * z.l = less r z.l (omega arith) in
          let n : z.n * z.l ≤ start_of z r = times z.n (r - 1) z.l (omega arith) in
          let h = head-long z Y.sound.booted.ranged.shape in
          let q : entry_byte z j.slot ≡ home_of z j.slot = home-is z j.slot in
          let k : (j.first - 1 + count_of z j) * z.l ≡ start_of z j.first + count_of z j * z.l = add-mul (j.first - 1) (count_of z j) z.l in
          record {
            boot = omega arith;
            entry = λ x. omega (arith, home-end z Y.sound.booted.ranged.shape j.slot Y.low Y.high);
            rows = λ t x.
                let c : count_of z j ≡ records_for z j.size = ap (λ (v : Bool). cond v (records_for z j.size) 0) t in
                let v : E.first - 1 < r = lt_of_mul-lt-mul_right z.l (omega (arith, Y.from)) in
                let l : E.last ≤ r - 1 = ⊎_elim (λ (a : E.last < r). omega arith) (λ (a : r ≤ E.last). absurd (new (omega arith) a)) (lt-or-ge E.last r) in
                omega (arith, Y.to, k, times E.last (r - 1) z.l l, ap (λ (m : ℕ). (j.first - 1 + m) * z.l) c);
            olds = λ x.
                let m = Y.many_is in
                let p = Y.old-is in
                let v : j.old - 1 < r = lt_of_mul-lt-mul_right z.l (omega arith) in
                let l : j.old - 1 + j.many ≤ r - 1 =
                ⊎_elim (λ (a : (run_of f z j.slot).last < r). omega arith) (λ (a : r ≤ (run_of f z j.slot).last). absurd (old (omega arith) a)) (lt-or-ge (run_of f z j.slot).last r) in
                omega (arith, times (j.old - 1 + j.many) (r - 1) z.l l);
          }

      record-stays : record_at g z r ≡ record_at f z r
      record-stays = part_same f g (start_of z r) (start_of z r + z.l) (along Y i).len (λ b lo hi. bytes-stay b (outside b lo hi) i)

    zeros-again : GapsZero f z → GapsZero g y
    zeros-again G = record { zero = again }
      where
        -- of all slots, those above U are empty
        nobody : (r : ℕ) → InGap g y r → (s : ℕ) → 1 ≤ s → s ≤ capacity_of z → (run_of g z s).first ≤ r → r ≤ (run_of g z s).last → ⊥
        nobody r h s a b lo hi =
            ⊎_elim (λ (k : highest g z < s). omega (arith, S.laid.above s k b, h.past)) (λ (k : s ≤ highest g z). h.unlisted s a k lo hi) (lt-or-ge (highest g z) s)

        other : (s : ℕ) → 1 ≤ s → s ≤ capacity_of z → s ≢ j.slot → run_of g z s ≡ run_of f z s
        other s a b ne = (end-keeps Y i (omega arith)).runs s a b ∙ end-runs Y s a b ne

        new : (r : ℕ) → InGap g y r → E.first ≤ r → r ≤ E.last → ⊥
        new r h lo hi =
            let e : run_of g z j.slot ≡ E = (end-keeps Y i (omega arith)).runs j.slot Y.low Y.high ∙ end-run Y in
            nobody r h j.slot Y.low Y.high (omega (arith, ap (λ (x : Run). x.first) e)) (omega (arith, ap (λ (x : Run). x.last) e))

        was : (r : ℕ) → InGap g y r → ((run_of f z j.slot).first ≤ r → r ≤ (run_of f z j.slot).last → ⊥) → r ≤ z.n + z.d → InGap f z r
        was r h old w =
            record {
              past = h.past;
              within = w;
              unlisted = λ s a b lo hi.
                  let c : s ≤ capacity_of z = omega (arith, Y.sound.booted.ranged.used) in
                  ⊎_elim (λ (q : s ≡ j.slot). let e = ap (λ (t : ℕ). run_of f z t) q in old (omega (arith, ap (λ (x : Run). x.first) e)) (omega (arith, ap (λ (x : Run). x.last) e)))
                  (λ (q : s ≢ j.slot).
                  let e = other s a c q in
                  nobody r h s a c (omega (arith, ap (λ (x : Run). x.first) e)) (omega (arith, ap (λ (x : Run). x.last) e)))
                  (same_or s j.slot);
            }

        kept : (r : ℕ) → InGap g y r → ((run_of f z j.slot).first ≤ r → r ≤ (run_of f z j.slot).last → ⊥) → record_at g z r ≡ zeros z.l
        kept r h old =
            ⊎_elim (λ (w : z.n + z.d < r). let x = Y.near r w h.within in absurd (new r h x.0 x.1))
            (λ (w : r ≤ z.n + z.d). record-stays r h.past w (new r h) old ∙ G.zero r (was r h old w))
            (lt-or-ge (z.n + z.d) r)

        again : (r : ℕ) → InGap g y r → record_at g z r ≡ zeros z.l
        again r h =
            ⊎_elim (λ (a : r < (run_of f z j.slot).first). kept r h (λ x. omega arith))
            (λ (a : (run_of f z j.slot).first ≤ r).
            ⊎_elim (λ (b : (run_of f z j.slot).last < r). kept r h (λ x v. omega arith)) (λ (b : r ≤ (run_of f z j.slot).last). old-zeros r (omega (arith, h.past)) a b)
            (lt-or-ge (run_of f z j.slot).last r))
            (lt-or-ge r (run_of f z j.slot).first)

-- ---- every operation, and a history of them

file-is : (f : List ℕ) (z : Sizes) (o : open_of f ≡ Ok z) (op : Op) (w : Whole op) (t : takes f op ≡ true) (i : ℕ)
    → (state_after f op i).file ≡ file_at f (scan_of op) (job_in (begin f op)) i
file-is f z o op w t i = ap (λ (s : State). s.file) (steps-are (starts f z o op w t).begins i)

pub none-readable : NoneReadable
none-readable f z o op w t i c r r₁ lo hi =
    let B = starts f z o op w t in
    ap (λ (g : List ℕ). record_at g z r) (file-is f z o op w t i) ∙ old-zeros B i (omega (arith, total-is B, not_yet f z o op w t i c)) r r₁ lo hi

-- the file opens, and its gaps are zeros
record Clean (g : List ℕ) : Type 0 where
  z : Sizes
  opens : open_of g ≡ Ok z
  gaps : GapsZero g z

clean-one : (f : List ℕ) (z : Sizes) → open_of f ≡ Ok z → GapsZero f z → (op : Op) → Whole op → (cut : Cut)
    → (takes f op ≡ true → is_confirmed (answer_after f op (steps_of cut)) ≡ true) → Clean (run f op cut)
unfolding run
clean-one f z o G op w cut c = go (takes f op) refl
  where
    go : (t : Bool) → takes f op ≡ t → Clean (cond t (state_after f op (steps_of cut)).file f)
    go true t =
        let B = starts f z o op w t in
        let d : total_of z (job_in (begin f op)) ≤ steps_of cut = omega (arith, total-is B, not_yet f z o op w t (steps_of cut) (c t)) in
        subst Clean (sym (file-is f z o op w t (steps_of cut)))
        (record { z = _; opens = sound-open (S B (steps_of cut) d); gaps = zeros-again B (steps_of cut) d G })
    go false t = record { z = z; opens = o; gaps = G }

clean_all : (os : List Done) (f : List ℕ) (z : Sizes) → open_of f ≡ Ok z → GapsZero f z → Wholes os → Finished f os → Clean (after f os)
clean_all [] f z o G w h = record { z = z; opens = o; gaps = G }
clean_all (x ∷ os) f z o G w h =
    let one = clean-one f z o G x.op w.0 x.cut h.0 in
    clean_all os (run f x.op x.cut) one.z one.opens one.gaps w.1 h.1

pub gaps-stay : GapsStay
gaps-stay f z o e os w h =
    let a = clean_all os f z o ((gaps-exactly f z o).yes_so e) w h in
    (gaps-exactly (after f os) a.z a.opens).so_yes a.gaps
