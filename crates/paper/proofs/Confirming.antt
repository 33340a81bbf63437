-- What a step that answers Saved or Cleared has found in the file lent to it.
use Rattle.std.specs.Prelude.{Ok, Err}
use Prim.Native.Nat.{ℕ, ◌+◌, ◌-◌, ◌*◌, ◌≤◌}
use mathlib.Core.Path.{◌≡◌, refl, sym, ◌∙◌, ap, subst}
use mathlib.Core.Bool.{Bool, true, false, cond}
use mathlib.Core.List.{List, []}
use native.Mathlib.Omega.{arith}
use native.Mathlib.Nat.{add-mul, zero-mul}
use borrow.Author.Tests.{ltb-false}
use lib.ListN.{length}
use Rattle.lent.specs.Part.{part}
use Rattle.lent.specs.Write.{pad, zeros}
use Rattle.lent.proofs.Lists.{true≢false}
use Rattle.lent.proofs.Parts.{part_none}
use Rattle.paper.specs.declared.sizes.Sizes.{Sizes}
use Rattle.paper.specs.declared.sizes.Run.{Run}
use Rattle.paper.specs.declared.refusal.Refusal.TheVariants.{Disagrees, Differs}
use Rattle.paper.specs.Answers.{Opened, StepAnswer}
use Rattle.paper.specs.declared.job.Job.{Job}
use Rattle.paper.specs.declared.job.Step.TheVariants.{Wrote, Saved, Cleared}
use Rattle.paper.specs.Sizes.{sizes_of, start_of}
use Rattle.paper.specs.Index.{run_of, shown_of, entry_at, open_of}
use Rattle.paper.specs.Entry.{entry_bytes}
use Rattle.paper.specs.Store.{records_for, run_from, count_of, total_of}
use Rattle.paper.specs.Step.{agrees, has_left, write_at, stands, confirmed, is_confirmed, confirm_of, step_answer, Agreeing, Standing}
use Rattle.paper.proofs.Opening.{open-reads}
use Rattle.paper.proofs.Encoding.{stated_by, entry-run, entry-states, zeros-state}
use Rattle.paper.proofs.Agreement.{agreed, stood}

-- job and file agree, no write is left, the file opens, and it holds what the job and the scan give
pub record Confirms (f scan : List ℕ) (j : Job) (z : Sizes) : Type 0 where
  pub agreeing : Agreeing f scan j z
  pub done : j.written ≡ total_of z j
  pub opens : open_of f ≡ Ok z
  pub standing : Standing f scan j z

-- a save is confirmed by Saved, a clear by Cleared
abbrev ending : Bool → ℕ → ℕ → StepAnswer
ending saves r c = cond saves (Ok (Saved r c)) (Ok (Cleared r c))

abbrev is_saved : StepAnswer → Bool
is_saved (Ok (Wrote r count)) = false
is_saved (Ok (Saved r count)) = true
is_saved (Ok (Cleared r count)) = false
is_saved (Err r) = false

ending-confirms : (saves : Bool) (r c : ℕ) → is_confirmed (ending saves r c) ≡ true
ending-confirms true r c = refl
ending-confirms false r c = refl

ending-saves : (saves : Bool) (r c : ℕ) → is_saved (ending saves r c) ≡ saves
ending-saves true r c = refl
ending-saves false r c = refl

never : (x s : StepAnswer) → is_confirmed x ≡ false → is_confirmed s ≡ true → x ≡ s → ⊥
never x s p q e = true≢false q (ap is_confirmed (sym e) ∙ p)

module _ (f scan : List ℕ) (j : Job) where
  pub record Came (s : StepAnswer) : Type 0 where
    pub z : Sizes
    pub facts : Confirms f scan j z
    pub is : s ≡ confirmed j

  facts : (z : Sizes) → agrees f scan j ≡ true → has_left (sizes_of f) j ≡ false → open_of f ≡ Ok z → stands f scan j z ≡ true → Confirms f scan j z
  facts z p q e t =
      let r : sizes_of f ≡ z = open-reads f e in
      let a : Agreeing f scan j z = subst (Agreeing f scan j) r (agreed f scan j p) in
      let n : total_of z j ≤ j.written = subst (λ (y : Sizes). total_of y j ≤ j.written) r (ltb-false j.written (total_of (sizes_of f) j) q) in
      record { agreeing = a; done = omega (arith, a.left); opens = e; standing = stood f scan j z t }

  stood-came : (z : Sizes) (b : Bool) (s : StepAnswer) → (b ≡ true → Confirms f scan j z) → cond b (confirmed j) (Err Differs) ≡ s → is_confirmed s ≡ true → Came s
  stood-came z true s k h c = record { z = z; facts = k refl; is = sym h }
  stood-came z false s k h c = absurd (never (Err Differs) s refl c h)

  -- by what the step came to
  came : (a left : Bool) (o : Opened) (s : StepAnswer) → agrees f scan j ≡ a → has_left (sizes_of f) j ≡ left → open_of f ≡ o
      → cond a (cond left (Ok (Wrote (write_at f (sizes_of f) scan j).record_no (j.written + 1))) (confirm_of f scan j o)) (Err Disagrees) ≡ s
      → is_confirmed s ≡ true → Came s
  came false left o s p q e h c = absurd (never (Err Disagrees) s refl c h)
  came true true o s p q e h c = absurd (never (Ok (Wrote (write_at f (sizes_of f) scan j).record_no (j.written + 1))) s refl c h)
  came true false (Err r) s p q e h c = absurd (never (Err r) s refl c h)
  came true false (Ok z) s p q e h c = stood-came z (stands f scan j z) s (facts z p q e) h c

  pub confirm-came : (s : StepAnswer) → step_answer f scan j ≡ s → is_confirmed s ≡ true → Came s
  unfolding step_answer
  confirm-came s h c = came (agrees f scan j) (has_left (sizes_of f) j) (open_of f) s refl refl refl h c

  -- Saved answers a save, and Cleared a clear
  pub record Ended (saves : Bool) : Type 0 where
    pub z : Sizes
    pub facts : Confirms f scan j z
    pub is : j.saves ≡ saves

  pub ended : (saves : Bool) (r c : ℕ) → step_answer f scan j ≡ ending saves r c → Ended saves
  ended saves r c e =
      let k = confirm-came (ending saves r c) e (ending-confirms saves r c) in
      record { z = k.z; facts = k.facts; is = sym (ending-saves j.saves 0 j.written) ∙ ap is_saved (sym k.is) ∙ ending-saves saves r c }

-- ---- what the slot then shows

module _ {f scan : List ℕ} {j : Job} {z : Sizes} (C : Confirms f scan j z) where
  m₁ : 8 ≤ z.m
  m₁ = omega (arith, C.agreeing.booted.ranged.shape.m_low)

  module _ (saves : j.saves ≡ true) where
    abbrev K : ℕ
    K = records_for z (length scan)

    pub saved-count : count_of z j ≡ records_for z (length scan)
    saved-count = ap (λ (b : Bool). cond b (records_for z j.size) 0) saves ∙ ap (records_for z) (sym C.agreeing.size)

    pub saved-entry : entry_at f z j.slot ≡ entry_bytes z (run_from j.first (records_for z (length scan))) j.about
    saved-entry =
        C.standing.entry ∙ ap (λ (b : Bool). cond b (entry_bytes z (run_from j.first (count_of z j)) j.about) (zeros z.m)) saves
        ∙ ap (λ (k : ℕ). entry_bytes z (run_from j.first k) j.about) saved-count

    pub saved-run : run_of f z j.slot ≡ run_from j.first (records_for z (length scan))
    saved-run =
        let w = C.agreeing.within saves in
        let k = saved-count in
        sym (entry-run f z j.slot C.agreeing.current m₁) ∙ ap stated_by saved-entry
        ∙ entry-states z (run_from j.first K) j.about (record { first_fits = omega arith; last_fits = omega arith })

    rows : part (start_of z j.first) (start_of z j.first + K * z.l) f ≡ pad (K * z.l) scan
    rows =
        ap (λ (k : ℕ). part (start_of z j.first) (start_of z j.first + k * z.l) f) (sym saved-count)
        ∙ C.standing.rows ∙ ap (λ (k : ℕ). pad (k * z.l) (cond j.saves scan [])) saved-count
        ∙ ap (λ (b : Bool). pad (K * z.l) (cond b scan [])) saves

    pub saved-shown : shown_of f z j.slot ≡ pad (records_for z (length scan) * z.l) scan
    saved-shown =
        let e : j.first + K - 1 ≡ j.first - 1 + K = omega (arith, C.agreeing.past saves) in
        ap (λ (r : Run). part (start_of z r.first) (r.last * z.l) f) saved-run
        ∙ ap (λ (b : ℕ). part (start_of z j.first) b f) (ap (λ (x : ℕ). x * z.l) e ∙ add-mul (j.first - 1) K z.l) ∙ rows

  module _ (clears : j.saves ≡ false) where
    pub cleared-entry : entry_at f z j.slot ≡ zeros z.m
    cleared-entry =
        C.standing.entry ∙ ap (λ (b : Bool). cond b (entry_bytes z (run_from j.first (count_of z j)) j.about) (zeros z.m)) clears

    pub cleared-run : run_of f z j.slot ≡ record { first = 0; last = 0 }
    cleared-run = sym (entry-run f z j.slot C.agreeing.current m₁) ∙ ap stated_by cleared-entry ∙ zeros-state z.m

    pub cleared-shown : shown_of f z j.slot ≡ []
    cleared-shown =
        ap (λ (r : Run). part (start_of z r.first) (r.last * z.l) f) cleared-run
        ∙ part_none (start_of z 0) (0 * z.l) f (omega (arith, zero-mul z.l))
