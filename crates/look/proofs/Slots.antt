-- What is found at a slot, from plain facts and back to them.
use Rattle.std.specs.Prelude.{Result, Ok, Err}
use Prim.Native.Nat.{ℕ, ◌+◌, ◌*◌, ◌≤◌}
use mathlib.Core.Path.{◌≡◌, refl, sym, ◌∙◌, ap, subst}
use mathlib.Core.Bool.{true, false}
use mathlib.Core.List.{List, [], ◌∷◌}
use native.Mathlib.Nat.{mul-le-mul_right, add-mul}
use native.Mathlib.Omega.{arith}
use lib.ListN.{length}
use borrow.Author.Tests.{leb-true, le-leb, not-false}
use Rattle.lent.specs.Lists.{all}
use Rattle.lent.specs.Checks.{Check, clear, fires, fired, judge}
use Rattle.lent.proofs.Lists.{all_true, true-all, no_all}
use Rattle.lent.proofs.Checks.{clear-all, judge-clear, judge-fires, judged-ok, judged-err}
use Rattle.paper.specs.declared.sizes.Sizes.{Sizes}
use Rattle.paper.specs.declared.sizes.Run.{Run}
use Rattle.paper.specs.declared.refusal.Refusal.{Refusal}
use Rattle.paper.specs.declared.refusal.Refusal.TheVariants.{NoSuchSlot, EmptySlot}
use Rattle.paper.specs.Sizes.{sizes_of, capacity_of, home_of, Slotted}
use Rattle.paper.specs.Index.{run_of, empty, open_of, Lies, Sound}
use Rattle.paper.specs.Look.{slot_tests, no_slot, no_scan, slot_checks}
use Rattle.paper.proofs.Sizing.{bytes_small, home-end, home-in, slotted}
use Rattle.paper.proofs.Opening.{open-reads, open-sound, then-clear, full-facts, lies-data, inside-all}
use Rattle.look.specs.Slot.{held_of, Within}
use Rattle.look.proofs.Calls.{call_opens, call-refused}

abbrev own : List ℕ → ℕ → Sizes → List (Check Refusal)
own f s z = no_slot z s ∷ no_scan (run_of f z s) ∷ []

-- ---- each answer of the search

module _ (f : List ℕ) (s : ℕ) where
  abbrev scan : Sizes → Result (Sizes × Run) Refusal
  scan z = Ok (z, run_of f z s)

  pub find-refused : {r : Refusal} → open_of f ≡ Err r → Err r ≡ held_of f s
  unfolding held_of
  find-refused o = call-refused f Err (own f s) scan o

  module _ {z : Sizes} (o : open_of f ≡ Ok z) where
    held-opens : held_of f s ≡ judge Err (own f s z) (scan z)
    unfolding held_of
    held-opens = call_opens f Err (own f s) scan o

    pub find-outside : (1 ≤ s → s ≤ capacity_of z → ⊥) → Err NoSuchSlot ≡ held_of f s
    find-outside h =
        let e : all (slot_tests z s) ≡ false = sym (no_all (slot_tests z s) (λ t. h (leb-true _ _ t.0) (leb-true _ _ t.1.0))) in
        rw (held-opens, e)

    module _ (low : 1 ≤ s) (high : s ≤ capacity_of z) {r : Run} (p : r ≡ run_of f z s) where
      inside : all (slot_tests z s) ≡ true
      inside = true-all (slot_tests z s) (le-leb _ _ low, (le-leb _ _ high, tt))

      pub find-empty : empty r ≡ true → Err EmptySlot ≡ held_of f s
      find-empty h = rw (held-opens, inside, ← p, h)

      pub find-scan : empty r ≡ false → Ok (z, r) ≡ held_of f s
      find-scan h = rw (held-opens, inside, ← p, h)

-- ---- what `held_of f s ≡ Ok (z, r)` says

pub record Holding (f : List ℕ) (s : ℕ) (z : Sizes) (r : Run) : Type 0 where
  pub opens : open_of f ≡ Ok z
  pub clears : fired (slot_checks f s) ≡ clear
  pub low : 1 ≤ s
  pub high : s ≤ capacity_of z
  pub run : run_of f z s ≡ r
  pub full : empty r ≡ false

pub clear-holding : (f : List ℕ) (s : ℕ) → fired (slot_checks f s) ≡ clear → Holding f s (sizes_of f) (run_of f (sizes_of f) s)
clear-holding f s e =
    let p = then-clear f (own f s (sizes_of f)) e in
    let c = clear-all (own f s (sizes_of f)) p.1 in
    let t = all_true (slot_tests (sizes_of f) s) (not-false _ c.0) in
    record { opens = p.0; clears = e; low = leb-true _ _ t.0; high = leb-true _ _ t.1.0; run = refl; full = c.1.0 }

module _ (f : List ℕ) (s : ℕ) where
  pub held : {z : Sizes} {r : Run} → held_of f s ≡ Ok (z, r) → Holding f s z r
  unfolding held_of
  held {z} {r} e =
      let p = judged-ok (slot_checks f s) (sizes_of f, run_of f (sizes_of f) s) e in
      subst (λ (q : Sizes × Run). Holding f s q.0 q.1) p.1 (clear-holding f s p.0)

  pub held-fires : {q : Refusal} → held_of f s ≡ Err q → fired (slot_checks f s) ≡ fires q
  unfolding held_of
  held-fires e = judged-err (slot_checks f s) (sizes_of f, run_of f (sizes_of f) s) e

  -- every call over the same checks
  pub refused-call : {A : Type 0} (refuse : Refusal → A) (a : A) {q : Refusal} → held_of f s ≡ Err q → refuse q ≡ judge refuse (slot_checks f s) a
  refused-call refuse a {q} e = sym (judge-fires refuse (slot_checks f s) a q (held-fires e))

  module _ {z : Sizes} {r : Run} (h : Holding f s z r) where
    pub held-call : {A : Type 0} (refuse : Refusal → A) (a : Sizes → Run → A)
        → a z r ≡ judge refuse (slot_checks f s) (a (sizes_of f) (run_of f (sizes_of f) s))
    held-call refuse a =
        sym
        (judge-clear refuse (slot_checks f s) (a (sizes_of f) (run_of f (sizes_of f) s)) h.clears
        ∙ subst (λ (y : Sizes). a (sizes_of f) (run_of f (sizes_of f) s) ≡ a y (run_of f y s)) (open-reads f h.opens) refl ∙ ap (a z) h.run)

    -- where the entry and the records lie
    sound : Sound f z
    sound = open-sound h.opens

    pub entry-slotted : Slotted z s
    entry-slotted = slotted sound.booted s h.low h.high

    pub entry_in : home_of z s + 62 ≤ length f
    entry_in = omega (arith, home-in sound.booted s h.low h.high, sound.booted.ranged.shape.m_low)

    pub entry-small : home_of z s ≤ 4096000000
    entry-small = omega (arith, home-end z sound.booted.ranged.shape s h.low h.high, add-mul z.n z.d z.l, bytes_small z sound.booted.ranged)

    pub records-within : Within z r
    records-within =
        let l : Lies z r = subst (λ (x : Run). Lies z x) h.run (inside-all sound.laid s h.low h.high) in
        let d = lies-data z r l (full-facts r h.full) in
        let e : r.last * z.l ≤ (z.n + z.d) * z.l = mul-le-mul_right z.l d.high in
        record {
          low = omega (arith, d.low);
          order = mul-le-mul_right z.l (omega (arith, d.order));
          end = omega (arith, bytes_small z sound.booted.ranged);
        }
