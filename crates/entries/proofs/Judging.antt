-- The answers of the index's judgement, one law for each return, and the laws of the loops over the slots.
use Rattle.std.specs.Prelude.{Ok, Err}
use Prim.Native.Nat.{ℕ, ◌+◌, ◌-◌, ◌≤◌, ◌<◌}
use mathlib.Core.Path.{◌≡◌, refl, sym, ◌∙◌, ap}
use mathlib.Core.Bool.{Bool, true, false, not}
use mathlib.Core.List.{List}
use native.Mathlib.Decide.{dec_le}
use native.Mathlib.Omega.{arith}
use borrow.Author.Tests.{le-ltb, lt-ltb, not-false}
use Rattle.std.specs.Prelude.{Option, Some, None as Nothing, is_some, zero, suc, ltb}
use Rattle.lent.specs.Least.{least, some_number, None}
use Rattle.lent.proofs.Founds.{was-found, was-none}
use Rattle.paper.specs.declared.sizes.Sizes.{Sizes}
use Rattle.paper.specs.declared.sizes.Run.{Run}
use Rattle.paper.specs.declared.refusal.Refusal.TheVariants.{BadEntry, AboveUse, SharedRecord}
use Rattle.paper.specs.Sizes.{capacity_of}
use Rattle.paper.specs.Index.{run_of, empty, sharer, bad_at, above_at, shared_at, index_of}
use Rattle.paper.proofs.Opening.{empty-facts, facts_above}
use Rattle.entries.specs.Row.{Filled, Bare}

-- slot i + 1, whose run was read: what was found among the smaller slots
module _ (run : ℕ → Run) (i : ℕ) (a : Run) (e : a ≡ run (i + 1)) where
  pub shared-is : {o : Option ℕ} → o ≡ some_number (sharer run a i) → shared_at run (i + 1) ≡ is_some o
  unfolding shared_at
  shared-is f = let q : i + 1 - 1 ≡ i = omega arith in rw (q, ← e, f) (go (sharer run a i))
    where
      go : (k : ℕ) → ltb 0 k ≡ is_some (some_number k)
      go zero = refl
      go (suc k) = lt-ltb 0 (suc k) (omega arith)

-- ---- slots that are empty

module _ (f : List ℕ) (z : Sizes) where
  pub bare-none : (i : ℕ) → Bare f z i i
  bare-none i = record { low = omega arith; empty = λ s a b. absurd (omega arith) }

  pub bare-more : (i j k : ℕ) → Bare f z i j → Bare f z j k → Bare f z i k
  bare-more i j k a b = record { low = omega (arith, a.low, b.low); empty = λ s l m. go s l m (dec_le s j) }
    where
      go : (s : ℕ) → i < s → s ≤ k → Dec (s ≤ j) → (run_of f z s).first + (run_of f z s).last ≡ 0
      go s l m (yes h) = a.empty s l h
      go s l m (no h) = b.empty s (omega arith) m

  pub bare-one : (i j a : ℕ) → Filled f z j a → j ≡ i + 1 → a ≡ 0 → Bare f z i j
  bare-one i j a t e h = let g = t.none h in record { low = omega arith; empty = λ s l m. let q : s ≡ j = omega arith in rw q g }

  -- one more after those that are empty
  pub one_up : {i s x y : ℕ} → (x ≡ 0 → Bare f z i s) → Filled f z (s + 1) y → x + y ≡ 0 → Bare f z i (s + 1)
  one_up {i} {s} {x} {y} a t e = bare-more i s (s + 1) (a (omega arith)) (bare-one s (s + 1) y t (omega arith) (omega arith))

  pub bare-above : (i j : ℕ) → i ≡ z.u → Bare f z i j → None (above_at z (run_of f z)) j
  bare-above i j e h = record { none = λ s a b. facts_above z (run_of f z) s (λ l. h.empty s (omega arith) b) }

-- slot s, whose run was read
module _ (z : Sizes) (run : ℕ → Run) (s : ℕ) (a : Run) (t : a ≡ run s) {b : Bool} (e : b ≡ empty a) where
  pub above-some : not b ≡ true → z.u < s → above_at z run s ≡ true
  unfolding above_at
  above-some h l = let q : not (empty (run s)) ≡ true = ap (λ (r : Run). not (empty r)) (sym t) ∙ ap not (sym e) ∙ h in simp (lt-ltb _ _ l, q)

  pub above-none : not b ≡ false → above_at z run s ≡ false
  above-none h = facts_above z run s (λ l. empty-facts (run s) (ap empty (sym t) ∙ sym e ∙ not-false _ h))

-- ---- the judgement of an index

module _ (z : Sizes) (run : ℕ → Run) {a : Option ℕ} (p : a ≡ some_number (least (bad_at z run) z.u)) where
  pub judge-bad : (k : ℕ) → a ≡ Some k → Err (BadEntry k) ≡ index_of z run
  unfolding index_of
  judge-bad k e = let h = was-found _ k (sym p ∙ e) in simp (← h.0, lt-ltb _ _ h.1)

  module _ (none : a ≡ Nothing) {b : Option ℕ} (q : b ≡ some_number (least (above_at z run) (capacity_of z))) where
    no-bad : least (bad_at z run) z.u ≤ 0
    no-bad = omega (arith, was-none _ (sym p ∙ none))

    pub judge-above : (k : ℕ) → b ≡ Some k → Err (AboveUse k) ≡ index_of z run
    unfolding index_of
    judge-above k e = let h = was-found _ k (sym q ∙ e) in simp (le-ltb _ _ no-bad, ← h.0, lt-ltb _ _ h.1)

    module _ (none-too : b ≡ Nothing) {c : Option ℕ} (r : c ≡ some_number (least (shared_at run) z.u)) where
      no-above : least (above_at z run) (capacity_of z) ≤ 0
      no-above = omega (arith, was-none _ (sym q ∙ none-too))

      pub judge-shared : (k : ℕ) → c ≡ Some k → Err (SharedRecord k) ≡ index_of z run
      unfolding index_of
      judge-shared k e = let h = was-found _ k (sym r ∙ e) in simp (le-ltb _ _ no-bad, le-ltb _ _ no-above, ← h.0, lt-ltb _ _ h.1)

      pub judge-opens : c ≡ Nothing → Ok z ≡ index_of z run
      unfolding index_of
      judge-opens e = let l : least (shared_at run) z.u ≤ 0 = omega (arith, was-none _ (sym r ∙ e)) in simp (le-ltb _ _ no-bad, le-ltb _ _ no-above, le-ltb _ _ l)
