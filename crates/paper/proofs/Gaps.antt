-- The question of the gaps, in plain facts, both ways.
use Rattle.std.specs.Prelude.{Ok, Err}
use Prim.Native.Nat.{ℕ, ◌+◌, ◌≤◌}
use mathlib.Core.Path.{◌≡◌, refl, ◌∙◌, ap}
use mathlib.Core.Bool.{true, false, not}
use mathlib.Core.List.{List}
use mathlib.Core.Logic.{⊎_elim}
use native.Mathlib.Omega.{arith}
use borrow.Author.Tests.{ltb-true, eqb-true, eqb-false, lt-ltb, eq-eqb, not-true}
use Rattle.lent.specs.Least.{least, Lowest, None}
use Rattle.lent.specs.Same.{same}
use Rattle.lent.specs.Write.{zeros}
use Rattle.lent.proofs.Checks.{judge-clear, judge-fires}
use Rattle.lent.proofs.Lists.{true≢false, not_so, either, all_true, true-all}
use Rattle.lent.proofs.Leasts.{least-none, none-least, lowest-least}
use Rattle.lent.proofs.Sames.{same_true, not_same, true_same}
use Rattle.paper.specs.declared.sizes.Sizes.{Sizes}
use Rattle.paper.specs.declared.refusal.Refusal.{Refusal}
use Rattle.paper.specs.Sizes.{sizes_of}
use Rattle.paper.specs.Index.{run_of, open_checks, open_of}
use Rattle.paper.specs.Store.{run_from}
use Rattle.paper.specs.Gaps.{record_at, left_tests, left_at, gaps_zero, gaps_of, Left, SomeLeft, GapsZero}
use Rattle.paper.proofs.Opening.{sharer-none, none-sharer, common-shares, open-clear, open-fires, open-reads}

module _ (f : List ℕ) (z : Sizes) where
  -- a record in a gap that is not zeros is left, and nothing else is
  pub left-facts : (r : ℕ) → r ≤ z.n + z.d → left_at f z r ≡ true → Left f z r
  unfolding left_at
  left-facts r w e =
      let t = all_true (left_tests f z r) e in
      let p = ltb-true _ _ t.0 in
      record {
        gap = record {
          past = p;
          within = w;
          unlisted = λ s a b x y.
              sharer-none (run_of f z) (run_from r 1) z.u (eqb-true _ _ t.1.0) s a b
              (common-shares (run_from r 1) (run_of f z s) r (omega arith) (omega arith) (omega arith) x y);
        };
        bytes = λ q. true≢false (true_same q) (not-true _ t.1.1.0);
      }

  pub facts-left : (r : ℕ) → Left f z r → left_at f z r ≡ true
  unfolding left_at
  facts-left r h =
      let g = h.gap in
      true-all (left_tests f z r) (
        lt-ltb _ _ g.past,
        (
          eq-eqb _ _ (none-sharer (run_of f z) (run_from r 1) z.u (λ s a b x. g.unlisted s a b (omega (arith, x.after)) (omega (arith, x.before)))),
          (ap not (not_same h.bytes), tt),
        ),
      )

  -- so one that is zeros is not, nor one of a listed scan
  pub zeros-not-left : (r : ℕ) → r ≤ z.n + z.d → record_at f z r ≡ zeros z.l → left_at f z r ≡ false
  zeros-not-left r w q = not_so (λ e. (left-facts r w e).bytes q)

  pub listed-not-left : (r s : ℕ) → r ≤ z.n + z.d → 1 ≤ s → s ≤ z.u → (run_of f z s).first ≤ r → r ≤ (run_of f z s).last → left_at f z r ≡ false
  listed-not-left r s w a b x y = not_so (λ e. (left-facts r w e).gap.unlisted s a b x y)

  pub gaps-true : gaps_zero f z ≡ true → GapsZero f z
  unfolding gaps_zero
  gaps-true e =
      let n : None (left_at f z) (z.n + z.d) = none-least (eqb-true _ _ e) in
      record {
        zero = λ r g.
            ⊎_elim (λ (t : same (record_at f z r) (zeros z.l) ≡ true). same_true _ _ t)
            (λ (t : same (record_at f z r) (zeros z.l) ≡ false).
            absurd (true≢false (facts-left r (record { gap = g; bytes = λ q. true≢false (true_same q) t })) (n.none r (omega (arith, g.past)) g.within)))
            (either (same (record_at f z r) (zeros z.l)));
      }

  pub true-gaps : GapsZero f z → gaps_zero f z ≡ true
  unfolding gaps_zero
  true-gaps h =
      eq-eqb _ _ (least-none (record { none = λ r a b. not_so (λ e. let l = left-facts r b e in l.bytes (h.zero r l.gap)) }))

  pub gaps-false : gaps_zero f z ≡ false → SomeLeft f z
  unfolding gaps_zero
  gaps-false e =
      let r : ℕ = least (left_at f z) (z.n + z.d) in
      let l : Lowest (left_at f z) (z.n + z.d) r = lowest-least refl (omega (arith, eqb-false r 0 e)) in
      record { at = r; left = left-facts r l.high l.takes }

  pub false-gaps : (r : ℕ) → Left f z r → gaps_zero f z ≡ false
  false-gaps r h = not_so (λ e. h.bytes ((gaps-true e).zero r h.gap))

  -- ---- the answer

  pub gaps-is : open_of f ≡ Ok z → gaps_of f ≡ Ok (gaps_zero f z)
  unfolding gaps_of
  gaps-is o =
      judge-clear Err (open_checks f) (Ok (gaps_zero f (sizes_of f))) (open-clear f o) ∙ ap (λ (y : Sizes). Ok (gaps_zero f y)) (open-reads f o)

pub gaps-refused : (f : List ℕ) {r : Refusal} → open_of f ≡ Err r → gaps_of f ≡ Err r
unfolding gaps_of
gaps-refused f {r} o = judge-fires Err (open_checks f) (Ok (gaps_zero f (sizes_of f))) r (open-fires f o)
