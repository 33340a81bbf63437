-- A record that is left in a gap: where none is so far, where one is, and what the question then answers.
use Rattle.std.specs.Prelude.{Ok, Err}
use Prim.Native.Nat.{ℕ, ◌+◌, ◌-◌, ◌*◌, ◌≤◌, ◌<◌}
use Rattle.std.specs.Prelude.{zero, suc, Option, is_none}
use Rattle.lent.specs.Least.{some_number}
use mathlib.Core.Path.{◌≡◌, refl, sym, ◌∙◌, ap}
use mathlib.Core.Bool.{Bool, true, false}
use mathlib.Core.List.{List, []}
use mathlib.Core.Logic.{⊎_elim}
use native.Mathlib.Omega.{arith}
use lib.Dec.{eqb}
use lib.ListN.{length}
use borrow.Author.Tests.{le-ltb, lt-ltb, eq-eqb, ne_eqb}
use Rattle.lent.specs.Same.{same}
use Rattle.lent.specs.Write.{zeros}
use Rattle.lent.proofs.Lists.{lt-or-ge, also-unit}
use Rattle.lent.proofs.Leasts.{least-none}
use Rattle.lent.proofs.Parts.{length_part}
use Rattle.lent.proofs.Sames.{same_true}
use Rattle.marks.specs.Marks.{mark_of, Full}
use Rattle.marks.proofs.Marking.{clear-zeros}
use Rattle.paper.specs.declared.sizes.Sizes.{Sizes}
use Rattle.paper.specs.Answers.{Opened}
use Rattle.paper.specs.declared.refusal.Refusal.{Refusal}
use Rattle.paper.specs.Sizes.{start_of}
use Rattle.paper.specs.Index.{run_of, row_run, sharer, boot_of, open_of, Booted}
use Rattle.paper.specs.Store.{run_from}
use Rattle.paper.specs.Gaps.{record_at, left_at, gaps_zero}
use Rattle.paper.proofs.Sizing.{less, times}
use Rattle.paper.proofs.Opening.{boot-sound, open-index, index_same}
use Rattle.paper.proofs.Frame.{sharer-same}
use Rattle.paper.proofs.Gaps.{left-facts, zeros-not-left, listed-not-left, false-gaps}
use Rattle.entries.specs.Row.{Runs}
use Rattle.entries.proofs.Rows.{holder-same}
use Rattle.index.specs.Judging.{Decoded, Shows, Looked}
use Rattle.gaps.specs.Held.{Held, Swept, Later}

none-is : (k : ℕ) → is_none (some_number k) ≡ eqb k 0
none-is zero = refl
none-is (suc k) = sym (ne_eqb (suc k) 0 (λ e. absurd (omega arith)))

module _ (f : List ℕ) (z : Sizes) where
  -- marks of the row's scans, and no marks
  pub held : {row ws : List ℕ} → Runs f z row z.u → Shows ws z.n (row_run row) z.u → Held f z ws
  held {row} h s = record { scan = λ x l m. holder-same (run_of f z) (row_run row) z.u x (λ t a b. sym (h.run t a b)) (s.only x l m) }

  pub held_none : Held f z []
  held_none = record { scan = λ x l m. absurd ((clear-zeros 0).none x m) }

  -- the walk begins after bootstrap and index, and goes on
  pub swept-start : (r : ℕ) → r ≡ z.n + 1 → Swept f z r
  unfolding left_at
  swept-start r e = record { past = omega arith; none = λ s a b. rw (le-ltb z.n s (omega arith)) }

  pub swept-next : {r x : ℕ} → Swept f z r → Later f z r x → Swept f z x
  swept-next {r} {x} w h =
      record {
        past = omega (arith, w.past, h.on);
        none = λ s a b. ⊎_elim (λ (k : s < r). w.none s k b) (λ (k : r ≤ s). h.none s k a b) (lt-or-ge s r);
      }

  -- a data record: in the file, and what it is found to be
  module _ (b : Booted f z) (r : ℕ) (past : z.n < r) (within : r ≤ z.n + z.d) where
    pub record-in : start_of z r + z.l ≤ length f
    record-in = omega (arith, less r z.l (omega arith), times r (z.n + z.d) z.l within, b.held)

    module _ (t : Bool) (e : t ≡ same (record_at f z r) (zeros (length (record_at f z r)))) where
      zeros-are : same (record_at f z r) (zeros z.l) ≡ t
      zeros-are = let l : length (record_at f z r) ≡ z.l = length_part (start_of z r) (start_of z r + z.l) f record-in ∙ omega arith in sym (rw l at e)

      pub left-zero : t ≡ true → false ≡ left_at f z r
      left-zero q = sym (zeros-not-left f z r within (same_true _ _ (zeros-are ∙ q)))

      pub left-else : t ≡ false → (row : List ℕ) → Runs f z row z.u → {o : Option ℕ} → o ≡ some_number (sharer (row_run row) (record { first = r; last = r }) z.u) → is_none o ≡ left_at f z r
      unfolding left_at
      left-else q row h d =
          let e : r + 1 - 1 ≡ r = omega arith in
          let s : sharer (row_run row) (record { first = r; last = r }) z.u ≡ sharer (run_of f z) (run_from r 1) z.u =
          ap (λ (x : ℕ). sharer (row_run row) (record { first = r; last = x }) z.u) (sym e) ∙ sharer-same z (row_run row) (run_of f z) z.u h.run (run_from r 1) z.u (omega arith) in
          rw (lt-ltb z.n r past, zeros-are, q, ← s, d) (none-is (sharer (row_run row) (record { first = r; last = r }) z.u) ∙ sym (also-unit _))

  -- a marked record is in a scan
  left-marked : {ws : List ℕ} → Held f z ws → (r : ℕ) → z.n < r → r ≤ z.n + z.d → mark_of ws r ≡ 1 → left_at f z r ≡ false
  left-marked h r past w m = let s = h.scan r past m in listed-not-left f z r s.slot w s.low s.high s.from s.to

  -- the two ways on
  pub later-marked : {ws : List ℕ} → Held f z ws → (r x : ℕ) → z.n < r → mark_of ws r ≡ 1 → Full ws (r + 1) x → Later f z r x
  later-marked h r x past m u =
      record {
        on = omega (arith, u.low);
        none = λ s lo hi w.
            left-marked h s (omega arith) w (⊎_elim (λ (k : r < s). u.marked s (omega arith) hi) (λ (k : s ≤ r). let e : s ≡ r = omega arith in rw e m) (lt-or-ge r s));
      }

  pub later_one : (r : ℕ) → left_at f z r ≡ false → Later f z r (r + 1)
  later_one r e = record { on = omega arith; none = λ s lo hi w. let q : s ≡ r = omega arith in rw q e }

  -- what is answered where a record is left, and where none is
  pub gaps-no : (r : ℕ) → r ≤ z.n + z.d → left_at f z r ≡ true → false ≡ gaps_zero f z
  gaps-no r w t = sym (false-gaps f z r (left-facts f z r w t))

  pub gaps-yes : {r : ℕ} → Swept f z r → z.n + z.d < r → true ≡ gaps_zero f z
  unfolding gaps_zero
  gaps-yes w l = sym (eq-eqb _ 0 (least-none (record { none = λ s a b. w.none s (omega arith) b })))

-- what the judgement leaves: whether the file opens, and the row of its runs
module _ {f row ws : List ℕ} {z : Sizes} {o : Opened} (b : boot_of f ≡ Ok z) (l : Looked f z row ws o) where
  pub looked-refused : {r : Refusal} → o ≡ Err r → open_of f ≡ Err r
  looked-refused q = open-index f b ∙ sym l.is ∙ q

  pub looked-opens : {y : Sizes} → o ≡ Ok y → open_of f ≡ Ok z
  looked-opens {y} q = open-index f b ∙ sym l.is ∙ q ∙ ap Ok (sym (index_same z y (run_of f z) (sym l.is ∙ q)))

  pub decoded : 2 * z.u ≤ length row → Decoded f z row z.u
  decoded w = record { booted = boot-sound b; wide = w; most = omega arith; runs = l.runs }
