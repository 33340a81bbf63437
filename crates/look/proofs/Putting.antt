-- Pieces put one after the other: by calls, and by a loop over the slots.
use Prim.Native.Nat.{ℕ, zero, suc, ◌+◌, ◌*◌, ◌≤◌, ◌<◌}
use mathlib.Core.Path.{◌≡◌, refl, sym, ◌∙◌, ap}
use mathlib.Core.Bool.{Bool, true, false, not, cond}
use mathlib.Core.List.{List, [], ◌∷◌, ◌++◌, append_assoc, append-nil}
use native.Mathlib.Decide.{le_ind}
use native.Mathlib.Numerals.{add-one}
use native.Mathlib.Nat.{add-zero}
use native.Mathlib.Omega.{arith}
use lib.ListN.{length, length-append}
use Rattle.lent.specs.Lists.{those}
use Rattle.lent.proofs.Writes.{write_then, write-nothing, length-write}
use Rattle.paper.specs.declared.sizes.Run.{Run}
use Rattle.paper.specs.Index.{empty}
use Rattle.look.specs.Put.{Put}
use Rattle.look.specs.Rows.{full, scans_in, joined, piece_if, pieces_in}

pub put-none : (l : List ℕ) (at : ℕ) → Put l at [] l at
put-none l at = record { place = sym (add-zero at); holds = sym (write-nothing l at) }

module _ {a : List ℕ} {p : ℕ} {xs b : List ℕ} {q : ℕ} (fits : p + length xs ≤ length a) (h : Put a p xs b q) where
  pub put-length : length b ≡ length a
  put-length = ap length h.holds ∙ length-write a p xs fits

  pub put_then : {ys c : List ℕ} {r : ℕ} → Put b q ys c r → Put a p (xs ++ ys) c r
  put_then {ys} {c} {r} k =
      record {
        place = omega (arith, length-append xs ys, h.place, k.place);
        holds = write_then a b c p q xs ys h.holds k.holds (sym h.place) (omega arith);
      }

-- ---- the pieces of the slots that hold a scan

joined-append : (piece : ℕ → List ℕ) (xs ys : List ℕ) → joined piece (xs ++ ys) ≡ joined piece xs ++ joined piece ys
unfolding joined
joined-append piece [] ys = refl
joined-append piece (x ∷ xs) ys =
    ap (λ (l : List ℕ). piece x ++ l) (joined-append piece xs ys) ∙ sym (append_assoc (piece x) (joined piece xs) (joined piece ys))

module _ (piece : ℕ → Run → List ℕ) (run : ℕ → Run) where
  none_yet : pieces_in piece run 0 ≡ []
  unfolding those joined
  none_yet = refl

  last : (s : ℕ) (t : Bool) → joined (λ s. piece s (run s)) (cond (not t) (s ∷ []) []) ≡ cond t [] (piece s (run s))
  unfolding joined
  last s true = refl
  last s false = append-nil (piece s (run s))

  step : (i : ℕ) → pieces_in piece run (suc i) ≡ pieces_in piece run i ++ piece_if piece (suc i) (run (suc i))
  unfolding those
  step i =
      joined-append (λ s. piece s (run s)) (scans_in run i) (cond (full run (suc i)) (suc i ∷ []) [])
      ∙ ap (λ (l : List ℕ). pieces_in piece run i ++ l) (last (suc i) (empty (run (suc i))))

  length-step : (i : ℕ) → length (pieces_in piece run (suc i)) ≡ length (pieces_in piece run i) + length (piece_if piece (suc i) (run (suc i)))
  length-step i = ap length (step i) ∙ length-append (pieces_in piece run i) (piece_if piece (suc i) (run (suc i)))

  grows : (i n : ℕ) → i ≤ n → length (pieces_in piece run i) ≤ length (pieces_in piece run n)
  grows i n h = le_ind (λ k. length (pieces_in piece run i) ≤ length (pieces_in piece run k)) (omega arith) (λ m a b. omega (arith, length-step m)) n h

  -- the loop that puts them from place `at` on: where it begins, in a turn, and at its end
  module _ (lent : List ℕ) (at u : ℕ) (fits : at + length (pieces_in piece run u) ≤ length lent) where
    pub put-begins : Put lent at (pieces_in piece run 0) lent at
    put-begins = rw none_yet (put-none lent at)

    module _ (i : ℕ) {out : List ℕ} {to : ℕ} (h : Put lent at (pieces_in piece run i) out to) where
      pub put_keeps : i ≤ u → length out ≡ length lent
      put_keeps l = put-length (omega (arith, grows i u l)) h

      module _ (under : i < u) {a : Run} (e : a ≡ run (i + 1)) where
        next_fits : length (pieces_in piece run i) + length (piece_if piece (i + 1) a) ≤ length (pieces_in piece run u)
        next_fits = rw (e, add-one) (omega (arith, grows (suc i) u (omega arith), length-step i))

        pub next-room : to + length (piece_if piece (i + 1) a) ≤ length out
        next-room = omega (arith, next_fits, put_keeps (omega arith), h.place)

        pub next-put : {out₂ : List ℕ} {to₂ : ℕ} → Put out to (piece_if piece (i + 1) a) out₂ to₂ → Put lent at (pieces_in piece run (i + 1)) out₂ to₂
        next-put {out₂} {to₂} k =
            let j : Put out to (piece_if piece (suc i) (run (suc i))) out₂ to₂ = rw (e, add-one) at k in
            rw (add-one, step i) (put_then (omega (arith, grows i u (omega arith))) h j)

  -- where each piece is short
  pub all_short : (k n : ℕ) → ((s : ℕ) → 1 ≤ s → s ≤ n → length (piece s (run s)) ≤ k) → length (pieces_in piece run n) ≤ k * n
  all_short k zero h = omega (arith, ap length none_yet)
  all_short k (suc n) h =
      omega
      (arith, all_short k n (λ s a b. h s a (omega arith)), length-step n, short (empty (run (suc n))) (h (suc n) (omega arith) (omega arith)))
    where
      short : (t : Bool) → length (piece (suc n) (run (suc n))) ≤ k → length (cond t [] (piece (suc n) (run (suc n)))) ≤ k
      short true l = omega arith
      short false l = l

-- runs that agree on the slots 1 to n
pub same-pieces : (piece : ℕ → Run → List ℕ) (run run₂ : ℕ → Run) (n : ℕ) → ((s : ℕ) → 1 ≤ s → s ≤ n → run s ≡ run₂ s) → pieces_in piece run n ≡ pieces_in piece run₂ n
same-pieces piece run run₂ zero h = none_yet piece run ∙ sym (none_yet piece run₂)
same-pieces piece run run₂ (suc n) h =
    let e : run (suc n) ≡ run₂ (suc n) = h (suc n) (omega arith) (omega arith) in
    rw (step piece run n, step piece run₂ n, same-pieces piece run run₂ n (λ s l m. h s l (omega arith)), e)
