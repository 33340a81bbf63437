-- The rows of the list: how many there are, one of them, and each answer of the list.
use Rattle.std.specs.Prelude.{Ok, Err}
use Prim.Native.Nat.{ℕ, suc, ◌+◌, ◌*◌, ◌≤◌, ◌<◌}
use mathlib.Core.Path.{◌≡◌, refl, sym, ◌∙◌, ap}
use mathlib.Core.Bool.{Bool, true, false, not, cond}
use mathlib.Core.List.{List, [], ◌∷◌}
use native.Mathlib.Numerals.{add-one, add-two}
use native.Mathlib.Omega.{arith}
use lib.ListN.{length, set, length-append}
use lib.Dec.{ltb}
use borrow.Author.Tests.{lt-ltb, le-ltb}
use Rattle.lent.specs.Lists.{those, threes}
use Rattle.lent.specs.Checks.{Check, check}
use Rattle.lent.specs.Write.{write}
use Rattle.lent.proofs.Lists.{those-same, length-those, length-threes}
use Rattle.lent.proofs.Writes.{stored}
use Rattle.paper.specs.declared.sizes.Sizes.{Sizes}
use Rattle.paper.specs.declared.sizes.Run.{Run}
use Rattle.paper.specs.declared.refusal.Refusal.{Refusal}
use Rattle.paper.specs.declared.refusal.Refusal.TheVariants.{TooSmall}
use Rattle.paper.specs.Answers.{Listed}
use Rattle.paper.specs.Index.{run_of, row_run, empty, slots_of, open_of}
use Rattle.paper.specs.Look.{lines_of, listed_of, listed_out}
use Rattle.entries.specs.Row.{Runs}
use Rattle.look.specs.Put.{Put}
use Rattle.look.specs.Rows.{full, scans_in, one_if, joined, piece_if, pieces_in, row_of}
use Rattle.look.proofs.Calls.{call_opens, call-refused}
use Rattle.look.proofs.Putting.{same-pieces}

-- the loop that counts: a turn, and its end
pub count_next : (run : ℕ → Run) (i n k : ℕ) {a : Run} → n ≡ length (scans_in run i) → a ≡ run (i + 1) → k ≡ n + one_if a → k ≡ length (scans_in run (i + 1))
unfolding those
count_next run i n k {a} e p q =
    let w : k ≡ n + one_if (run (suc i)) = rw (p, add-one) at q in
    rw add-one (w ∙ rw (e, length-append) (ap (λ (m : ℕ). length (scans_in run i) + m) (go (empty (run (suc i))))))
  where
    go : (t : Bool) → cond t 0 1 ≡ length (cond (not t) (suc i ∷ []) [])
    go true = refl
    go false = refl

pub count-ends : (run : ℕ → Run) (i n u : ℕ) → n ≡ length (scans_in run i) → i ≤ u → u ≤ i → u ≤ 4096 → (n ≡ length (scans_in run u)) × (n ≤ 4096)
count-ends run i n u e l m small = let q : i ≡ u = omega arith in (rw q at e, omega (arith, length-those (full run) i))

-- one row
module _ (r : Run) (e : empty r ≡ false) (at s : ℕ) where
  pub row_room : (n : ℕ) → at + length (piece_if row_of s r) ≤ n → at + 3 ≤ n
  row_room n h = rw e at h

  pub row_put : (out : List ℕ) → at + 3 ≤ length out → Put out at (piece_if row_of s r) (set (set (set out at s) (at + 1) r.first) (at + 2) r.last) (at + 3)
  row_put out h = rw e (record { place = refl; holds = rw (add-one at, add-two at) (stored (row_of s r) out at h) })

lines_rows : (run : ℕ → Run) (ss : List ℕ) → lines_of run ss ≡ joined (λ s. row_of s (run s)) ss
unfolding threes joined
lines_rows run [] = refl
lines_rows run (s ∷ ss) = ap (λ (l : List ℕ). s ∷ (run s).first ∷ (run s).last ∷ l) (lines_rows run ss)

pub rows_fit : (run : ℕ → Run) (u n room : ℕ) → n ≡ length (scans_in run u) → 3 * n ≤ room → length (pieces_in row_of run u) ≤ room
rows_fit run u n room e h =
    let ss : List ℕ = scans_in run u in
    omega (arith, ap length (lines_rows run ss), length-threes (λ s. s) (λ s. (run s).first) (λ s. (run s).last) ss)

-- ---- a row that holds the runs of a file

module _ (f : List ℕ) {z : Sizes} (row : List ℕ) (rs : Runs f z row z.u) where
  pub row-slots : scans_in (row_run row) z.u ≡ slots_of z (run_of f z)
  unfolding slots_of
  row-slots = those-same (full (row_run row)) (full (run_of f z)) z.u (λ s a b. ap (λ (r : Run). not (empty r)) (rs.run s a b))

  row-lines : pieces_in row_of (row_run row) z.u ≡ lines_of (run_of f z) (slots_of z (run_of f z))
  unfolding slots_of
  row-lines = same-pieces row_of (row_run row) (run_of f z) z.u rs.run ∙ sym (lines_rows (run_of f z) (scans_in (run_of f z) z.u))

-- ---- each answer of the list, and what is lent afterwards

module _ (f out : List ℕ) where
  abbrev own : Sizes → List (Check Refusal)
  own z = check (ltb (length out) (3 * length (slots_of z (run_of f z)))) TooSmall ∷ []

  abbrev scans : Sizes → Listed
  scans z = Ok (length (slots_of z (run_of f z)))

  abbrev lines : Sizes → List ℕ
  lines z = write out 0 (lines_of (run_of f z) (slots_of z (run_of f z)))

  pub list-refused : {r : Refusal} → open_of f ≡ Err r → (Err r ≡ listed_of f out) × (out ≡ listed_out f out)
  unfolding listed_of listed_out
  list-refused o = (call-refused f Err own scans o, call-refused f (λ r. out) own lines o)

  module _ {z : Sizes} (o : open_of f ≡ Ok z) (row : List ℕ) (rs : Runs f z row z.u)
      (n : ℕ) (e : n ≡ length (scans_in (row_run row) z.u)) where
    count : n ≡ length (slots_of z (run_of f z))
    count = e ∙ ap length (row-slots f row rs)

    pub list-small : length out < 3 * n → (Err TooSmall ≡ listed_of f out) × (out ≡ listed_out f out)
    unfolding listed_of listed_out
    list-small h =
        let t : ltb (length out) (3 * length (slots_of z (run_of f z))) ≡ true = lt-ltb (length out) (3 * length (slots_of z (run_of f z))) (omega (arith, count)) in
        (rw (call_opens f Err own scans o, t), rw (call_opens f (λ r. out) own lines o, t))

    pub list_done : (next : List ℕ) → 3 * n ≤ length out → next ≡ write out 0 (pieces_in row_of (row_run row) z.u) → (Ok n ≡ listed_of f out) × (next ≡ listed_out f out)
    unfolding listed_of listed_out
    list_done next h p =
        let t : ltb (length out) (3 * length (slots_of z (run_of f z))) ≡ false = le-ltb (length out) (3 * length (slots_of z (run_of f z))) (omega (arith, count)) in
        (rw (call_opens f Err own scans o, t) (ap Ok count), rw (call_opens f (λ r. out) own lines o, t) (p ∙ ap (write out 0) (row-lines f row rs)))
