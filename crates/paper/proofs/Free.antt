-- Writes to free records, in any order and any number of them, keep to the frame; and what the place found for a scan gives.
use Prim.Native.Nat.{ℕ, zero, suc, ◌+◌, ◌-◌, ◌*◌, ◌/◌, ◌≤◌, ◌<◌}
use mathlib.Core.Path.{◌≡◌, refl, sym, ◌∙◌, ap}
use mathlib.Core.Bool.{true}
use mathlib.Core.List.{List, [], ◌∷◌, ◌++◌}
use mathlib.Core.Logic.{◌≢◌, ⊎_elim}
use native.Mathlib.Omega.{arith}
use native.Mathlib.Nat.{add-mul, lt_of_mul-lt-mul_right, le-div_iff_mul-le, div-mul-le_self, suc-mul, zero-mul}
use borrow.Author.Tests.{ltb-true, leb-true, eqb-true, lt-ltb, le-leb, eq-eqb}
use lib.ListN.{length, take, drop, get_or, length-drop, take-append-drop}
use lib.Seq.{take-suc, length-take-le}
use Rattle.lent.specs.Least.{Lowest}
use Rattle.lent.specs.Write.{write}
use Rattle.lent.proofs.Lists.{lt-or-ge, true≢false, all_true, true-all}
use Rattle.lent.proofs.Leasts.{lowest-least}
use Rattle.lent.proofs.Writes.{length-write, write-before, write-after, write-nothing, write-next}
use Rattle.paper.specs.declared.sizes.Sizes.{Sizes}
use Rattle.paper.specs.declared.sizes.Run.{Run}
use Rattle.paper.specs.Sizes.{capacity_of, start_of, room_of}
use Rattle.paper.specs.Index.{run_of, Laid, Booted}
use Rattle.paper.specs.Store.{Write, perform, run_from, many_of, free_tests, free_at, free_place, data_from}
use Rattle.paper.proofs.Sizing.{less, times}
use Rattle.paper.proofs.Opening.{inside-all, Shares, sharer-none, none-sharer, common-shares}
use Rattle.paper.proofs.Frame.{Frame}

-- ---- writes, one after the other

abbrev pub performs : List ℕ → List Write → List ℕ
performs f [] = f
performs f (w ∷ ws) = performs (perform f w) ws

pub performs-append : (f : List ℕ) (us vs : List Write) → performs f (us ++ vs) ≡ performs (performs f us) vs
performs-append f [] vs = refl
performs-append f (u ∷ us) vs = performs-append (perform f u) us vs

-- the first i of a list, and the next
pub performs-suc : (f : List ℕ) (ws : List Write) (i : ℕ) (d : Write) → i < length ws → performs f (take (suc i) ws) ≡ perform (performs f (take i ws)) (get_or ws i d)
performs-suc f ws i d h = ap (performs f) (take-suc ws i d h) ∙ performs-append f (take i ws) (get_or ws i d ∷ [])

-- what holds of every write of a list
abbrev pub Every : (Write → Type 0) → List Write → Type 0
Every P [] = Unit
Every P (w ∷ ws) = P w × Every P ws

pub every_take : (P : Write → Type 0) (n : ℕ) (ws : List Write) → Every P ws → Every P (take n ws)
every_take P zero ws h = tt
every_take P (suc n) [] h = tt
every_take P (suc n) (w ∷ ws) h = (h.0, every_take P n ws h.1)

-- ---- a write that touches no listed scan

-- the write lies in f's data section, or behind it, and no byte of it is a listed scan's
pub record Free (z : Sizes) (f : List ℕ) (w : Write) : Type 0 where
  pub fits : w.at + length w.bytes ≤ length f
  pub past : z.n * z.l ≤ w.at
  pub misses : (s i : ℕ) → 1 ≤ s → s ≤ z.u → w.at ≤ i → i < w.at + length w.bytes → start_of z (run_of f z s).first ≤ i
      → i < (run_of f z s).last * z.l → ⊥

pub frame-refl : (z : Sizes) (f : List ℕ) → Frame z f f
frame-refl z f = record { len = refl; head = λ i lo hi. refl; body = λ s a b i lo hi. refl }

-- the frame is that of the file as it was: so order and number do not matter
pub frame-write : (z : Sizes) (f g : List ℕ) (w : Write) → Frame z f g → Free z f w → Frame z f (perform g w)
frame-write z f g w F W =
    let fits : w.at + length w.bytes ≤ length g = rw F.len W.fits in
    let place : w.at ≤ length g = omega arith in
    record {
      len = length-write g w.at w.bytes fits ∙ F.len;
      head = λ i lo hi. write-before g w.at w.bytes place i (omega (arith, W.past)) ∙ F.head i lo hi;
      body = λ s h₁ h₂ i lo hi.
          ⊎_elim (λ (a : i < w.at). write-before g w.at w.bytes place i a ∙ F.body s h₁ h₂ i lo hi)
          (λ (a : w.at ≤ i).
          ⊎_elim (λ (b : i < w.at + length w.bytes). absurd (W.misses s i h₁ h₂ a b lo hi))
          (λ (b : w.at + length w.bytes ≤ i). write-after g w.at w.bytes place i b ∙ F.body s h₁ h₂ i lo hi)
          (lt-or-ge i (w.at + length w.bytes)))
          (lt-or-ge i w.at);
    }

pub frame-writes : (z : Sizes) (f g : List ℕ) (ws : List Write) → Frame z f g → Every (Free z f) ws → Frame z f (performs g ws)
frame-writes z f g [] F W = F
frame-writes z f g (w ∷ ws) F W = frame-writes z f (perform g w) ws (frame-write z f g w F W.0) W.1

-- a whole record that no listed scan has
pub free-record : (z : Sizes) (f : List ℕ) (r : ℕ) (bs : List ℕ) → length bs ≡ z.l → z.n < r → r * z.l ≤ length f
    → ((s : ℕ) → 1 ≤ s → s ≤ z.u → (run_of f z s).first ≤ r → r ≤ (run_of f z s).last → ⊥) → Free z f (record { at = start_of z r; bytes = bs; record_no = r })
free-record z f r bs e h₁ h₂ h₃ =
    let c : (r - 1) * z.l + z.l ≡ r * z.l = less r z.l (omega arith) in
    record {
      fits = omega arith;
      past = times z.n (r - 1) z.l (omega arith);
      misses = λ s i k₁ k₂ a b lo hi.
          let x : r - 1 < (run_of f z s).last = lt_of_mul-lt-mul_right z.l (omega arith) in
          let y : (run_of f z s).first - 1 < r = lt_of_mul-lt-mul_right z.l (omega arith) in
          h₃ s k₁ k₂ (omega arith) (omega arith);
    }

-- ---- the data records of a save

length-one : (l k : ℕ) (bs : List ℕ) → length bs ≡ suc k * l → length (take l bs) ≡ l
length-one l k bs e = length-take-le l bs (omega (arith, e, suc-mul k l))

length_rest : (l k : ℕ) (bs : List ℕ) → length bs ≡ suc k * l → length (drop l bs) ≡ k * l
length_rest l k bs e = length-drop l bs ∙ omega (arith, e, suc-mul k l)

-- k records from r on that no listed scan has
pub data-free : (z : Sizes) (f : List ℕ) (k r : ℕ) (bs : List ℕ) → length bs ≡ k * z.l → z.n < r
    → ((q : ℕ) → r ≤ q → q < r + k → q * z.l ≤ length f)
    → ((s q : ℕ) → 1 ≤ s → s ≤ z.u → r ≤ q → q < r + k → (run_of f z s).first ≤ q → q ≤ (run_of f z s).last → ⊥) → Every (Free z f) (data_from z r k bs)
unfolding data_from
data-free z f zero r bs e n fits miss = tt
data-free z f (suc k) r bs e n fits miss = (
  free-record z f r (take z.l bs) (length-one z.l k bs e) n (fits r (omega arith) (omega arith))
      (λ s a b. miss s r a b (omega arith) (omega arith)),
  data-free z f k (r + 1) (drop z.l bs) (length_rest z.l k bs e) (omega arith) (λ q a b. fits q (omega arith) (omega arith))
      (λ s q h₁ h₂ a b. miss s q h₁ h₂ (omega arith) (omega arith)),
)

empty-list : (bs : List ℕ) → length bs ≡ 0 → bs ≡ []
empty-list [] e = refl
empty-list (x ∷ bs) e = absurd (omega arith)

-- all of them together are one write
pub data-all : (z : Sizes) (k : ℕ) (g : List ℕ) (r : ℕ) (bs : List ℕ) → length bs ≡ k * z.l → 1 ≤ r → start_of z r + k * z.l ≤ length g
    → performs g (data_from z r k bs) ≡ write g (start_of z r) bs
unfolding data_from
data-all z zero g r bs e h fits = rw (empty-list bs (e ∙ zero-mul z.l)) (sym (write-nothing g (start_of z r)))
data-all z (suc k) g r bs e h fits =
    let a : List ℕ = take z.l bs in
    let one : length a ≡ z.l = length-one z.l k bs e in
    let step : suc k * z.l ≡ k * z.l + z.l = suc-mul k z.l in
    let c : (r - 1) * z.l + z.l ≡ r * z.l = less r z.l h in
    let c' : (r + 1 - 1) * z.l ≡ r * z.l = ap (λ (x : ℕ). x * z.l) (omega arith) in
    let at : start_of z (r + 1) ≡ start_of z r + length a = omega arith in
    let len : length (write g (start_of z r) a) ≡ length g = length-write g (start_of z r) a (omega arith) in
    data-all z k (write g (start_of z r) a) (r + 1) (drop z.l bs) (length_rest z.l k bs e) (omega arith) (omega arith)
    ∙ ap (λ (x : ℕ). write (write g (start_of z r) a) x (drop z.l bs)) at
    ∙ write-next g (start_of z r) a (drop z.l bs) (omega arith)
    ∙ ap (write g (start_of z r)) (take-append-drop z.l bs)

-- ---- the place found

-- what `free_at z len run k r ≡ true` says
pub record FreeAt (z : Sizes) (len : ℕ) (run : ℕ → Run) (k r : ℕ) : Type 0 where
  pub past : z.n < r
  pub within : r + k ≤ room_of z len + 1
  pub alone : (s : ℕ) → 1 ≤ s → s ≤ z.u → Shares (run_from r k) (run s) → ⊥

module _ (z : Sizes) (len : ℕ) (run : ℕ → Run) (k r : ℕ) where
  pub free-facts : free_at z len run k r ≡ true → FreeAt z len run k r
  unfolding free_at
  free-facts e =
      let t = all_true (free_tests z len run k r) e in
      record { past = ltb-true _ _ t.0; within = leb-true _ _ t.1.0; alone = sharer-none run (run_from r k) z.u (eqb-true _ _ t.1.1.0) }

  pub facts-free : FreeAt z len run k r → free_at z len run k r ≡ true
  unfolding free_at
  facts-free h =
      true-all (free_tests z len run k r)
      (lt-ltb _ _ h.past, (le-leb _ _ h.within, (eq-eqb _ _ (none-sharer run (run_from r k) z.u h.alone), tt)))

-- a place that was found is free
pub place-free : (z : Sizes) (len : ℕ) (run : ℕ → Run) (k : ℕ) → free_place z len run k ≢ 0 → FreeAt z len run k (free_place z len run k)
unfolding free_place
place-free z len run k h =
    let low : Lowest (free_at z len run k) (room_of z len) (free_place z len run k) = lowest-least refl (omega arith) in
    free-facts z len run k (free_place z len run k) low.takes

-- and no further than right behind the last record in use, since no scan has those after it
pub place-near : (z : Sizes) (len : ℕ) (run : ℕ → Run) (k : ℕ) → Laid z run → free_place z len run k ≢ 0 → free_place z len run k ≤ z.n + z.d + 1
unfolding free_place
place-near z len run k L h =
    let r : ℕ = free_place z len run k in
    let low : Lowest (free_at z len run k) (room_of z len) r = lowest-least refl (omega arith) in
    ⊎_elim
    (λ (far : z.n + z.d + 1 < r).
    let w = (free-facts z len run k r low.takes).within in
    absurd (true≢false
    (facts-free z len run k (r - 1)
    (record { past = omega arith; within = omega arith; alone = λ s a b x. omega (arith, (L.inside s a b).high, x.before) }))
    (low.below (r - 1) (omega arith) (omega arith))))
    (λ (near : r ≤ z.n + z.d + 1). near)
    (lt-or-ge (z.n + z.d + 1) r)

-- its records are no listed scan's
pub free-nobody : {z : Sizes} {len : ℕ} {run : ℕ → Run} {k r : ℕ} → FreeAt z len run k r → Laid z run → (s q : ℕ) → 1 ≤ s → s ≤ capacity_of z → r ≤ q → q < r + k
    → (run s).first ≤ q → q ≤ (run s).last → ⊥
free-nobody {z} {len} {run} {k} {r} F L s q s₁ s₂ a b c d =
    ⊎_elim (λ (h : z.u < s). omega (arith, L.above s h s₂, F.past))
    (λ (h : s ≤ z.u). F.alone s s₁ h (common-shares (run_from r k) (run s) q (omega (arith, F.past)) a (omega arith) c d))
    (lt-or-ge z.u s)

-- a record within the room lies in the file
pub room_in : (z : Sizes) (len q : ℕ) → q ≤ room_of z len → q * z.l ≤ len
room_in z len q h = omega (arith, times q (len / z.l) z.l (omega arith), div-mul-le_self len z.l)

-- k records from r on likewise
pub rows_in : (z : Sizes) (len r k : ℕ) → 1 ≤ r → r + k ≤ room_of z len + 1 → start_of z r + k * z.l ≤ len
rows_in z len r k h w =
    let e : (r + k - 1) * z.l ≡ start_of z r + k * z.l = ap (λ (x : ℕ). x * z.l) (omega arith) ∙ add-mul (r - 1) k z.l in
    omega (arith, room_in z len (r + k - 1) (omega arith))

-- and those in use lie within the room
pub used-room : {f : List ℕ} {z : Sizes} → Booted f z → z.n + z.d ≤ room_of z (length f)
used-room {f} {z} b =
    let l : 1 ≤ z.l = omega (arith, b.ranged.shape.l_low) in
    let q : z.n + z.d ≤ length f / z.l = (le-div_iff_mul-le l).1 b.held in
    omega (arith, b.ranged.records)

-- ---- the records of a slot's scan

-- many records from record r on, all of them data records in use
pub record OldLies (z : Sizes) (r many : ℕ) : Type 0 where
  pub past : z.n < r
  pub within : r + many ≤ z.n + z.d + 1

pub scan-lies : {z : Sizes} {run : ℕ → Run} → Laid z run → (s : ℕ) → 1 ≤ s → s ≤ capacity_of z → 0 < many_of (run s)
    → OldLies z (run s).first (many_of (run s))
scan-lies L s a b h =
    let l = inside-all L s a b in
    record { past = l.low (omega arith); within = omega (arith, l.low (omega arith), l.high) }
