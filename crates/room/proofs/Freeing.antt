-- The laws of the search: a scan in the way is gone past, and where none is, the place is the lowest.
use Prim.Native.Nat.{ℕ, ◌+◌, ◌-◌, ◌*◌, ◌≤◌, ◌<◌}
use mathlib.Core.Path.{◌≡◌, sym, ◌∙◌, ap, subst}
use mathlib.Core.Bool.{Bool, true}
use mathlib.Core.List.{List}
use native.Mathlib.Decide.{dec_le}
use native.Mathlib.Omega.{arith}
use lib.ListN.{length, get_or}
use Rattle.std.specs.Prelude.{Option, Some, None as Nothing}
use Rattle.lent.specs.Least.{some_number, None}
use Rattle.lent.proofs.Founds.{found-here, found-end, was-found, was-none}
use Rattle.lent.proofs.Lists.{not_so}
use Rattle.lent.proofs.Leasts.{lowest-least, least-none, least-same}
use Rattle.marks.specs.Marks.{mark_of, Met, Blocked}
use Rattle.paper.specs.declared.sizes.Sizes.{Sizes}
use Rattle.paper.specs.declared.sizes.Run.{Run}
use Rattle.paper.specs.Sizes.{capacity_of, room_of, Ranged}
use Rattle.paper.specs.Index.{run_of, row_run, empty, shares, sharer, Lies, Sound}
use Rattle.paper.specs.Store.{run_from, free_at, free_place, empty_slot}
use Rattle.paper.proofs.Opening.{Shares, share-facts, sharer-none, none-sharer, common-shares, facts-empty}
use Rattle.paper.proofs.Frame.{sharer-same}
use Rattle.paper.proofs.Free.{FreeAt, free-facts, facts-free}
use Rattle.entries.specs.Row.{Runs}
use Rattle.entries.proofs.Rows.{holder-same}
use Rattle.room.specs.Passing.{Sought, Hints, Missed, Passed, Vacant}

-- ---- the lowest empty slot: the slots in use are passed one by one, those above are empty

module _ (row : List ℕ) (z : Sizes) (i : ℕ) (h : None (λ s. empty (row_run row s)) i) where
  pub vacant-here : empty (row_run row (i + 1)) ≡ true → i < z.u → z.u ≤ capacity_of z → Vacant row z (Some (i + 1))
  unfolding empty_slot
  vacant-here t l m =
      record {
        is = λ run e a.
            found-here {p = λ s. empty (run s)} (record { none = λ s x y. sym (ap empty (e s x (omega arith))) ∙ h.none s x y })
            (sym (ap empty (e (i + 1) (omega arith) (omega arith))) ∙ t) (omega arith);
      }

  module _ (d : i ≡ z.u) where
    used-none : (run : ℕ → Run) → ((s : ℕ) → 1 ≤ s → s ≤ z.u → row_run row s ≡ run s) → None (λ s. empty (run s)) z.u
    used-none run e = record { none = λ s x y. sym (ap empty (e s x y)) ∙ h.none s x (omega arith) }

    pub vacant-above : z.u < capacity_of z → Vacant row z (Some (z.u + 1))
    unfolding empty_slot
    vacant-above l =
        record { is = λ run e a. found-here {p = λ s. empty (run s)} (used-none run e) (facts-empty (run (z.u + 1)) (a (z.u + 1) (omega arith) (omega arith))) l }

    pub vacant-none : capacity_of z ≤ z.u → Vacant row z Nothing
    unfolding empty_slot
    vacant-none l = record { is = λ run e a. found-end {p = λ s. empty (run s)} (used-none run e) l }

-- ---- the slots without a record after i and before e

pub missed-zero : (run : ℕ → Run) (i e : ℕ) → Missed run 0 i e
missed-zero run i e = record { clear = λ t a b. absurd (omega arith) }

-- a turn that tries the two numbers of the next slot
pub missed_more : (row : List ℕ) (x i e : ℕ) → Missed (row_run row) x i e → (i < get_or row (2 * x + 1) 0 → e ≤ get_or row (2 * x) 0) → Missed (row_run row) (x + 1) i e
unfolding row_run
missed_more row x i e h m = record { clear = λ t a b. go t a b (dec_le t x) }
  where
    go : (t : ℕ) → 1 ≤ t → t ≤ x + 1 → Dec (t ≤ x) → i < (row_run row t).last → e ≤ (row_run row t).first
    go t a b (yes l) = h.clear t a l
    go t a b (no l) = let q : t - 1 ≡ x = omega arith in rw q m

-- none of the k records after record i is a scan's
pub missed-all : (run : ℕ → Run) (u i k e : ℕ) → e ≡ i + k + 1 → Missed run u i e → Nothing ≡ some_number (sharer run (run_from (i + 1) k) u)
missed-all run u i k e q h = ap some_number (sym (none-sharer run (run_from (i + 1) k) u (λ t a b s. omega (arith, h.clear t a b (omega (arith, s.before)), s.after))))

-- ---- a scan in the way

-- slot t's scan has a record of the run a
pub record Touch (run : ℕ → Run) (z : Sizes) (a : Run) (t : ℕ) : Type 0 where
  pub low : 1 ≤ t
  pub high : t ≤ z.u
  pub shared : Shares a (run t)

pub touch : (run : ℕ → Run) (z : Sizes) (a : Run) (t : ℕ) (o : Option ℕ) → o ≡ some_number (sharer run a z.u) → o ≡ Some t → Touch run z a t
unfolding sharer
touch run z a t o e h =
    let f = was-found (sharer run a z.u) t (sym e ∙ h) in
    let l = lowest-least {p = λ s. shares a (run s)} {n = z.u} {k = t} (sym f.0) f.1 in
    record { low = l.low; high = l.high; shared = share-facts a (run t) l.takes }

pub touch-here : (run : ℕ → Run) (z : Sizes) (x a b : Run) (t : ℕ) (v : Bool) → 1 ≤ t → t ≤ z.u → a ≡ x → b ≡ run t → v ≡ shares a b → v ≡ true → Touch run z x t
touch-here run z x a b t v l m e f g h =
    let s : shares x (run t) ≡ true = rw (← e, ← f, ← g) h in
    record { low = l; high = m; shared = share-facts x (run t) s }

-- record N, after which the search starts
pub passed_none : (run : ℕ → Run) (z : Sizes) (k i : ℕ) → Ranged z → i ≡ z.n → Passed run z k i
passed_none run z k i h e = record { low = omega arith; small = omega arith; none = λ r a b. absurd (omega arith) }

module _ (run : ℕ → Run) (z : Sizes) (k i : ℕ) (some : 1 ≤ k) (p : Passed run z k i) where
  -- a turn that goes past a scan
  pub jump : Ranged z → ((s : ℕ) → 1 ≤ s → s ≤ z.u → Lies z (run s)) → (t : ℕ) → Touch run z (run_from (i + 1) k) t → (e : ℕ) → e ≡ (run t).last → Passed run z k e
  jump g o t d e q =
      let l = o t d.low d.high in
      record { low = omega (arith, d.shared.before, p.low); small = omega (arith, l.high, g.records); none = λ r a c. go r a (omega arith) (dec_le r i) }
    where
      go : (r : ℕ) → z.n < r → r ≤ (run t).last → Dec (r ≤ i) → sharer run (run_from r k) z.u ≡ 0 → ⊥
      go r a c (yes h) q = p.none r a h q
      go r a c (no h) q = sharer-none run (run_from r k) z.u q t d.low d.high (let s = d.shared in omega arith)

  -- a place that starts later does not lie within the room
  pub free-end : (len : ℕ) → room_of z len < i + k → Nothing ≡ some_number (free_place z len run k)
  unfolding free_place
  free-end len h = ap some_number (sym (least-none (record { none = λ r a b. not_so (λ e. let f = free-facts z len run k r e in go r f (dec_le r i)) })))
    where
      go : (r : ℕ) → FreeAt z len run k r → Dec (r ≤ i) → ⊥
      go r f (yes q) = p.none r f.past q (none-sharer run (run_from r k) z.u f.alone)
      go r f (no q) = omega (arith, f.within)

  -- the place after record i
  pub free-here : (len : ℕ) → i + k ≤ room_of z len → (o : Option ℕ) → o ≡ some_number (sharer run (run_from (i + 1) k) z.u) → o ≡ Nothing → Some (i + 1) ≡ some_number (free_place z len run k)
  unfolding free_place
  free-here len h o q e = found-here (record { none = λ r a b. not_so (λ q. let f = free-facts z len run k r q in p.none r f.past b (none-sharer run (run_from r k) z.u f.alone)) })
      (facts-free z len run k (i + 1) (record { past = omega (arith, p.low); within = omega arith; alone = sharer-none run (run_from (i + 1) k) z.u (was-none _ (sym q ∙ e)) })) (omega arith)

-- ---- the places that a marked record lies in

pub blocked-then : (ws : List ℕ) (k i j e : ℕ) → Blocked ws k i j → Blocked ws k j e → Blocked ws k i e
blocked-then ws k i j e p q = record { low = omega (arith, p.low, q.low); met = λ r a b. go r a b (dec_le r j) }
  where
    go : (r : ℕ) → i < r → r ≤ e → Dec (r ≤ j) → Met ws r k
    go r a b (yes h) = p.met r a h
    go r a b (no h) = q.met r (omega arith) b

-- each marked record past N is of a scan
module _ (run : ℕ → Run) (z : Sizes) (k : ℕ) (ws : List ℕ) (g : Ranged z) (o : (s : ℕ) → 1 ≤ s → s ≤ z.u → Lies z (run s)) (h : Hints ws z run)
    (m : mark_of ws 0 ≡ 1) where
  pub passed-marks : (j : ℕ) → Blocked ws k z.n j → Passed run z k j
  passed-marks j b = record { low = b.low; small = top (dec_le j z.n); none = none }
    where
      top : Dec (j ≤ z.n) → j ≤ 1000000
      top (yes l) = omega (arith, g.records)
      top (no l) =
          let x = b.met j (omega arith) (omega arith) in
          let y = h.held m x.at (omega (arith, x.low)) x.marked in
          omega (arith, g.records, x.low, y.to, (o y.slot y.low y.high).high)

      none : (r : ℕ) → z.n < r → r ≤ j → sharer run (run_from r k) z.u ≡ 0 → ⊥
      none r a c q =
          let x = b.met r a c in
          let y = h.held m x.at (omega (arith, x.low)) x.marked in
          sharer-none run (run_from r k) z.u q y.slot y.low y.high
          (common-shares (run_from r k) (run y.slot) x.at (omega (arith, x.low)) x.low (omega (arith, x.high)) y.from y.to)

-- ---- a row that holds the runs of a file

module _ (f : List ℕ) (z : Sizes) (row : List ℕ) (h : Runs f z row z.u) where
  pub empty-row : Sound f z → (r : Option ℕ) → Vacant row z r → r ≡ some_number (empty_slot z (run_of f z))
  empty-row s r v = v.is (run_of f z) h.run s.laid.above

  pub free-row : (len k : ℕ) → free_place z len (row_run row) k ≡ free_place z len (run_of f z) k
  unfolding free_place free_at
  free-row len k = least-same _ _ (room_of z len) (λ r a b. rw (sharer-same z (row_run row) (run_of f z) z.u h.run (run_from r k) z.u (omega arith)))

  pub sought : Sound f z → 2 * z.u ≤ length row → (k : ℕ) → 1 ≤ k → k ≤ 65536 → Sought row z k
  sought s w k a b =
      record { wide = w; ranged = s.booted.ranged; inside = λ t l m. subst (Lies z) (sym (h.run t l m)) (s.laid.inside t l m); some = a; few = b }

  pub hints : (ws : List ℕ) → Hints ws z (run_of f z) → Hints ws z (row_run row)
  hints ws g = record { held = λ m x a b. holder-same (row_run row) (run_of f z) z.u x h.run (g.held m x a b) }
