-- The laws of the marks: what they show once the records of one slot more are marked, and that such a slot breaks no rule.
use Prim.Native.Nat.{ℕ, ◌+◌, ◌≤◌, ◌<◌}
use mathlib.Core.Path.{◌≡◌, sym, subst}
use mathlib.Core.Bool.{false}
use mathlib.Core.List.{List}
use native.Mathlib.Decide.{dec_le}
use native.Mathlib.Omega.{arith}
use Rattle.lent.proofs.Leasts.{none_more}
use Rattle.marks.specs.Marks.{mark_of, Took, Clear}
use Rattle.paper.specs.declared.sizes.Sizes.{Sizes}
use Rattle.paper.specs.declared.sizes.Run.{Run}
use Rattle.paper.specs.Index.{run_of, bad_at, shared_at, Lies}
use Rattle.paper.proofs.Opening.{empty-lies, empty-apart, good-lies, lies-good, Shares, shares-common, facts-shared}
use Rattle.entries.specs.Row.{Fits, Bare, Holder}
use Rattle.entries.proofs.Rows.{holder-same}
use Rattle.index.specs.Judging.{Shows, Lodged}

-- ---- the records of one run

pub lodged : (ws vs : List ℕ) (a : Run) → Took ws vs a.first (a.last + 1) → Lodged ws vs a
lodged ws vs a t =
    record {
      clear = λ l x m n. t.clear x m (omega arith);
      marked = λ l x m n. t.marked x m (omega arith);
      kept = t.kept;
      below = t.below;
      above = λ x l. t.above x (omega arith);
    }

-- ---- slots that break no rule

pub fits_low : {z : Sizes} {run : ℕ → Run} {i : ℕ} → Fits z run i → (n : ℕ) → n ≤ i → Fits z run n
fits_low h n l = record { bad = record { none = λ s a b. h.bad.none s a (omega arith) }; shared = record { none = λ s a b. h.shared.none s a (omega arith) } }

-- the run of slot i + 1, which is one of them
pub fits_read : (run : ℕ → Run) (i : ℕ) {a : Run} {z : Sizes} {j : ℕ} → a ≡ run (i + 1) → Fits z run j → i < j → (a.first ≤ a.last) × (a.last ≤ z.n + z.d)
fits_read run i {a} {z} e h l =
    let k : Lies z a = subst (Lies z) (sym e) (good-lies z run (i + 1) (h.bad.none (i + 1) (omega arith) (omega arith))) in
    (order k (dec_le (a.first + a.last) 0), k.high)
  where
    order : Lies z a → Dec (a.first + a.last ≤ 0) → a.first ≤ a.last
    order k (yes o) = omega arith
    order k (no o) = k.order (omega arith)

-- ---- what the marks show

pub shows-none : {ws vs : List ℕ} (n : ℕ) (run : ℕ → Run) → Clear ws → Took ws vs 0 (n + 1) → Shows vs n run 0
shows-none n run c t =
    record {
      low = λ x l. t.marked x (omega arith) (omega arith);
      covers = λ s l m. absurd (omega arith);
      only = λ x l m. absurd (c.none x (t.above x (omega arith) m));
    }

pub shows-end : {ws : List ℕ} {n : ℕ} {run : ℕ → Run} {i : ℕ} → Shows ws n run i → (j : ℕ) → i ≡ j → Shows ws n run j
shows-end {ws} {n} {run} h j e = subst (Shows ws n run) e h

holder-more : {run : ℕ → Run} {i j x : ℕ} → i ≤ j → Holder run i x → Holder run j x
holder-more l h = record { slot = h.slot; low = h.low; high = omega arith; from = h.from; to = h.to }

-- runs that agree on the slots 1 to i
module _ (run sun : ℕ → Run) (i : ℕ) (e : (s : ℕ) → 1 ≤ s → s ≤ i → run s ≡ sun s) where
  pub shows-row : (ws : List ℕ) (n : ℕ) → Shows ws n run i → Shows ws n sun i
  shows-row ws n h = record { low = h.low; covers = covers; only = λ x l m. holder-same sun run i x (λ t a b. sym (e t a b)) (h.only x l m) }
    where
      covers : (t : ℕ) → 1 ≤ t → t ≤ i → (x : ℕ) → 1 ≤ x → (sun t).first ≤ x → x ≤ (sun t).last → mark_of ws x ≡ 1
      covers t l m = subst (λ (a : Run). (x : ℕ) → 1 ≤ x → a.first ≤ x → x ≤ a.last → mark_of ws x ≡ 1) (e t l m) (h.covers t l m)

-- slot i + 1, whose run was read and lodged
module _ (run : ℕ → Run) (i : ℕ) {ws vs : List ℕ} {a : Run} (e : a ≡ run (i + 1)) (l : Lodged ws vs a) where
  d : Lodged ws vs (run (i + 1))
  d = subst (Lodged ws vs) e l

  pub shows_more : {n : ℕ} → Shows ws n run i → Shows vs n run (i + 1)
  shows_more {n} h = record { low = λ x m. d.kept x (h.low x m); covers = λ t m. covers t m (dec_le t i); only = λ x m k. only x m k (dec_le (run (i + 1)).first x) (dec_le x (run (i + 1)).last) }
    where
      covers : (t : ℕ) → 1 ≤ t → Dec (t ≤ i) → t ≤ i + 1 → (x : ℕ) → 1 ≤ x → (run t).first ≤ x → x ≤ (run t).last → mark_of vs x ≡ 1
      covers t m (yes k) o x p q r = d.kept x (h.covers t m k x p q r)
      covers t m (no k) o x p q r = let s : t ≡ i + 1 = omega arith in let b = rw s at q in let f = rw s at r in d.marked (omega arith) x b f

      only : (x : ℕ) → n < x → mark_of vs x ≡ 1 → Dec ((run (i + 1)).first ≤ x) → Dec (x ≤ (run (i + 1)).last) → Holder run (i + 1) x
      only x m k (no p) q = holder-more (omega arith) (h.only x m (d.below x (omega arith) k))
      only x m k (yes p) (no q) = holder-more (omega arith) (h.only x m (d.above x (omega arith) k))
      only x m k (yes p) (yes q) = record { slot = i + 1; low = omega arith; high = omega arith; from = p; to = q }

  -- a run that met no mark lies past record n and shares no record with a smaller slot
  pub fits_more : {z : Sizes} → a.first ≤ a.last → a.last ≤ z.n + z.d → Shows ws z.n run i → Fits z run i → Fits z run (i + 1)
  fits_more {z} o m h f = record { bad = none_more f.bad (lies-good z run (i + 1) here); shared = none_more f.shared (facts-shared run (i + 1) clash) }
    where
      past : 1 ≤ a.last → Dec (a.first ≤ z.n) → z.n < a.first
      past k (no p) = omega arith
      past k (yes p) = absurd (l.clear k a.first (omega arith) o (h.low a.first p))

      here : Lies z (run (i + 1))
      here = subst (Lies z) e (record { low = λ k. past (omega arith) (dec_le a.first z.n); order = λ k. o; high = m })

      clash : (t : ℕ) → 1 ≤ t → t < i + 1 → Shares (run (i + 1)) (run t) → ⊥
      clash t p q s =
          let x = shares-common (run (i + 1)) (run t) z here (good-lies z run t (f.bad.none t p (omega arith))) s in
          d.clear s.left x.at x.from-r x.to-r (h.covers t p (omega arith) x.at (omega arith) x.from-t x.to-t)

-- the slots after slot i, up to slot j, are empty
module _ {f : List ℕ} {z : Sizes} {i j : ℕ} (b : Bare f z i j) where
  pub shows-bare : {ws : List ℕ} {n : ℕ} → Shows ws n (run_of f z) i → Shows ws n (run_of f z) j
  shows-bare {ws} h = record { low = h.low; covers = λ t l m. covers t l m (dec_le t i); only = λ x l m. holder-more b.low (h.only x l m) }
    where
      covers : (t : ℕ) → 1 ≤ t → t ≤ j → Dec (t ≤ i) → (x : ℕ) → 1 ≤ x → (run_of f z t).first ≤ x → x ≤ (run_of f z t).last → mark_of ws x ≡ 1
      covers t l m (yes k) x p q r = h.covers t l k x p q r
      covers t l m (no k) x p q r = absurd (omega (arith, b.empty t (omega arith) m))

  pub fits-bare : Fits z (run_of f z) i → Fits z (run_of f z) j
  fits-bare h = record { bad = record { none = λ s l m. good s l m (dec_le s i) }; shared = record { none = λ s l m. apart s l m (dec_le s i) } }
    where
      good : (s : ℕ) → 1 ≤ s → s ≤ j → Dec (s ≤ i) → bad_at z (run_of f z) s ≡ false
      good s l m (yes k) = h.bad.none s l k
      good s l m (no k) = lies-good z (run_of f z) s (empty-lies z (run_of f z s) (b.empty s (omega arith) m))

      apart : (s : ℕ) → 1 ≤ s → s ≤ j → Dec (s ≤ i) → shared_at (run_of f z) s ≡ false
      apart s l m (yes k) = h.shared.none s l k
      apart s l m (no k) = empty-apart (run_of f z) s (b.empty s (omega arith) m)
