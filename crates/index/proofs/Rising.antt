-- The laws of the pass over slots that rise, and of the empty ones it goes past.
use Prim.Native.Nat.{ℕ, ◌+◌, ◌-◌, ◌*◌, ◌≤◌, ◌<◌}
use mathlib.Core.Path.{◌≡◌, subst}
use mathlib.Core.Bool.{false}
use mathlib.Core.List.{List}
use native.Mathlib.Decide.{dec_le}
use native.Mathlib.Omega.{arith}
use lib.ListN.{length, set}
use Rattle.lent.proofs.Leasts.{none-zero}
use Rattle.paper.specs.declared.sizes.Sizes.{Sizes}
use Rattle.paper.specs.declared.sizes.Run.{Run}
use Rattle.paper.specs.Index.{run_of, shared_at, Lies}
use Rattle.paper.proofs.Opening.{lies-good, facts-shared, empty-apart}
use Rattle.entries.specs.Row.{Runs, Fits, Bare}
use Rattle.entries.proofs.Rows.{runs-low, runs-more, fits-none}
use Rattle.index.specs.Judging.{Still, Climbs, JudgedTo}

-- ---- runs that rise

-- what slot t adds
record Adds (n : ℕ) (run : ℕ → Run) (top t : ℕ) : Type 0 where
  reach : (run t).last ≤ top
  order : (run t).first ≤ (run t).last
  past : 1 ≤ (run t).last → n < (run t).first
  shared : shared_at run t ≡ false

module _ (n : ℕ) (run : ℕ → Run) where
  pub climbs-none : Climbs n run 0 n
  climbs-none =
      record {
        reach = λ t a b. absurd (omega arith);
        order = λ t a b. absurd (omega arith);
        past = λ t a b. absurd (omega arith);
        shared = none-zero _;
        low = omega arith;
      }

  module _ (i top : ℕ) (c : Climbs n run i top) where
    -- the slots up to j add to those up to i
    climbs-on : (j next : ℕ) → top ≤ next → ((t : ℕ) → i < t → t ≤ j → Adds n run next t) → Climbs n run j next
    climbs-on j next l g =
        record {
          reach = λ t a b. (one t a b).reach;
          order = λ t a b. (one t a b).order;
          past = λ t a b. (one t a b).past;
          shared = record { none = λ t a b. (one t a b).shared };
          low = omega (arith, c.low);
        }
      where
        go : (t : ℕ) → 1 ≤ t → t ≤ j → Dec (t ≤ i) → Adds n run next t
        go t a b (yes k) =
            record { reach = omega (arith, c.reach t a k); order = c.order t a k; past = c.past t a k; shared = c.shared.none t a k }
        go t a b (no k) = g t (omega arith) b

        one : (t : ℕ) → 1 ≤ t → t ≤ j → Adds n run next t
        one t a b = go t a b (dec_le t i)

    -- slot i + 1, whose run was read
    pub climbs-more : (a : Run) → a ≡ run (i + 1) → Still a top → (next : ℕ) → top ≤ next → a.last ≤ next → Climbs n run (i + 1) next
    climbs-more a e s next l m =
        climbs-on (i + 1) next l (λ t p q. let h : i + 1 ≡ t = omega arith in subst (Adds n run next) h new)
      where
        k : Still (run (i + 1)) top
        k = subst (λ (r : Run). Still r top) e s

        new : Adds n run next (i + 1)
        new =
            record {
              reach = subst (λ (r : Run). r.last ≤ next) e m;
              order = k.order;
              past = λ p. omega (arith, k.past p, c.low);
              shared = facts-shared run (i + 1) (λ t p q h. omega (arith, k.past h.left, h.before, c.reach t p (omega arith)));
            }

-- slots that rise break no rule, where the highest of their records is one of the file's
pub climbs-fits : {z : Sizes} {run : ℕ → Run} {i top : ℕ} → Climbs z.n run i top → top ≤ z.n + z.d → Fits z run i
climbs-fits {z} {run} {i} {top} c l =
    record { bad = record { none = λ s a b. lies-good z run s (lies s a b) }; shared = c.shared }
  where
    lies : (s : ℕ) → 1 ≤ s → s ≤ i → Lies z (run s)
    lies s a b =
        record {
          low = λ k. c.past s a b (omega (arith, c.order s a b));
          order = λ k. c.order s a b;
          high = omega (arith, c.reach s a b);
        }

module _ {f : List ℕ} {z : Sizes} {row : List ℕ} {i top r : ℕ} where
  -- r slots of the first i: all, or none
  pub climbs-judged : i ≤ z.u → Runs f z row i → Climbs z.n (run_of f z) i top → (r ≤ i) × (1 ≤ r → (r ≡ i) × (top ≤ z.n + z.d)) → JudgedTo f z row r
  climbs-judged m h c w = record { most = omega (arith, w.0); runs = runs-low h r w.0; fits = fits (dec_le 1 r) }
    where
      fits : Dec (1 ≤ r) → Fits z (run_of f z) r
      fits (yes k) = let q : i ≡ r = omega (arith, (w.1 k).0) in subst (Fits z (run_of f z)) q (climbs-fits c (w.1 k).1)
      fits (no k) = fits-none z (run_of f z) r (omega arith)

-- ---- slots that are empty

module _ (f : List ℕ) (z : Sizes) where
  pub climbs-bare : (n i j top : ℕ) → Climbs n (run_of f z) i top → Bare f z i j → Climbs n (run_of f z) j top
  climbs-bare n i j top c b =
      climbs-on n (run_of f z) i top c j top (omega arith) (λ t l m.
      let e = b.empty t l m in
      record { reach = omega arith; order = omega arith; past = λ p. absurd (omega arith); shared = empty-apart (run_of f z) t e })

  -- slot x + 1 is empty, and two zeros are stored for it
  pub runs-bare : (row : List ℕ) (i j x : ℕ) → Bare f z i j → i ≤ x → x < j → 2 * j ≤ length row → Runs f z row x
      → Runs f z (set (set row (2 * x) 0) (2 * x + 1) 0) (x + 1)
  runs-bare row i j x b l m w h =
      let q : x + 1 - 1 ≡ x = omega arith in
      let e = b.empty (x + 1) (omega arith) (omega arith) in
      let u : (run_of f z (x + 1)).first ≡ 0 = omega arith in
      let v : (run_of f z (x + 1)).last ≡ 0 = omega arith in
      rw q at (runs-more f z row (x + 1) (omega arith) (omega arith) (rw q h) (record { first = 0; last = 0 }) (simp (u, v)))
