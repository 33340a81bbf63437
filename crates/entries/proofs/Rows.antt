-- The laws of the row: it is filled slot by slot, and what holds of its runs holds of the file's.
use Prim.Native.Nat.{ℕ, ◌+◌, ◌-◌, ◌*◌, ◌≤◌, ◌<◌}
use mathlib.Core.Path.{◌≡◌, refl, sym, ◌∙◌, ap, subst}
use mathlib.Core.Bool.{Bool}
use mathlib.Core.List.{List}
use native.Mathlib.Decide.{dec_le}
use native.Mathlib.Nat.{add-zero}
use native.Mathlib.Omega.{arith}
use borrow.Author.Tests.{lt-ltb}
use lib.ListN.{length, get_or, set, length-set}
use lib.Seq.{get_or-set_same, get_or-set_other}
use Rattle.lent.specs.Number.{be16, be32, widened, Plain}
use Rattle.std.specs.Prelude.{Option}
use Rattle.lent.specs.Least.{least, some_number}
use Rattle.lent.proofs.Leasts.{least-same}
use Rattle.lent.proofs.Numbers.{number-join}
use Rattle.paper.specs.declared.sizes.Sizes.{Sizes}
use Rattle.paper.specs.declared.sizes.Run.{Run}
use Rattle.paper.specs.Sizes.{word_at, home_of}
use Rattle.paper.specs.Index.{run_of, row_run, bad_at, shared_at, Booted}
use Rattle.paper.proofs.Forms.{word-old, current-first, current-last}
use Rattle.paper.proofs.Frame.{bad-same, shared_same}
use Rattle.entries.specs.Row.{Begins, Stated, Filled, Runs, Fits, Holder}

-- a test of a run that was read
pub read : (p : Run → Bool) {a b : Run} {x y : Bool} → a ≡ b → x ≡ p a → x ≡ y → p b ≡ y
read p e f g = sym (ap p e) ∙ sym f ∙ g

pub runs_none : (f : List ℕ) (z : Sizes) (row : List ℕ) → Runs f z row 0
runs_none f z row = record { run = λ s a b. absurd (omega arith) }

pub fits-none : (z : Sizes) (run : ℕ → Run) (i : ℕ) → i ≡ 0 → Fits z run i
fits-none z run i e = record { bad = record { none = λ s a b. absurd (omega arith) }; shared = record { none = λ s a b. absurd (omega arith) } }

pub runs-low : {f : List ℕ} {z : Sizes} {row : List ℕ} {i : ℕ} → Runs f z row i → (n : ℕ) → n ≤ i → Runs f z row n
runs-low h n l = record { run = λ s a b. h.run s a (omega arith) }

-- number i of an entry of either form, as it is decoded from place k
module _ (f : List ℕ) (at i k x r : ℕ) (p : Plain x 4294967296 r) where
  pub old-word : (v : ℕ) → k ≡ at + 2 * i → v ≡ be16 f k → x ≡ widened v → Plain (word_at 0 f at i) 4294967296 r
  unfolding word_at
  old-word v e q w = record { is = p.is ∙ w ∙ ap widened (q ∙ ap (be16 f) e); small = p.small }

  pub current-word : k ≡ at + 4 * i → x ≡ be32 f k → Plain (word_at 1 f at i) 4294967296 r
  unfolding word_at
  current-word e q = record { is = p.is ∙ q ∙ ap (be32 f) e; small = p.small }

-- a 16-bit number that is not negative is its own
pub not_negative : (v : ℕ) → v < 32768 → Plain (widened v) 4294967296 v
unfolding widened
not_negative v h = record { is = simp (lt-ltb v 32768 h); small = omega arith }

-- the entry at a slot's home
pub run-stated : (f : List ℕ) (z : Sizes) (s at v : ℕ) (r : Run) → at ≡ home_of z s → v ≡ z.version → Begins v f at r → Stated f z s r
run-stated f z s at v r e w b =
    let p : r.first ≡ word_at z.version f (home_of z s) 0 = b.first.is ∙ ap (λ x. word_at x f at 0) w ∙ ap (λ x. word_at z.version f x 0) e in
    let q : r.last ≡ word_at z.version f (home_of z s) 1 = b.last.is ∙ ap (λ x. word_at x f at 1) w ∙ ap (λ x. word_at z.version f x 1) e in
    record { is = simp (← p, ← q); first = b.first.small; last = b.last.small }

-- a file that opens is old or current
pub current : {f : List ℕ} {z : Sizes} → Booted f z → (z.version ≡ 0 → ⊥) → 1 ≡ z.version
current b h = let e = ap (λ (y : Sizes). y.version) b.reads in omega (arith, b.version)

-- ---- an entry that has nothing in it

wide-zero : 0 ≡ widened 0
unfolding widened
wide-zero = refl

-- the two halves are 0 where the whole is
pub filled-old : (f : List ℕ) (z : Sizes) (s at x r : ℕ) → at ≡ home_of z s → z.version ≡ 0 → x ≡ be32 f at → Plain x 4294967296 r → Filled f z s r
filled-old f z s at x r e v p q = record { none = none; small = omega (arith, q.small) }
  where
    none : r ≡ 0 → (run_of f z s).first + (run_of f z s).last ≡ 0
    none h =
        let i : 0 ≡ be16 f (at + 0) = rw add-zero (omega (arith, number-join 2 2 f at, q.is)) in
        let j : 0 ≡ be16 f (at + 2) = omega (arith, number-join 2 2 f at, q.is) in
        let a : 0 ≡ word_at z.version f (home_of z s) 0 = word-old f z.version at 0 v i wide-zero ∙ ap (λ y. word_at z.version f y 0) e in
        let b : 0 ≡ word_at z.version f (home_of z s) 1 = word-old f z.version at 1 v j wide-zero ∙ ap (λ y. word_at z.version f y 1) e in
        omega arith

pub filled-current : (f : List ℕ) (z : Sizes) (s : ℕ) (r : Run) → Stated f z s r → Filled f z s (r.first + r.last)
filled-current f z s r t =
    record { none = λ h. subst (λ (y : Run). y.first + y.last ≡ 0) t.is h; small = omega (arith, t.first, t.last) }

-- the two numbers at a slot's home, in the current form
module _ (f : List ℕ) (z : Sizes) (s at x y : ℕ) (v : z.version ≡ 1) (e : at ≡ home_of z s) (p : x ≡ be32 f at) (q : y ≡ be32 f (at + 4)) where
  pub current-is : ◌≡◌ {A = Run} (record { first = x; last = y }) (run_of f z s)
  current-is =
      let j : x ≡ (run_of f z s).first = p ∙ ap (be32 f) e ∙ sym (current-first f z s v) in
      let k : y ≡ (run_of f z s).last = q ∙ ap (λ h. be32 f (h + 4)) e ∙ sym (current-last f z s v) in
      simp (j, k)

  pub current-stated : (a b : ℕ) → Plain x 4294967296 a → Plain y 4294967296 b → Stated f z s (record { first = a; last = b })
  current-stated a b m n = record { is = rw (m.is, n.is) current-is; first = m.small; last = n.small }

-- the run of slot s is stored
module _ (f : List ℕ) (z : Sizes) (row : List ℕ) (s : ℕ) (low : 1 ≤ s) (long : 2 * s ≤ length row) (h : Runs f z row (s - 1)) (a : Run) (e : a ≡ run_of f z s) where
  after : List ℕ
  after = set (set row (2 * (s - 1)) a.first) (2 * (s - 1) + 1) a.last

  old : (t : ℕ) → 1 ≤ t → t < s → row_run after t ≡ row_run row t
  unfolding row_run after
  old t l m =
      let g : (k : ℕ) → k < 2 * (s - 1) → get_or (set (set row (2 * (s - 1)) a.first) (2 * (s - 1) + 1) a.last) k 0 ≡ get_or row k 0 =
      λ k j. get_or-set_other (set row (2 * (s - 1)) a.first) (2 * (s - 1) + 1) k a.last 0 (λ q. omega arith) ∙ get_or-set_other row (2 * (s - 1)) k a.first 0 (λ q. omega arith) in
      simp (g (2 * (t - 1)) (omega arith), g (2 * (t - 1) + 1) (omega arith))

  new : row_run after s ≡ a
  unfolding row_run after
  new =
      let p : get_or after (2 * (s - 1)) 0 ≡ a.first =
      get_or-set_other (set row (2 * (s - 1)) a.first) (2 * (s - 1) + 1) (2 * (s - 1)) a.last 0 (λ q. omega arith) ∙ get_or-set_same row (2 * (s - 1)) a.first 0 (omega arith) in
      let q : get_or after (2 * (s - 1) + 1) 0 ≡ a.last = get_or-set_same (set row (2 * (s - 1)) a.first) (2 * (s - 1) + 1) a.last 0 (simp length-set (omega arith)) in
      simp (p, q)

  pub runs-more : Runs f z (set (set row (2 * (s - 1)) a.first) (2 * (s - 1) + 1) a.last) s
  unfolding after
  runs-more = record { run = λ t l m. one t l m (dec_le s t) }
    where
      one : (t : ℕ) → 1 ≤ t → t ≤ s → Dec (s ≤ t) → row_run after t ≡ run_of f z t
      one t l m (no k) = old t l (omega arith) ∙ h.run t l (omega arith)
      one t l m (yes k) = let q : t ≡ s = omega arith in rw q (new ∙ e)

-- ---- runs that agree on the slots 1 to n, wherever they are read

pub holder-same : (run sun : ℕ → Run) (i x : ℕ) → ((s : ℕ) → 1 ≤ s → s ≤ i → run s ≡ sun s) → Holder sun i x → Holder run i x
holder-same run sun i x e h =
    let q = e h.slot h.low h.high in
    record { slot = h.slot; low = h.low; high = h.high; from = rw q h.from; to = rw q h.to }

pub fits-same : (z : Sizes) (run sun : ℕ → Run) (n : ℕ) → ((s : ℕ) → 1 ≤ s → s ≤ n → run s ≡ sun s) → (i : ℕ) → i ≤ n → Fits z sun i → Fits z run i
fits-same z run sun n e i h g =
    record {
      bad = record { none = λ s l m. bad-same z run sun n e s l (omega arith) ∙ g.bad.none s l m };
      shared = record { none = λ s l m. shared_same z run sun n e s l (omega arith) ∙ g.shared.none s l m };
    }

-- a row that holds the runs of the slots in use
module _ (z : Sizes) (row : List ℕ) (run : ℕ → Run) (h : (s : ℕ) → 1 ≤ s → s ≤ z.u → row_run row s ≡ run s) where
  pub bad-row : {k : Option ℕ} → k ≡ some_number (least (bad_at z (row_run row)) z.u) → k ≡ some_number (least (bad_at z run) z.u)
  bad-row e = e ∙ ap some_number (least-same _ _ z.u (bad-same z (row_run row) run z.u h))

  pub shared-row : {k : Option ℕ} → k ≡ some_number (least (shared_at (row_run row)) z.u) → k ≡ some_number (least (shared_at run) z.u)
  shared-row e = e ∙ ap some_number (least-same _ _ z.u (shared_same z (row_run row) run z.u h))

  pub fits-row : (i : ℕ) → i ≤ z.u → Fits z run i → Fits z (row_run row) i
  fits-row = fits-same z (row_run row) run z.u h
