-- The frame law: a file with the same length, bootstrap, index and bytes of every listed scan opens alike, lists the same and shows the same.
use Prim.Native.Nat.{ℕ, ◌+◌, ◌-◌, ◌*◌, ◌≤◌, ◌<◌}
use mathlib.Core.Path.{◌≡◌, refl, ◌∙◌, ap}
use mathlib.Core.List.{List}
use mathlib.Core.Logic.{⊎_elim}
use native.Mathlib.Omega.{arith}
use lib.ListN.{length}
use Rattle.lent.specs.Part.{part, Alike}
use Rattle.lent.proofs.Lists.{lt-or-ge}
use Rattle.lent.proofs.Leasts.{least-same}
use Rattle.lent.proofs.Parts.{part_same, alike-within}
use Rattle.paper.specs.declared.sizes.Sizes.{Sizes}
use Rattle.paper.specs.declared.sizes.Run.{Run}
use Rattle.paper.specs.Sizes.{capacity_of, start_of, home_of}
use Rattle.paper.specs.Index.{run_of, bad_at, above_at, shares, sharer, shared_at, index_of, shown_of, entry_at, Laid, Booted, Sound}
use Rattle.paper.proofs.Sizing.{head-long, home-end}
use Rattle.paper.proofs.Forms.{word_same, version-same, sizes-same}

-- ---- what rests on which bytes

-- an index is laid by its runs alone
pub laid_same : {z : Sizes} {run new : ℕ → Run} → z.u ≤ capacity_of z → ((s : ℕ) → 1 ≤ s → s ≤ capacity_of z → new s ≡ run s) → Laid z run → Laid z new
laid_same u e L =
    record {
      inside = λ s a b. rw (e s a (omega arith)) (L.inside s a b);
      above = λ s a b. rw (e s (omega arith) b) (L.above s a b);
      apart = λ s t r a b c. rw (e s a (omega arith), e t (omega arith) (omega arith)) (L.apart s t r a b c);
    }

-- and judged by the runs of its slots alone
module _ (z : Sizes) (run sun : ℕ → Run) (n : ℕ) (e : (s : ℕ) → 1 ≤ s → s ≤ n → run s ≡ sun s) where
  pub sharer-same : (r : Run) (m : ℕ) → m ≤ n → sharer run r m ≡ sharer sun r m
  unfolding sharer
  sharer-same r m h = least-same (λ t. shares r (run t)) (λ t. shares r (sun t)) m (λ t a b. ap (shares r) (e t a (omega arith)))

  pub bad-same : (s : ℕ) → 1 ≤ s → s ≤ n → bad_at z run s ≡ bad_at z sun s
  unfolding bad_at
  bad-same s l m = rw (e s l m)

  pub above_same : (s : ℕ) → 1 ≤ s → s ≤ n → above_at z run s ≡ above_at z sun s
  unfolding above_at
  above_same s l m = rw (e s l m)

  pub shared_same : (s : ℕ) → 1 ≤ s → s ≤ n → shared_at run s ≡ shared_at sun s
  unfolding shared_at
  shared_same s l m = rw (e s l m, sharer-same (sun s) (s - 1) (omega arith))

pub index-runs : (z : Sizes) (run sun : ℕ → Run) → z.u ≤ capacity_of z → ((s : ℕ) → 1 ≤ s → s ≤ capacity_of z → run s ≡ sun s) → index_of z run ≡ index_of z sun
unfolding index_of
index-runs z run sun u e =
    let c : ℕ = capacity_of z in
    rw (
      least-same (bad_at z run) (bad_at z sun) z.u (λ s a b. bad-same z run sun c e s a (omega arith)),
      least-same (above_at z run) (above_at z sun) c (above_same z run sun c e),
      least-same (shared_at run) (shared_at sun) z.u (λ s a b. shared_same z run sun c e s a (omega arith)),
    )

module _ (f g : List ℕ) where
  -- the bootstrap is read from the first 32 bytes
  pub booted-same : {z : Sizes} → length g ≡ length f → Alike f g 0 32 → Booted f z → Booted g z
  booted-same {z} e h b =
      record {
        reads = sizes-same f g h ∙ b.reads;
        long = rw e b.long;
        version = omega (arith, version-same f g h, b.version);
        ranged = b.ranged;
        held = rw e b.held;
      }

  -- a run from the first 8 bytes of its entry
  pub run-same : (z : Sizes) (s : ℕ) → Alike f g (home_of z s) (home_of z s + 8) → run_of g z s ≡ run_of f z s
  run-same z s h =
      rw (
        word_same f g (home_of z s) (home_of z s + 8) h z.version (home_of z s) 0 (omega arith) (omega arith),
        word_same f g (home_of z s) (home_of z s + 8) h z.version (home_of z s) 1 (omega arith) (omega arith),
      )

  -- and what a slot shows from its run and the bytes of its records
  pub shown-same : (z : Sizes) (s : ℕ) → length g ≡ length f → run_of g z s ≡ run_of f z s
      → Alike f g (start_of z (run_of f z s).first) ((run_of f z s).last * z.l) → shown_of g z s ≡ shown_of f z s
  shown-same z s e r h =
      ap (λ (x : Run). part (start_of z x.first) (x.last * z.l) g) r
      ∙ part_same f g (start_of z (run_of f z s).first) ((run_of f z s).last * z.l) e h

  pub entry-same : (z : Sizes) (s : ℕ) → length g ≡ length f → Alike f g (home_of z s) (home_of z s + z.m) → entry_at g z s ≡ entry_at f z s
  entry-same z s e h = part_same f g (home_of z s) (home_of z s + z.m) e h

-- ---- the law

-- g lists what f lists, with the same entries and the same bytes
pub record Kept (z : Sizes) (f g : List ℕ) : Type 0 where
  pub runs : (s : ℕ) → 1 ≤ s → s ≤ capacity_of z → run_of g z s ≡ run_of f z s
  pub shown : (s : ℕ) → 1 ≤ s → s ≤ capacity_of z → shown_of g z s ≡ shown_of f z s
  pub entries : (s : ℕ) → 1 ≤ s → s ≤ capacity_of z → entry_at g z s ≡ entry_at f z s

pub kept_refl : (z : Sizes) (f : List ℕ) → Kept z f f
kept_refl z f = record { runs = λ s a b. refl; shown = λ s a b. refl; entries = λ s a b. refl }

pub kept_then : {z : Sizes} {f g h : List ℕ} → Kept z f g → Kept z g h → Kept z f h
kept_then p q =
    record {
      runs = λ s a b. q.runs s a b ∙ p.runs s a b;
      shown = λ s a b. q.shown s a b ∙ p.shown s a b;
      entries = λ s a b. q.entries s a b ∙ p.entries s a b;
    }

-- g has f's bytes in bootstrap, index and every listed scan: what may differ is the rest of the data section
pub record Frame (z : Sizes) (f g : List ℕ) : Type 0 where
  pub len : length g ≡ length f
  pub head : Alike f g 0 (z.n * z.l)
  pub body : (s : ℕ) → 1 ≤ s → s ≤ z.u → Alike f g (start_of z (run_of f z s).first) ((run_of f z s).last * z.l)

module _ {z : Sizes} {f g : List ℕ} (S : Sound f z) (F : Frame z f g) where
  home_same : (s n : ℕ) → 1 ≤ s → s ≤ capacity_of z → n ≤ z.m → Alike f g (home_of z s) (home_of z s + n)
  home_same s n a b h = alike-within f g (omega arith) (omega (arith, home-end z S.booted.ranged.shape s a b)) F.head

  runs : (s : ℕ) → 1 ≤ s → s ≤ capacity_of z → run_of g z s ≡ run_of f z s
  runs s a b = run-same f g z s (home_same s 8 a b (omega (arith, S.booted.ranged.shape.m_low)))

  -- an empty slot has no bytes
  body : (s : ℕ) → 1 ≤ s → s ≤ capacity_of z → Alike f g (start_of z (run_of f z s).first) ((run_of f z s).last * z.l)
  body s a b i lo hi =
      ⊎_elim
      (λ (h : z.u < s).
      let e : (run_of f z s).last ≡ 0 = omega (arith, S.laid.above s h b) in
      absurd (omega (arith, ap (λ (x : ℕ). x * z.l) e)))
      (λ (h : s ≤ z.u). F.body s a h i lo hi)
      (lt-or-ge z.u s)

  pub frame-kept : Kept z f g
  frame-kept =
      record {
        runs = runs;
        shown = λ s a b. shown-same f g z s F.len (runs s a b) (body s a b);
        entries = λ s a b. entry-same f g z s F.len (home_same s z.m a b (omega arith));
      }

  pub frame-sound : Sound g z
  frame-sound =
      record {
        booted = booted-same f g F.len (alike-within f g (omega arith) (omega (arith, head-long z S.booted.ranged.shape)) F.head) S.booted;
        laid = laid_same S.booted.ranged.used runs S.laid;
      }
