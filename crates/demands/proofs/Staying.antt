-- Demand 3, of a slot that no change reached: entry, show and read answer as before, and give the same bytes.
use Rattle.std.specs.Prelude.{Ok, Err}
use Prim.Native.Nat.{ℕ, ◌+◌, ◌-◌, ◌≤◌}
use mathlib.Core.Path.{◌≡◌, refl, sym, ◌∙◌, ap}
use mathlib.Core.Bool.{Bool, true, false}
use mathlib.Core.List.{List, [], ◌∷◌}
use native.Mathlib.Omega.{arith}
use borrow.Author.Tests.{ne_eqb}
use lib.ListN.{length, get_or}
use Rattle.lent.specs.Number.{int16}
use Rattle.lent.specs.Part.{part, Alike}
use Rattle.lent.proofs.Parts.{part_at, part-part, alike-within}
use Rattle.paper.specs.declared.sizes.Sizes.{Sizes}
use Rattle.paper.specs.Sizes.{renewed, home_of}
use Rattle.paper.specs.Index.{run_of, Full, shown_of, entry_at, Sound}
use Rattle.paper.specs.Entry.{fields_of, magic_of, version_one}
use Rattle.paper.specs.Look.{found_of, InIndex}
use Rattle.paper.proofs.Sizing.{home-in}
use Rattle.paper.proofs.Opening.{open-sound}
use Rattle.paper.proofs.Forms.{word_same, magic-same, position-same, one_same}
use Rattle.paper.proofs.Frame as frame
use Rattle.demands.specs.History.{slot_of, run, reached, Held, held_at, Holding, change, Done, after, holds, Spares}
use Rattle.demands.specs.Survival.{StillSo, Stays}
use Rattle.demands.proofs.Histories.{history}
use Rattle.demands.proofs.Calling.{both, show-same, shows_same, read_same, reads_same, fields-rest, field-magic, magic-kept}

-- ---- what the slot holds

module _ (f g : List ℕ) (z : Sizes) (s : ℕ) (low : 64 ≤ z.m) (fits-f : home_of z s + z.m ≤ length f) (fits-g : home_of z s + z.m ≤ length g)
    (same : entry_at g z s ≡ entry_at f z s) where
  abbrev at : ℕ
  at = home_of z s

  alike : Alike f g at (at + z.m)
  alike i lo hi =
      let e : at + (i - at) ≡ i = omega arith in
      let byte : (h : List ℕ) → get_or h i 0 ≡ get_or (entry_at h z s) (i - at) 0 =
      λ h. ap (λ (x : ℕ). get_or h x 0) (sym e) ∙ sym (part_at at (at + z.m) h (i - at) (omega arith)) in
      byte g ∙ ap (λ (h : List ℕ). get_or h (i - at) 0) same ∙ sym (byte f)

  source-same : part (at + 16) (at + 32) g ≡ part (at + 16) (at + 32) f
  source-same =
      sym (part-part at (at + z.m) g 16 32 (omega arith) fits-g) ∙ ap (part 16 32) same ∙ part-part at (at + z.m) f 16 32 (omega arith) fits-f

  run-same : run_of g z s ≡ run_of f z s
  run-same = frame.run-same f g z s (alike-within f g (omega arith) (omega arith) alike)

  is_one : version_one z.version g (home_of z s) ≡ version_one z.version f (home_of z s)
  is_one = one_same f g at (at + z.m) alike z.version at (omega arith) (omega arith)

  fields-same : (v : ℕ) → fields_of v g (home_of z s) ≡ fields_of v f (home_of z s)
  fields-same v =
      fields-rest f g v v at (word_same f g at (at + z.m) alike v at 0 (omega arith) (omega arith)) (word_same f g at (at + z.m) alike v at 1 (omega arith) (omega arith))
      (position-same f g at (at + z.m) alike v at (omega arith) (omega arith)) source-same (alike-within f g (omega arith) (omega arith) alike)
      ∙ magic-kept (int16 (magic_of v g at)) (fields_of v f at) (field-magic v f at ∙ ap int16 (sym (magic-same f g at (at + z.m) alike v at (omega arith) (omega arith))))

-- ---- two files that open, whose slot s holds the same

module _ (f g : List ℕ) (z : Sizes) (d u c : ℕ) (F : Sound f z) (G : Sound g (renewed z d u c)) (s : ℕ)
    (held : InIndex z s → held_at g z s ≡ held_at f z s) where
  runs : InIndex z s → run_of g z s ≡ run_of f z s
  runs i =
      run-same f g z s F.booted.ranged.shape.m_low (home-in F.booted s i.low i.high) (home-in G.booted s i.low i.high)
      (ap (λ (x : Held). x.entry) (held i))

  shown : InIndex z s → shown_of g z s ≡ shown_of f z s
  shown i = ap (λ (x : Held). x.records) (held i)

  one : InIndex z s → Full (run_of f z s) → version_one z.version g (home_of z s) ≡ version_one z.version f (home_of z s)
  one i full =
      is_one f g z s F.booted.ranged.shape.m_low (home-in F.booted s i.low i.high) (home-in G.booted s i.low i.high)
      (ap (λ (x : Held). x.entry) (held i))

  still-so : StillSo f g s
  unfolding found_of
  still-so =
      record {
        entry =
            both f g z d u c z.kind z.version F G s runs Err (λ x. Ok (fields_of x.version g (home_of x s))) (λ x. Ok (fields_of x.version f (home_of x s)))
            (λ i full.
            ap Ok
            (fields-same f g z s F.booted.ranged.shape.m_low (home-in F.booted s i.low i.high) (home-in G.booted s i.low i.high)
            (ap (λ (x : Held). x.entry) (held i)) z.version));
        show = show-same f g z d u c z.kind z.version F G s runs shown one;
        shows = shows_same f g z d u c z.kind z.version F G s runs shown one;
        read = read_same f g z d u c z.kind z.version F G s runs shown one;
        reads = reads_same f g z d u c z.kind z.version F G s runs shown one;
      }

-- ---- after a history

-- what it did not reach holds what it held
spared : (os : List Done) (f : List ℕ) (h : Holding) (s : ℕ) → Spares f os s → holds f os h s ≡ h s
spared [] f h s w = refl
spared (o ∷ os) f h s w =
    spared os (run f o.op o.cut) (change f o.op o.cut h) s w.1 ∙ go (reached f o.op o.cut) refl
  where
    go : (t : Bool) → reached f o.op o.cut ≡ t → change f o.op o.cut h s ≡ h s
    go false e = rw e refl
    go true e = rw (e, ne_eqb s (slot_of f o.op) (λ q. w.0 e (sym q))) refl

pub stays : Stays
stays f z o os w s n =
    let x = history os f z o w (held_at f z) (λ t a b. refl) in
    still-so f (after f os) z x.d x.u x.c (open-sound o) x.sound s (λ i. x.shows s i.low i.high ∙ spared os f (held_at f z) s n)
