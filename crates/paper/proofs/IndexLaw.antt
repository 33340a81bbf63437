-- The index law: one slot's entry written anew, empty or with a run that is free. The file opens, that slot shows the run, and the others what they showed.
use Prim.Native.Nat.{ℕ, ◌+◌, ◌*◌, ◌≤◌, ◌<◌}
use mathlib.Core.Path.{◌≡◌, sym, ◌∙◌, ap, subst}
use mathlib.Core.List.{List}
use mathlib.Core.Logic.{◌≢◌, ⊎_elim}
use native.Mathlib.Omega.{arith}
use lib.ListN.{length}
use Rattle.lent.specs.Part.{part, Alike}
use Rattle.lent.specs.Write.{write}
use Rattle.lent.proofs.Lists.{lt-or-ge, same_or}
use Rattle.lent.proofs.Parts.{part_same, alike-before, alike-after}
use Rattle.lent.proofs.Writes.{length-write}
use Rattle.paper.specs.declared.sizes.Sizes.{Sizes}
use Rattle.paper.specs.declared.sizes.Run.{Run}
use Rattle.paper.specs.Sizes.{capacity_of, start_of, home_of}
use Rattle.paper.specs.Index.{run_of, shown_of, entry_at, Lies, Laid, Sound}
use Rattle.paper.proofs.Sizing.{home-end, home-next, home-in}
use Rattle.paper.proofs.Opening.{inside-all, lies-end, lies-past}
use Rattle.paper.proofs.Encoding.{stated_by, run-back, entry-back}
use Rattle.paper.proofs.Frame.{booted-same, run-same, shown-same, entry-same}

-- the run shares no record with another slot's
abbrev pub Alone : Sizes → (ℕ → Run) → ℕ → Run → Type 0
Alone z run s r =
    (t q : ℕ) → 1 ≤ t → t ≤ capacity_of z → t ≢ s → z.n < q → r.first ≤ q → q ≤ r.last → (run t).first ≤ q → q ≤ (run t).last → ⊥

-- an index with one entry changed
laid-changed : {z : Sizes} {run new : ℕ → Run} (s : ℕ) → z.u ≤ capacity_of z → s ≤ z.u → Lies z (new s) → Alone z run s (new s)
    → ((t : ℕ) → 1 ≤ t → t ≢ s → new t ≡ run t) → Laid z run → Laid z new
laid-changed {z} {run} {new} s u h lies alone same L =
    record {
      inside = λ t a b.
          ⊎_elim (λ (q : t ≡ s). rw q lies) (λ (q : t ≢ s). rw (same t a q) (L.inside t a b)) (same_or t s);
      above = λ t a b. rw (same t (omega arith) (λ q. omega arith)) (L.above t a b);
      apart = apart;
    }
  where
    apart : (t v r : ℕ) → 1 ≤ t → t < v → v ≤ z.u → z.n < r → (new t).first ≤ r → r ≤ (new t).last → (new v).first ≤ r → r ≤ (new v).last → ⊥
    apart t v r h₁ h₂ h₃ n a b c d =
        ⊎_elim
        (λ (q : t ≡ s).
        let p : v ≢ s = λ e. omega arith in
        alone v r (omega arith) (omega arith) p n (rw q at a) (rw q at b) (rw (same v (omega arith) p) at c) (rw (same v (omega arith) p) at d))
        (λ (q : t ≢ s).
        ⊎_elim
        (λ (p : v ≡ s). alone t r h₁ (omega arith) q n (rw p at c) (rw p at d) (rw (same t h₁ q) at a) (rw (same t h₁ q) at b))
        (λ (p : v ≢ s).
        L.apart t v r h₁ h₂ h₃ n (rw (same t h₁ q) at a) (rw (same t h₁ q) at b) (rw (same v (omega arith) p) at c) (rw (same v (omega arith) p) at d))
        (same_or v s))
        (same_or t s)

-- the entry's bytes e, written to slot s, state a run that is empty or in range and that no other slot has a record of
module _ {f : List ℕ} {z : Sizes} (S : Sound f z) (v : z.version ≡ 1) (s : ℕ) (s₁ : 1 ≤ s) (s≤u : s ≤ z.u) (e : List ℕ) (em : length e ≡ z.m)
    (lies : Lies z (stated_by e)) (alone : Alone z (run_of f z) s (stated_by e)) where
  abbrev g : List ℕ
  g = write f (home_of z s) e

  s₂ : s ≤ capacity_of z
  s₂ = omega (arith, S.booted.ranged.used)

  fits : home_of z s + length e ≤ length f
  fits = omega (arith, home-in S.booted s s₁ s₂)

  starts : home_of z s ≤ length f
  starts = omega (arith, fits)

  pub index-length : length (write f (home_of z s) e) ≡ length f
  index-length = length-write f (home_of z s) e fits

  -- the entries of other slots, bootstrap and data are as they were
  other : (t n : ℕ) → 1 ≤ t → t ≢ s → n ≤ z.m → Alike f g (home_of z t) (home_of z t + n)
  other t n a ne h =
      let r = S.booted.ranged.shape in
      ⊎_elim
      (λ (k : t < s). alike-before f (home_of z s) e starts (home_of z t) (home_of z t + n) (omega (arith, home-next z r t s a k)))
      (λ (k : s ≤ t). alike-after f (home_of z s) e starts (home_of z t) (home_of z t + n) (omega (arith, home-next z r s t s₁ (omega arith))))
      (lt-or-ge t s)

  data-same : {r : Run} → Lies z r → Alike f g (start_of z r.first) (r.last * z.l)
  data-same h i lo hi =
      alike-after f (home_of z s) e starts (z.n * z.l) (length f) (omega (arith, home-end z S.booted.ranged.shape s s₁ s₂)) i
      (lies-past S.booted h i lo hi) (omega (arith, lies-end S.booted h))

  pub run-new : run_of (write f (home_of z s) e) z s ≡ stated_by e
  run-new = run-back f z s e starts (omega (arith, S.booted.ranged.shape.m_low)) v

  pub run-other : (t : ℕ) → 1 ≤ t → t ≢ s → run_of (write f (home_of z s) e) z t ≡ run_of f z t
  run-other t a ne = run-same f g z t (other t 8 a ne (omega (arith, S.booted.ranged.shape.m_low)))

  pub shown-new : shown_of (write f (home_of z s) e) z s ≡ part (start_of z (stated_by e).first) ((stated_by e).last * z.l) f
  shown-new =
      ap (λ (r : Run). part (start_of z r.first) (r.last * z.l) g) run-new
      ∙ part_same f g (start_of z (stated_by e).first) ((stated_by e).last * z.l) index-length (data-same lies)

  pub shown-other : (t : ℕ) → 1 ≤ t → t ≤ capacity_of z → t ≢ s → shown_of (write f (home_of z s) e) z t ≡ shown_of f z t
  shown-other t a b ne = shown-same f g z t index-length (run-other t a ne) (data-same (inside-all S.laid t a b))

  pub entry_new : entry_at (write f (home_of z s) e) z s ≡ e
  entry_new = entry-back f z s e starts (omega (arith, S.booted.ranged.shape.m_low)) em

  pub entry_other : (t : ℕ) → 1 ≤ t → t ≢ s → entry_at (write f (home_of z s) e) z t ≡ entry_at f z t
  entry_other t a ne = entry-same f g z t index-length (other t z.m a ne (omega arith))

  -- record 1 lies before every entry
  pub index-head : Alike f (write f (home_of z s) e) 0 32
  index-head = alike-before f (home_of z s) e starts 0 32 (omega (arith, S.booted.ranged.shape.l_low))

  pub index-sound : Sound (write f (home_of z s) e) z
  index-sound =
      record {
        booted = booted-same f g index-length index-head S.booted;
        laid = laid-changed s S.booted.ranged.used s≤u (rw run-new lies) (subst (Alone z (run_of f z) s) (sym run-new) alone) run-other S.laid;
      }
