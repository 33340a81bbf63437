-- What a file's slots hold after one operation, cut anywhere, and after a history.
use Rattle.std.specs.Prelude.{Ok}
use Prim.Native.Nat.{ℕ, zero, suc, ◌+◌, ◌%◌, ◌≤◌, ◌<◌}
use mathlib.Core.Path.{◌≡◌, refl, sym, ◌∙◌, ap, subst}
use mathlib.Core.Bool.{Bool, true, false, cond}
use mathlib.Core.List.{List, [], ◌∷◌}
use mathlib.Core.Logic.{◌≢◌, ⊎_elim}
use native.Mathlib.Omega.{arith}
use native.Mathlib.Nat.{zero-add, suc-add}
use borrow.Author.Tests.{le-leb, lt-leb, eq-eqb, ne_eqb}
use lib.Dec.{leb}
use Rattle.lent.specs.Lists.{also}
use Rattle.lent.proofs.Lists.{lt-or-ge, same_or}
use Rattle.paper.specs.declared.sizes.Sizes.{Sizes}
use Rattle.paper.specs.declared.job.Job.{Job}
use Rattle.paper.specs.Sizes.{renewed, capacity_of}
use Rattle.paper.specs.Index.{shown_of, entry_at, open_of, Sound}
use Rattle.paper.specs.Store.{count_of, counter_after, sizes_after}
use Rattle.paper.proofs.Opening.{sound-open, open-sound}
use Rattle.paper.proofs.Frame.{Kept}
use Rattle.paper.proofs.Ready.{file_at, rows-sound, rows-kept, boot-keeps, end-keeps, end-entry, end-shown, end-others, end-entries, once-booted}
use Rattle.demands.specs.History.{Op, Whole, scan_of, records_of, slot_of, takes, State, state_after, Cut, steps_of, run, reached, renews, Held, held_at, given, Holding, put, change, Done, Wholes, after, holds, jobs, raised}
use Rattle.demands.proofs.Start.{Starts, starts, steps-are}

-- g opens with z's sizes but for D, U and the counter, which is raised n times, and its slots hold what h says
pub record Outcome (z : Sizes) (g : List ℕ) (h : Holding) (n : ℕ) : Type 0 where
  pub d : ℕ
  pub u : ℕ
  pub c : ℕ
  pub counts : c ≡ raised n z.counter
  pub sound : Sound g (renewed z d u c)
  pub shows : (t : ℕ) → 1 ≤ t → t ≤ capacity_of z → held_at g z t ≡ h t

held-is : (g : List ℕ) (z : Sizes) (t : ℕ) (a e : List ℕ) → shown_of g z t ≡ a → entry_at g z t ≡ e → held_at g z t ≡ record { records = a; entry = e }
held-is g z t a e p q =
    ap (λ (x : List ℕ). record { records = x; entry = entry_at g z t }) p ∙ ap (λ (x : List ℕ). record { records = a; entry = x }) q

held_kept : {z : Sizes} {f g : List ℕ} → Kept z f g → (t : ℕ) → 1 ≤ t → t ≤ capacity_of z → held_at g z t ≡ held_at f z t
held_kept {z} {f} {g} k t a b = held-is g z t (shown_of f z t) (entry_at f z t) (k.shown t a b) (k.entries t a b)

-- ---- one operation, after i of its steps

module _ {z : Sizes} {f : List ℕ} {op : Op} {j : Job} (B : Starts z f op j) where
  abbrev K : ℕ
  K = count_of z j

  -- what is held after i steps
  abbrev now : ℕ → Holding
  now i t = cond (leb (records_of z op + 2) i) (put (held_at f z) j.slot (given f z op) t) (held_at f z t)

  -- and how often the counter was raised
  abbrev times : ℕ → ℕ
  times i = cond (leb (records_of z op + 1) i) 1 0

  before : (i : ℕ) → i ≤ K → z.counter ≡ raised (times i) z.counter
  before i h = rw (lt-leb (records_of z op + 1) i (omega (arith, B.count))) refl

  once : (i : ℕ) → K < i → counter_after z ≡ raised (times i) z.counter
  once i h = rw (le-leb (records_of z op + 1) i (omega (arith, B.count))) refl

  early : (i : ℕ) → i < K + 2 → (x y : Held) → x ≡ cond (leb (records_of z op + 2) i) y x
  early i h x y = rw (lt-leb (records_of z op + 2) i (omega (arith, B.count)))

  late : (i : ℕ) → K + 2 ≤ i → (x y : Held) → y ≡ cond (leb (records_of z op + 2) i) y x
  late i h x y = rw (le-leb (records_of z op + 2) i (omega (arith, B.count)))

  end-held : (t : ℕ) → 1 ≤ t → t ≤ capacity_of z → held_at (file_at f (scan_of op) j (suc (suc K))) z t ≡ put (held_at f z) j.slot (given f z op) t
  end-held t a b =
      let Y = B.begins.ready in
      let g : List ℕ = file_at f (scan_of op) j (suc (suc K)) in
      ⊎_elim
      (λ (q : t ≡ j.slot).
      rw (q, eq-eqb j.slot j.slot refl)
      (held-is g z j.slot (given f z op).records (given f z op).entry (end-shown Y ∙ B.bytes) (end-entry Y ∙ B.entry)))
      (λ (q : t ≢ j.slot).
      rw (ne_eqb t j.slot q)
      (held-is g z t (shown_of f z t) (entry_at f z t) (end-others Y t a b q) (end-entries Y t a b q)))
      (same_or t j.slot)

  pub outcome-at : (i : ℕ) → Outcome z (file_at f (scan_of op) j i) (now i) (times i)
  outcome-at i =
      let Y = B.begins.ready in
      ⊎_elim
      (λ (h : K < i).
      record {
        d = (sizes_after f z j).d;
        u = (once-booted Y i h).u;
        c = counter_after z;
        counts = once i h;
        sound = (once-booted Y i h).sound;
        shows = λ t a b.
            ⊎_elim
            (λ (l : i < K + 2).
            let e : i ≡ suc K = omega arith in
            ap (λ (n : ℕ). held_at (file_at f (scan_of op) j n) z t) e ∙ held_kept (boot-keeps Y) t a b ∙ early i l _ _)
            (λ (l : K + 2 ≤ i). held_kept (end-keeps Y i l) t a b ∙ end-held t a b ∙ late i l _ _)
            (lt-or-ge i (K + 2));
      })
      (λ (h : i ≤ K).
      record {
        d = z.d;
        u = z.u;
        c = z.counter;
        counts = before i h;
        sound = rows-sound Y i h;
        shows = λ t a b. held_kept (rows-kept Y i h) t a b ∙ early i (omega arith) _ _;
      })
      (lt-or-ge K i)

-- ---- the same, accepted or refused, and cut

module _ (f : List ℕ) (z : Sizes) (o : open_of f ≡ Ok z) (op : Op) (w : Whole op) where
  -- `change` with the sizes and the verdict named
  abbrev change_at : Sizes → Bool → ℕ → Holding → Holding
  change_at y t i h s = cond (also t (leb (records_of y op + 2) i)) (put h (slot_of f op) (given f y op) s) (h s)

  abbrev times_at : Sizes → Bool → ℕ → ℕ
  times_at y t i = cond (also t (leb (records_of y op + 1) i)) 1 0

  one : (i : ℕ) (t : Bool) → takes f op ≡ t → Outcome z (cond t (state_after f op i).file f) (change_at z t i (held_at f z)) (times_at z t i)
  one i true e =
      let B = starts f z o op w e in
      subst (λ (s : State). Outcome z s.file (change_at z true i (held_at f z)) (times_at z true i)) (sym (steps-are B.begins i)) (outcome-at B i)
  one i false e = record { d = z.d; u = z.u; c = z.counter; counts = refl; sound = open-sound o; shows = λ t a b. refl }

  run-outcome : (cut : Cut) → Outcome z (run f op cut) (change f op cut (held_at f z)) (cond (renews f op cut) 1 0)
  unfolding run reached renews
  run-outcome cut =
      subst
      (λ (y : Sizes).
      Outcome z (cond (takes f op) (state_after f op (steps_of cut)).file f) (change_at y (takes f op) (steps_of cut) (held_at f z)) (times_at y (takes f op) (steps_of cut)))
      (sym (open-sound o).booted.reads) (one (steps_of cut) (takes f op) refl)

-- ---- a history

change-same : (f : List ℕ) (op : Op) (cut : Cut) (h g : Holding) (t : ℕ) → h t ≡ g t → change f op cut h t ≡ change f op cut g t
change-same f op cut h g t e = rw e

raised-more : (n m c : ℕ) → raised m (raised n c) ≡ raised (n + m) c
raised-more zero m c = ap (λ (k : ℕ). raised k c) (sym (zero-add m))
raised-more (suc n) m c = raised-more n m ((c + 1) % 4294967296) ∙ ap (λ (k : ℕ). raised k c) (sym (suc-add n m))

pub history : (os : List Done) (f : List ℕ) (z : Sizes) → open_of f ≡ Ok z → Wholes os → (h : Holding)
    → ((t : ℕ) → 1 ≤ t → t ≤ capacity_of z → held_at f z t ≡ h t) → Outcome z (after f os) (holds f os h) (jobs f os)
history [] f z o w h e = record { d = z.d; u = z.u; c = z.counter; counts = refl; sound = open-sound o; shows = e }
history (x ∷ os) f z o w h e =
    let n : ℕ = cond (renews f x.op x.cut) 1 0 in
    let one : Outcome z (run f x.op x.cut) (change f x.op x.cut (held_at f z)) n = run-outcome f z o x.op w.0 x.cut in
    let y : Sizes = renewed z one.d one.u one.c in
    let more : Outcome y (after f (x ∷ os)) (holds f (x ∷ os) h) (jobs (run f x.op x.cut) os) =
    history os (run f x.op x.cut) y (sound-open one.sound) w.1 (change f x.op x.cut h)
    (λ t a b. one.shows t a b ∙ change-same f x.op x.cut (held_at f z) h t (e t a b)) in
    record {
      d = more.d;
      u = more.u;
      c = more.c;
      counts = more.counts ∙ ap (raised (jobs (run f x.op x.cut) os)) one.counts ∙ raised-more n (jobs (run f x.op x.cut) os) z.counter;
      sound = more.sound;
      shows = more.shows;
    }
