-- The bootstrap law: record 1 written anew, with any D, U and counter that leave every listed scan in. The file opens with them, and shows the same.
use Prim.Native.Nat.{ℕ, ◌+◌, ◌≤◌, ◌<◌}
use mathlib.Core.Path.{◌≡◌, sym, subst}
use mathlib.Core.List.{List}
use native.Mathlib.Omega.{arith}
use lib.ListN.{length}
use Rattle.lent.specs.Part.{Alike}
use Rattle.lent.specs.Write.{write}
use Rattle.lent.proofs.Parts.{alike-after}
use Rattle.lent.proofs.Writes.{length-write}
use Rattle.paper.specs.declared.sizes.Sizes.{Sizes}
use Rattle.paper.specs.declared.sizes.Run.{Run}
use Rattle.paper.specs.Sizes.{boot_bytes, renewed, capacity_of, room_of, Ranged}
use Rattle.paper.specs.Index.{run_of, Lies, Laid, Sound}
use Rattle.paper.specs.Store.{highest}
use Rattle.paper.proofs.Sizing.{head-long, home-in}
use Rattle.paper.proofs.Opening.{inside-all, apart-all, lies-end, lies-past}
use Rattle.paper.proofs.Encoding.{length-boot, boot-reads, boot-version}
use Rattle.paper.proofs.Frame.{Kept, laid_same, run-same, shown-same, entry-same}
use Rattle.paper.proofs.Free.{room_in}
use Rattle.paper.proofs.Used.{highest-above}

-- D and U leave every listed scan in: none ends past N+D, none is in a slot above U, and N+D lies within the room
pub record Covers (z : Sizes) (run : ℕ → Run) (len d u : ℕ) : Type 0 where
  pub ends : (s : ℕ) → 1 ≤ s → s ≤ capacity_of z → (run s).last ≤ z.n + d
  pub over : (s : ℕ) → u < s → s ≤ capacity_of z → (run s).first + (run s).last ≡ 0
  pub room : z.n + d ≤ room_of z len
  pub slots : u ≤ capacity_of z

-- as a D does that is not lowered, with a U no lower than the highest slot with a scan
pub covers_more : {f : List ℕ} {z : Sizes} {d u : ℕ} → Sound f z → z.d ≤ d → highest f z ≤ u → z.n + d ≤ room_of z (length f) → u ≤ capacity_of z
    → Covers z (run_of f z) (length f) d u
covers_more {f} {z} S hd hu r c =
    record {
      ends = λ s a b. omega (arith, (inside-all S.laid s a b).high);
      over = λ s a b. highest-above f z s (omega arith) b;
      room = r;
      slots = c;
    }

-- it is a matter of the runs and of the length
pub covers_kept : {z : Sizes} {f g : List ℕ} {d u : ℕ} → Kept z f g → length g ≡ length f → Covers z (run_of f z) (length f) d u → Covers z (run_of g z) (length g) d u
covers_kept {z} {f} {g} {d} {u} k e C =
    record {
      ends = λ s a b. subst (λ (r : Run). r.last ≤ z.n + d) (sym (k.runs s a b)) (C.ends s a b);
      over = λ s a b. subst (λ (r : Run). r.first + r.last ≡ 0) (sym (k.runs s (omega arith) b)) (C.over s a b);
      room = rw e C.room;
      slots = C.slots;
    }

-- the new sizes over the old entries
laid-renewed : {z : Sizes} {run : ℕ → Run} {len d u c : ℕ} → Laid z run → Covers z run len d u → Laid (renewed z d u c) run
laid-renewed {z} {run} L C =
    let cap = C.slots in
    record {
      inside = λ s a b.
          let h : Lies z (run s) = inside-all L s a (omega arith) in
          record { low = h.low; order = h.order; high = C.ends s a (omega arith) };
      above = C.over;
      apart = λ s t r a b e. apart-all L s t r a (omega arith) (omega arith) (omega arith) (omega arith);
    }

module _ {f : List ℕ} {z : Sizes} {d u : ℕ} (S : Sound f z) (C : Covers z (run_of f z) (length f) d u) (v : z.version ≡ 1) (c : ℕ) (c32 : c < 4294967296) where
  abbrev y : Sizes
  y = renewed z d u c

  abbrev g : List ℕ
  g = write f 0 (boot_bytes y)

  ranged : Ranged y
  ranged =
      let r = S.booted.ranged in
      let q = r.shape in
      record { shape = omega arith; records = omega (arith, C.room); used = C.slots; known = r.known }

  fits : 0 + length (boot_bytes y) ≤ length f
  fits = omega (arith, length-boot y, S.booted.long)

  len : length g ≡ length f
  len = length-write f 0 (boot_bytes y) fits

  same : Alike f g 32 (length f)
  same = alike-after f 0 (boot_bytes y) (omega arith) 32 (length f) (omega (arith, length-boot y))

  runs : (s : ℕ) → 1 ≤ s → s ≤ capacity_of z → run_of g z s ≡ run_of f z s
  runs s a b =
      let r = S.booted.ranged.shape in
      run-same f g z s (λ i lo hi. same i (omega arith) (omega (arith, home-in S.booted s a b)))

  pub boot-kept : Kept z f (write f 0 (boot_bytes (renewed z d u c)))
  boot-kept =
      let r = S.booted.ranged.shape in
      record {
        runs = runs;
        shown = λ s a b.
            let h : Lies z (run_of f z s) = inside-all S.laid s a b in
            shown-same f g z s len (runs s a b)
            (λ i lo hi. same i (omega (arith, lies-past S.booted h i lo hi, head-long z r)) (omega (arith, lies-end S.booted h)));
        entries = λ s a b. entry-same f g z s len (λ i lo hi. same i (omega arith) (omega (arith, home-in S.booted s a b)));
      }

  pub boot-renewed : Sound (write f 0 (boot_bytes (renewed z d u c))) (renewed z d u c)
  boot-renewed =
      record {
        booted = record {
          reads = boot-reads f y ranged c32 v;
          long = rw len S.booted.long;
          version = omega (arith, boot-version f y);
          ranged = ranged;
          held = rw len (room_in z (length f) (z.n + d) C.room);
        };
        laid = laid_same C.slots runs (laid-renewed S.laid C);
      }

  pub boot-length : length (write f 0 (boot_bytes (renewed z d u c))) ≡ length f
  boot-length = len
