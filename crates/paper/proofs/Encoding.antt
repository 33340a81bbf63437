-- What is written is read back: the bootstrap's 32 bytes as sizes, an entry's bytes as its run and its bytes 8 to 61.
use Prim.Native.Nat.{ℕ, ◌+◌, ◌-◌, ◌≤◌, ◌<◌}
use mathlib.Core.Path.{◌≡◌, sym, ◌∙◌, ap}
use mathlib.Core.List.{List, [], ◌∷◌, ◌++◌}
use native.Mathlib.Omega.{arith}
use native.Mathlib.Nat.{add-zero}
use lib.ListN.{length, take, drop, length-append}
use lib.Seq.{take_at, drop_at}
use Rattle.lent.specs.Number.{big, be32, words}
use Rattle.lent.specs.Part.{part}
use Rattle.lent.specs.Write.{write, zeros}
use Rattle.lent.proofs.Numbers.{length-numbers, numbers-at, number_in, number-part, number-zeros}
use Rattle.lent.proofs.Parts.{part_in}
use Rattle.lent.proofs.Writes.{length-zeros}
use Rattle.paper.specs.declared.sizes.Sizes.{Sizes}
use Rattle.paper.specs.declared.sizes.Run.{Run}
use Rattle.paper.specs.Sizes.{sizes_of, version_of, boot_bytes, home_of, Ranged}
use Rattle.paper.specs.Index.{run_of, entry_at}
use Rattle.paper.specs.Entry.{entry_bytes}
use Rattle.paper.proofs.Forms.{current-word, current-counter, current-type, current-first, current-last}

-- ---- the bootstrap

pub length-boot : (z : Sizes) → length (boot_bytes z) ≡ 32
unfolding boot_bytes
length-boot z = length-numbers 4 (z.n ∷ z.d ∷ z.l ∷ z.m ∷ z.u ∷ z.counter ∷ z.kind ∷ 1 ∷ [])

-- once they are written they are the file's first 32
pub boot-there : (f : List ℕ) (z : Sizes) → take 32 (write f 0 (boot_bytes z)) ≡ boot_bytes z
boot-there f z =
    let n : 32 ≡ 0 + length (boot_bytes z) - 0 = omega (arith, length-boot z) in
    ap (λ (k : ℕ). take k (write f 0 (boot_bytes z))) n ∙ part_in f 0 (boot_bytes z) (omega arith)

-- what the bytes state, whatever follows them
pub version-back : (z : Sizes) (rest : List ℕ) → version_of (boot_bytes z ++ rest) ≡ 1
unfolding boot_bytes
version-back z rest = numbers-at 4 (z.n ∷ z.d ∷ z.l ∷ z.m ∷ z.u ∷ z.counter ∷ z.kind ∷ 1 ∷ []) rest 7 (omega arith) (omega arith)

pub sizes-back : (z : Sizes) (rest : List ℕ) → Ranged z → z.counter < 4294967296 → z.version ≡ 1 → sizes_of (boot_bytes z ++ rest) ≡ z
unfolding boot_bytes
sizes-back z rest r c v =
    let g : List ℕ = boot_bytes z ++ rest in
    let e = version-back z rest in
    let vs : List ℕ = z.n ∷ z.d ∷ z.l ∷ z.m ∷ z.u ∷ z.counter ∷ z.kind ∷ 1 ∷ [] in
    let s = r.shape in
    rw (
      current-word _ g 0 0 e ∙ numbers-at 4 vs rest 0 (omega arith) (omega arith),
      current-word _ g 0 1 e ∙ numbers-at 4 vs rest 1 (omega arith) (omega arith),
      current-word _ g 0 2 e ∙ numbers-at 4 vs rest 2 (omega arith) (omega arith),
      current-word _ g 0 3 e ∙ numbers-at 4 vs rest 3 (omega arith) (omega arith),
      current-word _ g 0 4 e ∙ numbers-at 4 vs rest 4 (omega arith) (omega arith),
      current-counter g e ∙ numbers-at 4 vs rest 5 (omega arith) c,
      current-type g e ∙ numbers-at 4 vs rest 6 (omega arith) (omega arith),
      e,
      ← v,
    )

-- the same, of a file whose record 1 was written
module _ (f : List ℕ) (z : Sizes) where
  pub boot-reads : Ranged z → z.counter < 4294967296 → z.version ≡ 1 → sizes_of (write f 0 (boot_bytes z)) ≡ z
  unfolding write
  boot-reads r c v = sizes-back z (drop (0 + length (boot_bytes z)) f) r c v

  pub boot-version : version_of (write f 0 (boot_bytes z)) ≡ 1
  unfolding write
  boot-version = version-back z (drop (0 + length (boot_bytes z)) f)

-- ---- an entry

-- the run that an entry's bytes state
abbrev pub stated_by : List ℕ → Run
stated_by e = record { first = be32 e 0; last = be32 e 4 }

-- the numbers of a run fit 32 bits
pub record Small (r : Run) : Type 0 where
  pub first_fits : r.first < 4294967296
  pub last_fits : r.last < 4294967296

module _ (z : Sizes) (r : Run) (about : List ℕ) where
  abbrev head : List ℕ
  head = words (r.first ∷ r.last ∷ [])

  length-head : length head ≡ 8
  length-head = length-numbers 4 (r.first ∷ r.last ∷ [])

  pub length-entry : length about ≡ 54 → 62 ≤ z.m → length (entry_bytes z r about) ≡ z.m
  unfolding entry_bytes
  length-entry h k = simp (length-append, length-head, length-zeros) (omega arith)

  pub entry-states : Small r → stated_by (entry_bytes z r about) ≡ r
  unfolding entry_bytes
  entry-states h =
      let vs : List ℕ = r.first ∷ r.last ∷ [] in
      let rest : List ℕ = about ++ zeros (z.m - 62) in
      rw (numbers-at 4 vs rest 0 (omega arith) h.first_fits, numbers-at 4 vs rest 1 (omega arith) h.last_fits)

  -- bytes 8 on, and bytes 8 to 61
  pub entry-rest : drop 8 (entry_bytes z r about) ≡ about ++ zeros (z.m - 62)
  unfolding entry_bytes
  entry-rest = drop_at head (about ++ zeros (z.m - 62)) 8 length-head

  pub entry-about : length about ≡ 54 → part 8 62 (entry_bytes z r about) ≡ about
  entry-about h = ap (take 54) entry-rest ∙ take_at about (zeros (z.m - 62)) 54 h

-- "M zeros as the entry" is an empty one
pub zeros-state : (m : ℕ) → stated_by (zeros m) ≡ record { first = 0; last = 0 }
zeros-state m = rw (number-zeros big 4 m 0, number-zeros big 4 m 4)

-- the run of a slot is the one that its entry's bytes state, in the current form
pub entry-run : (f : List ℕ) (z : Sizes) (s : ℕ) → z.version ≡ 1 → 8 ≤ z.m → stated_by (entry_at f z s) ≡ run_of f z s
entry-run f z s v h =
    let d : home_of z s + z.m - home_of z s ≡ z.m = omega arith in
    rw (
      number-part big 4 (home_of z s) (home_of z s + z.m) f 0 (omega arith),
      number-part big 4 (home_of z s) (home_of z s + z.m) f 4 (omega arith),
      add-zero,
      current-first f z s v,
      current-last f z s v,
    )

-- an entry written at its slot's home
module _ (f : List ℕ) (z : Sizes) (s : ℕ) (e : List ℕ) (fits : home_of z s ≤ length f) (long : 8 ≤ length e) where
  pub run-back : z.version ≡ 1 → run_of (write f (home_of z s) e) z s ≡ stated_by e
  run-back v =
      let a : be32 (write f (home_of z s) e) (home_of z s) ≡ be32 e 0 = rw add-zero at (number_in big 4 f (home_of z s) e 0 fits (omega arith)) in
      rw (current-first (write f (home_of z s) e) z s v ∙ a, current-last (write f (home_of z s) e) z s v ∙ number_in big 4 f (home_of z s) e 4 fits (omega arith))

  pub entry-back : length e ≡ z.m → entry_at (write f (home_of z s) e) z s ≡ e
  entry-back h = ap (λ (m : ℕ). part (home_of z s) (home_of z s + m) (write f (home_of z s) e)) (sym h) ∙ part_in f (home_of z s) e fits
