-- The entry of a slot, by what was read of it and stored.
use Prim.Native.Nat.{ℕ, ◌+◌, ◌*◌, ◌/◌, ◌%◌, ◌≤◌, ◌<◌}
use mathlib.Core.Path.{◌≡◌, refl, sym, ◌∙◌, ap, subst}
use mathlib.Core.Bool.{Bool, true, false, cond}
use mathlib.Core.List.{List, [], ◌∷◌, ◌++◌, append_assoc}
use mathlib.Core.Logic.{⊎_elim}
use native.Mathlib.Omega.{arith}
use native.Mathlib.Nat.{add-zero}
use borrow.Author.Tests.{lt-ltb, le-ltb}
use lib.ListN.{length, get_or, length-append}
use Rattle.lent.specs.Number.{big, be16, be32, bytes, numbers, words, widened}
use Rattle.lent.specs.Part.{part}
use Rattle.lent.specs.Write.{write}
use Rattle.lent.proofs.Lists.{lt-or-ge}
use Rattle.lent.proofs.Numbers.{number-join, two-small, bytes-two, bytes-four, length-numbers, number-first, number-next}
use Rattle.lent.proofs.Parts.{length_part}
use Rattle.lent.proofs.Writes.{write_then, write-nothing}
use Rattle.paper.specs.declared.sizes.Sizes.{Sizes}
use Rattle.paper.specs.declared.sizes.Run.{Run}
use Rattle.paper.specs.Sizes.{word_at, home_of}
use Rattle.paper.specs.Index.{run_of, empty, Full, Lies}
use Rattle.paper.specs.Entry.{position_of}
use Rattle.paper.specs.Convert.{Carried, carried_at, scan_as}
use Rattle.paper.proofs.Sizing.{home-in}
use Rattle.paper.proofs.Opening.{facts-empty, facts-full}
use Rattle.paper.proofs.Forms.{by_old, by-current, word-old, current-first, current-last}
use Rattle.paper.proofs.Carrying.{scan_old, scan_current, scan-short}
use Rattle.convert.specs.Going.{Told, Goes, told, old_scan, current_scan}

-- ---- the bytes of a scan's entry, one store right after the other

module _ (f : List ℕ) (at first last position : ℕ) (middle : List ℕ) (long : length middle ≡ 52) (h : at ≤ length f) where
  pub stored-old : (a b c d e : List ℕ) → a ≡ write f at (bytes big 2 first) → b ≡ write a (at + 2) (bytes big 2 last) → c ≡ write b (at + 4) (bytes big 2 2)
      → d ≡ write c (at + 6) (bytes big 2 position) → e ≡ write d (at + 8) middle → e ≡ write f at (numbers 2 (first ∷ last ∷ 2 ∷ position ∷ []) ++ middle)
  stored-old a b c d e p q r s t =
      let vs : List ℕ = first ∷ last ∷ 2 ∷ position ∷ [] in
      let w = length-numbers 2 vs in
      let one = number-first 2 f a at first p in
      let two = number-next 2 f a b at (at + 2) (first ∷ []) last one q refl h in
      let three = number-next 2 f b c at (at + 4) (first ∷ last ∷ []) 2 two r refl h in
      let four = number-next 2 f c d at (at + 6) (first ∷ last ∷ 2 ∷ []) position three s refl h in
      write_then f d e at (at + 8) (numbers 2 vs) middle four t (omega arith) h

  pub stored-current : (a b c d e g : List ℕ) → a ≡ write f at (bytes big 2 0) → b ≡ write a (at + 2) (bytes big 2 first) → c ≡ write b (at + 4) (bytes big 2 0)
      → d ≡ write c (at + 6) (bytes big 2 last) → e ≡ write d (at + 8) middle → g ≡ write e (at + 60) (bytes big 2 position)
      → g ≡ write f at (numbers 2 (0 ∷ first ∷ 0 ∷ last ∷ []) ++ (middle ++ numbers 2 (position ∷ [])))
  stored-current a b c d e g p q r s t u =
      let vs : List ℕ = 0 ∷ first ∷ 0 ∷ last ∷ [] in
      let ps : List ℕ = numbers 2 (position ∷ []) in
      let w = length-numbers 2 vs in
      let k : length (numbers 2 vs ++ middle) ≡ 60 = length-append (numbers 2 vs) middle ∙ omega arith in
      let one = number-first 2 f a at 0 p in
      let two = number-next 2 f a b at (at + 2) (0 ∷ []) first one q refl h in
      let three = number-next 2 f b c at (at + 4) (0 ∷ first ∷ []) 0 two r refl h in
      let four = number-next 2 f c d at (at + 6) (0 ∷ first ∷ 0 ∷ []) last three s refl h in
      let five = write_then f d e at (at + 8) (numbers 2 vs) middle four t (omega arith) h in
      write_then f e g at (at + 60) (numbers 2 vs ++ middle) ps five (number-first 2 e g (at + 60) position u) (omega arith) h ∙ ap (write f at) (append_assoc (numbers 2 vs) middle ps)

-- what was read of the entry at place `at`, and stored
pub middle-is : (at : ℕ) (f b : List ℕ) → b ≡ part (at + 8) (at + 8 + 52) f → at + 62 ≤ length f → (b ≡ part (at + 8) (at + 60) f) × (length b ≡ 52)
middle-is at f b e h =
    let k : at + 8 + 52 ≡ at + 60 = omega arith in
    (e ∙ ap (λ (x : ℕ). part (at + 8) x f) k, ap length e ∙ length_part (at + 8) (at + 8 + 52) f (omega arith) ∙ omega arith)

module _ (out f : List ℕ) (at first last x : ℕ) (b g : List ℕ) where
  pub old_of : first ≡ be16 f (at + 2) → last ≡ be16 f (at + 6) → x ≡ be16 f (at + 60) → b ≡ part (at + 8) (at + 60) f
      → g ≡ write out at (numbers 2 (first ∷ last ∷ 2 ∷ x ∷ []) ++ b) → g ≡ write out at (old_scan f at)
  old_of m n p q e = rw (← m, ← n, ← p, ← q) e

  pub current-of : first ≡ be16 f at → last ≡ be16 f (at + 2) → x ≡ be16 f (at + 6) → b ≡ part (at + 8) (at + 60) f
      → g ≡ write out at (numbers 2 (0 ∷ first ∷ 0 ∷ last ∷ []) ++ (b ++ numbers 2 (x ∷ []))) → g ≡ write out at (current_scan f at)
  current-of m n p q e = rw (← m, ← n, ← p, ← q) e

-- ---- what is read of an entry

-- where the other form has the position code
at_old : (v : ℕ) (f : List ℕ) (at : ℕ) → v ≡ 0 → be16 f (at + 6) ≡ position_of v f at
unfolding position_of
at_old v f at e = by_old v _ _ e

at-current : (v : ℕ) (f : List ℕ) (at : ℕ) → (v ≡ 0 → ⊥) → be16 f (at + 60) ≡ position_of v f at
unfolding position_of
at-current v f at h = by-current v _ _ h

shift : (k : ℕ) → k + 6 ≡ k + 4 + 2
shift k = omega arith

-- a 32-bit number that 16 bits hold: it is its lower half, and its upper half is 0
low_half : (f : List ℕ) (k : ℕ) → be32 f k ≤ 32767 → be16 f (k + 2) ≡ be32 f k
low_half f k h = omega (arith, number-join 2 2 f k)

half-word : (v : ℕ) → v < 65536 → bytes big 2 0 ++ bytes big 2 v ≡ bytes big 4 v
half-word v h =
    let p : 0 ∷ 0 ∷ [] ≡ bytes big 2 0 = bytes-two 0 0 0 (omega arith) (omega arith) in
    let q : (v / 256 % 256) ∷ (v % 256) ∷ [] ≡ bytes big 2 v = bytes-two v (v / 256 % 256) (v % 256) refl refl in
    rw (← p, ← q) (bytes-four v 0 0 (v / 256 % 256) (v % 256) (omega arith) (omega arith) refl refl)

half-words : (a b : ℕ) → a < 65536 → b < 65536 → numbers 2 (0 ∷ a ∷ 0 ∷ b ∷ []) ≡ words (a ∷ b ∷ [])
unfolding numbers
half-words a b h k =
    sym (append_assoc (bytes big 2 0) (bytes big 2 a) (bytes big 2 0 ++ (bytes big 2 b ++ [])))
    ∙ ap (λ (x : List ℕ). (bytes big 2 0 ++ bytes big 2 a) ++ x) (sym (append_assoc (bytes big 2 0) (bytes big 2 b) [])) ∙ rw (half-word a h, half-word b k) refl

-- a 16-bit number that counts a record is not negative
plain_word : (x : ℕ) → widened x ≤ 1000000 → x ≡ widened x
unfolding widened
plain_word x h =
    ⊎_elim (λ (l : x < 32768). sym (rw (lt-ltb x 32768 l))) (λ (l : 32768 ≤ x). let k = rw (le-ltb x 32768 l) at h in absurd (omega arith)) (lt-or-ge x 32768)

old-word : (v : ℕ) (f : List ℕ) (at i : ℕ) → v ≡ 0 → word_at v f at i ≤ 1000000 → be16 f (at + 2 * i) ≡ word_at v f at i
old-word v f at i e h =
    let w : widened (be16 f (at + 2 * i)) ≡ word_at v f at i = word-old f v at i e refl refl in
    plain_word (be16 f (at + 2 * i)) (omega arith) ∙ w

module _ (z : Sizes) (r : Run) (L : Lies z r) where
  lies-small : z.n + z.d ≤ 1000000 → (r.first ≤ 1000000) × (r.last ≤ 1000000)
  lies-small R =
      ⊎_elim (λ (k : Full r). (omega (arith, L.order k, L.high), omega (arith, L.high)))
      (λ (k : r.first + r.last ≤ 0). (omega arith, omega arith)) (lt-or-ge 0 (r.first + r.last))

  -- the last record tells
  last_none : r.last ≤ z.n → empty r ≡ true
  last_none e =
      facts-empty r
      (⊎_elim (λ (k : Full r). absurd (omega (arith, L.low k, L.order k))) (λ (k : r.first + r.last ≤ 0). omega arith) (lt-or-ge 0 (r.first + r.last)))

  last_some : z.n < r.last → empty r ≡ false
  last_some h = facts-full r (omega arith)

-- ---- the entry of slot s

pub reads_in : (v : ℕ) (f : List ℕ) (z : Sizes) (s out : ℕ) → Goes v f z s out → home_of z s + 64 ≤ length f
reads_in v f z s out G = let B = G.slot.booted in omega (arith, home-in B s G.slot.low G.slot.high, B.ranged.shape.m_low)

pub told_in : (v : ℕ) (f : List ℕ) (z : Sizes) (s out at : ℕ) → Goes v f z s out → at ≡ home_of z s → Told at (length f) out
told_in v f z s out at G e =
    record { from = omega (arith, reads_in v f z s out G); to = omega (arith, G.within, G.slot.booted.ranged.shape.m_low) }

-- the same of the number that the form is
pub goes-as : (v w : ℕ) (f : List ℕ) (z : Sizes) (s out : ℕ) → v ≡ w → Goes v f z s out → Goes w f z s out
goes-as v w f z s out e G = subst (λ (x : ℕ). Goes x f z s out) e G

pub told-as : (v w : ℕ) (f : List ℕ) (z : Sizes) (s : ℕ) (out g : List ℕ) → v ≡ w → g ≡ write out (home_of z s) (told w (carried_at f z s))
    → g ≡ write out (home_of z s) (told v (carried_at f z s))
told-as v w f z s out g e p = p ∙ ap (λ (x : ℕ). write out (home_of z s) (told x (carried_at f z s))) (sym e)

module _ (v : ℕ) (f : List ℕ) (z : Sizes) (s : ℕ) (out : List ℕ) (at : ℕ) (G : Goes v f z s (length out)) (home : at ≡ home_of z s) where
  abbrev run : Run
  run = run_of f z s

  nothing : run.last ≤ z.n → out ≡ write out (home_of z s) (told v (carried_at f z s))
  nothing e = rw (last_none z run G.lies e) (sym (write-nothing out (home_of z s)))

  something : (g b : List ℕ) → z.n < run.last → b ≡ scan_as v (carried_at f z s) → g ≡ write out at b → g ≡ write out (home_of z s) (told v (carried_at f z s))
  something g b h p q =
      rw (last_some z run G.lies h) (q ∙ ap (λ (x : ℕ). write out x b) home ∙ ap (write out (home_of z s)) p)

  -- of a current file
  module _ (e : z.version ≡ 1) (last : ℕ) (is : last ≡ be32 f (at + 4)) where
    last-current : last ≡ run.last
    last-current = is ∙ ap (λ (k : ℕ). be32 f (k + 4)) home ∙ sym (current-last f z s e)

    pub none-current : last ≤ z.n → out ≡ write out (home_of z s) (told v (carried_at f z s))
    none-current h = nothing (omega (arith, last-current))

    pub some-current : v ≡ 0 → z.n < last → (g : List ℕ) → g ≡ write out at (old_scan f at) → g ≡ write out (home_of z s) (told v (carried_at f z s))
    some-current w h g q =
        let N = G.narrow w in
        let c = current-first f z s e in
        let d = current-last f z s e in
        let i : be16 f (home_of z s + 2) ≡ run.first = low_half f (home_of z s) (omega arith) ∙ sym c in
        let j : be16 f (home_of z s + 6) ≡ run.last = ap (be16 f) (shift (home_of z s)) ∙ low_half f (home_of z s + 4) (omega arith) ∙ sym d in
        let x : be16 f (home_of z s + 60) ≡ position_of z.version f (home_of z s) = at-current z.version f (home_of z s) (λ k. omega arith) in
        something g (old_scan f at) (omega (arith, last-current)) (rw (home, i, j, x) (sym (scan_old v (carried_at f z s) w))) q

  -- of an old file
  module _ (e : z.version ≡ 0) (last : ℕ) (is : last ≡ be16 f (at + 2)) where
    small : (run.first ≤ 1000000) × (run.last ≤ 1000000)
    small = lies-small z run G.lies G.slot.booted.ranged.records

    last-old : be16 f (home_of z s + 2) ≡ run.last
    last-old = old-word z.version f (home_of z s) 1 e small.1

    first-old : be16 f (home_of z s) ≡ run.first
    first-old = ap (be16 f) (sym (add-zero (home_of z s))) ∙ old-word z.version f (home_of z s) 0 e small.0

    last-is : last ≡ run.last
    last-is = is ∙ ap (λ (k : ℕ). be16 f (k + 2)) home ∙ last-old

    pub none_old : last ≤ z.n → out ≡ write out (home_of z s) (told v (carried_at f z s))
    none_old h = nothing (omega (arith, last-is))

    pub some-old : (v ≡ 0 → ⊥) → ((i : ℕ) → get_or f i 0 < 256) → z.n < last → (g : List ℕ) → g ≡ write out at (current_scan f at) → g ≡ write out (home_of z s) (told v (carried_at f z s))
    some-old w low h g q =
        let p : be16 f (home_of z s + 6) ≡ position_of z.version f (home_of z s) = at_old z.version f (home_of z s) e in
        let a = two-small f low (home_of z s) in
        let b = two-small f low (home_of z s + 2) in
        let ws = half-words (be16 f (home_of z s)) (be16 f (home_of z s + 2)) a b in
        something g (current_scan f at) (omega (arith, last-is)) (rw (home, ws, first-old, last-old, p) (sym (scan_current v (carried_at f z s) w))) q

-- what an entry says is no longer than an entry
pub told-short : (v : ℕ) (c : Carried) → length c.middle ≤ 52 → length (told v c) ≤ 62
told-short v c h = go (empty c.run)
  where
    go : (t : Bool) → length (cond t [] (scan_as v c)) ≤ 62
    go true = omega arith
    go false = scan-short v c h
