-- 01, "Sizes": the bootstrap, its ranges, and what follows from the sizes alone; the older form of 02, 2026-01.
use Rattle.std.specs.Prelude.{ℕ, ◌+◌, ◌-◌, ◌*◌, ◌/◌, ◌%◌, ◌≤◌, min, ◌≡◌, Bool, not, cond, List, [], ◌∷◌, ltb, leb, eqb, length}
use Rattle.lent.specs.Number.{be16, be32, words, widened}
use Rattle.lent.specs.Lists.{all}
use Rattle.lent.specs.Checks.{Check, check}
use Rattle.paper.specs.declared.sizes.Sizes.{Sizes}
use Rattle.paper.specs.declared.refusal.Refusal.{Refusal}
use Rattle.paper.specs.declared.refusal.Refusal.TheVariants.{TooShort, OldForm, UnknownForm, OutOfRange, PastEnd}

-- word 8: 0 in the old form, 1 in the current one
abbrev pub version_of : List ℕ → ℕ
version_of f = be32 f 28

-- by version: what the old form has, and what the current one
abbrev pub by_form : {A : Type 0} → ℕ → A → A → A
by_form v old current = cond (eqb v 0) old current

-- number i, from 0 on, of those at place `at`: 32 bits each; in the old form 16, "integers two's complement", and it is the 32-bit number of the same value
unfoldable pub word_at : ℕ → List ℕ → ℕ → ℕ → ℕ
word_at v f at i = by_form v (widened (be16 f (at + 2 * i))) (be32 f (at + 4 * i))

-- "The counter is 16 plain bits and the type counts as 0"
unfoldable pub counter_of : List ℕ → ℕ
counter_of f = by_form (version_of f) (be16 f 10) (be32 f 20)

unfoldable pub type_of : List ℕ → ℕ
type_of f = by_form (version_of f) 0 (be32 f 24)

-- "Bootstrap: eight 32-bit words"; the old one "six 16-bit words (N, D, L, M, U, counter)"
abbrev pub sizes_of : List ℕ → Sizes
sizes_of f =
    record {
      n = word_at (version_of f) f 0 0;
      d = word_at (version_of f) f 0 1;
      l = word_at (version_of f) f 0 2;
      m = word_at (version_of f) f 0 3;
      u = word_at (version_of f) f 0 4;
      counter = counter_of f;
      kind = type_of f;
      version = version_of f;
    }

-- the bootstrap's 32 bytes, of version 1
unfoldable pub boot_bytes : Sizes → List ℕ
boot_bytes z = words (z.n ∷ z.d ∷ z.l ∷ z.m ∷ z.u ∷ z.counter ∷ z.kind ∷ 1 ∷ [])

-- the same sizes but for D, U and the counter
abbrev pub renewed : Sizes → ℕ → ℕ → ℕ → Sizes
renewed z d u c = record { n = z.n; d = d; l = z.l; m = z.m; u = u; counter = c; kind = z.kind; version = z.version }

-- "Capacity is (N-1) x L / M"
abbrev pub capacity_of : Sizes → ℕ
capacity_of z = (z.n - 1) * z.l / z.m

-- "The home of a slot s": its record and its place there
abbrev pub record_of : Sizes → ℕ → ℕ
record_of z s = 2 + (s - 1) * z.m / z.l

abbrev pub place_of : Sizes → ℕ → ℕ
place_of z s = (s - 1) * z.m % z.l

-- the byte of the file at which record r begins
abbrev pub start_of : Sizes → ℕ → ℕ
start_of z r = (r - 1) * z.l

-- the byte at which the entry of slot s begins: by record and place (law home-is)
abbrev pub home_of : Sizes → ℕ → ℕ
home_of z s = z.l + (s - 1) * z.m

-- "The room of a file is floor(lent length / L) records, at most 1,000,000"
abbrev pub room_of : Sizes → ℕ → ℕ
room_of z len = min (len / z.l) 1000000

-- the bytes that records 1 to N+D take
abbrev pub bytes_of : Sizes → ℕ
bytes_of z = (z.n + z.d) * z.l

-- the table's ranges for N, L and M, and "at most 4,096"
abbrev pub shape_tests : Sizes → List Bool
shape_tests z =
    leb 2 z.n
    ∷ leb z.n 513
    ∷ leb 512 z.l
    ∷ leb z.l 4096
    ∷ leb 64 z.m
    ∷ leb z.m z.l
    ∷ eqb (z.l % z.m) 0
    ∷ leb (capacity_of z) 4096
    ∷ []

unfoldable pub shaped : Sizes → Bool
shaped z = all (shape_tests z)

-- and for D, U and the type
abbrev pub count_tests : Sizes → List Bool
count_tests z = leb (z.n + z.d) 1000000 ∷ leb z.u (capacity_of z) ∷ leb z.kind 1 ∷ []

unfoldable pub in_range : Sizes → Bool
in_range z = all (shaped z ∷ count_tests z)

-- refusal 1, over a file's length
abbrev pub short : ℕ → Check Refusal
short len = check (ltb len 512) TooShort

-- refusals 3 to 5, in order, over the length and the sizes that the bootstrap states
abbrev pub size_checks : ℕ → Sizes → List (Check Refusal)
size_checks len z = check (ltb 1 z.version) UnknownForm ∷ check (not (in_range z)) OutOfRange ∷ check (ltb len (bytes_of z)) PastEnd ∷ []

abbrev pub too-short : List ℕ → Check Refusal
too-short f = short (length f)

abbrev pub word_checks : List ℕ → List (Check Refusal)
word_checks f = size_checks (length f) (sizes_of f)

-- a look asks for all of these
abbrev pub boot_checks : List ℕ → List (Check Refusal)
boot_checks f = too-short f ∷ word_checks f

-- "2 now means a save, keep or clear on an old file and keeps its place"
abbrev pub old_form : List ℕ → Check Refusal
old_form f = check (eqb (version_of f) 0) OldForm

abbrev pub change_boot : List ℕ → List (Check Refusal)
change_boot f = too-short f ∷ old_form f ∷ word_checks f

-- what `shaped` says
pub record Shaped (z : Sizes) : Type 0 where
  pub n_low : 2 ≤ z.n
  pub n_high : z.n ≤ 513
  pub l_low : 512 ≤ z.l
  pub l_high : z.l ≤ 4096
  pub m_low : 64 ≤ z.m
  pub m_high : z.m ≤ z.l
  pub divides : z.l % z.m ≡ 0
  pub slots : capacity_of z ≤ 4096

-- what `in_range` says
pub record Ranged (z : Sizes) : Type 0 where
  pub shape : Shaped z
  pub records : z.n + z.d ≤ 1000000
  pub used : z.u ≤ capacity_of z
  pub known : z.kind ≤ 1

-- slot s lies in the index
pub record Slotted (z : Sizes) (s : ℕ) : Type 0 where
  pub shape : Shaped z
  pub low : 1 ≤ s
  pub high : s ≤ capacity_of z
