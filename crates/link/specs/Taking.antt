-- The parts in which a piece is taken.
use Rattle.std.specs.Prelude.{ℕ, ◌+◌, ◌-◌, ◌*◌, ◌≤◌, ◌<◌, ◌≡◌, List, length, take, get_or}
use Rattle.paper.specs.declared.sizes.Sizes.{Sizes}
use Rattle.paper.specs.Sizes.{by_form}
use Rattle.paper.specs.Link.{element_after}

-- ---- the bytes after the bootstrap's first 32

-- those of them that count
abbrev pub counted : ℕ → ℕ → List ℕ → List ℕ
counted came ends p = take (ends - came) p

-- what is asked of the sizes: N, L, M, and whether the form is the old one
abbrev pub shaping : ℕ → ℕ → ℕ → ℕ → Sizes
shaping n l m v = record { n = n; d = 0; l = l; m = m; u = 0; counter = 0; kind = 0; version = v }

abbrev pub shape_of : Sizes → Sizes
shape_of z = shaping z.n z.l z.m (by_form z.version 0 1)

-- ---- slot by slot, slots counted from 0

-- the byte of the file at which the entry of slot i begins
abbrev pub home_at : Sizes → ℕ → ℕ
home_at z i = z.l + i * z.m

-- from row to next the two elements of slot i took the bytes, and every other stayed
pub record Put (z : Sizes) (at : ℕ) (bytes row next : List ℕ) (i : ℕ) : Type 0 where
  pub as_long : length next ≡ length row
  pub first : get_or next (2 * i) 0 ≡ element_after z at bytes row (2 * i)
  pub last : get_or next (2 * i + 1) 0 ≡ element_after z at bytes row (2 * i + 1)
  pub below : (e : ℕ) → e < 2 * i → get_or next e 0 ≡ get_or row e 0
  pub above : (e : ℕ) → 2 * i + 1 < e → get_or next e 0 ≡ get_or row e 0

-- the slots from slot i on, up to slot j, took the bytes, and every other stayed
pub record Went (z : Sizes) (at : ℕ) (bytes row next : List ℕ) (i j : ℕ) : Type 0 where
  pub as_long : length next ≡ length row
  pub low : i ≤ j
  pub here : (e : ℕ) → 2 * i ≤ e → e < 2 * j → get_or next e 0 ≡ element_after z at bytes row e
  pub below : (e : ℕ) → e < 2 * i → get_or next e 0 ≡ get_or row e 0
  pub above : (e : ℕ) → 2 * j ≤ e → get_or next e 0 ≡ get_or row e 0

-- the slots before slot i took the bytes, and every other stayed
pub record TakenTo (z : Sizes) (at : ℕ) (bytes row next : List ℕ) (i : ℕ) : Type 0 where
  pub as_long : length next ≡ length row
  pub before : (e : ℕ) → e < 2 * i → get_or next e 0 ≡ element_after z at bytes row e
  pub rest : (e : ℕ) → 2 * i ≤ e → get_or next e 0 ≡ get_or row e 0

-- the entries of the slots before slot i end at byte `at` or before it
abbrev pub Passed : Sizes → ℕ → ℕ → Type 0
Passed z at i = (j : ℕ) → j < i → home_at z j + z.m ≤ at
