-- 02, 2026-07: "Bytes past the index are passed over". Of a link that was begun: how many bytes count of those that came, that no other leaves a trace, and what of the row stays as it was.
use Rattle.std.specs.Prelude.{ℕ, ◌*◌, ◌≤◌, ◌<◌, min, ◌≡◌, List, length, take, get_or, Ok, Err}
use Rattle.paper.specs.declared.sizes.Sizes.{Sizes}
use Rattle.paper.specs.declared.refusal.Refusal.{Refusal}
use Rattle.paper.specs.declared.link.Link.{Link}
use Rattle.paper.specs.Sizes.{sizes_of, capacity_of}
use Rattle.paper.specs.Index.{boot_of}
use Rattle.demands.specs.Causes.{end, Met, SizeRow}
use Rattle.demands.specs.Link.{State, begun, taking, after, joined, Comes}

-- the bootstrap of the bytes so far breaks none of 3, 4 and 5 over the length that was given
abbrev pub Unbroken : ℕ → List ℕ → Type 0
Unbroken len bytes = Met (SizeRow len (sizes_of bytes) end)

-- N x L, as the bytes so far state it
abbrev pub index_length : List ℕ → ℕ
index_length bytes = (sizes_of bytes).n * (sizes_of bytes).l

-- how many bytes count of those that came
pub record Counts (len : ℕ) (bytes : List ℕ) (k : Link) : Type 0 where
  pub short : len < 512 → k.came ≡ 0
  pub index : Unbroken len bytes → k.came ≡ min (index_length bytes) (length bytes)
  pub broken : 512 ≤ len → (Unbroken len bytes → ⊥) → k.came ≡ min 32 (length bytes)

abbrev pub LinkCounts : Type 0
LinkCounts = (len : ℕ) (row : List ℕ) (ps : List (List ℕ)) → 8192 ≤ length row → Counts len (joined ps) (after (begun len row) ps).link

-- what each field of the link holds
pub record Holds (len : ℕ) (bytes : List ℕ) (k : Link) : Type 0 where
  pub span : k.span ≡ len
  pub made : length k.boot ≡ 32
  -- the bytes so far, and zeros behind them
  pub boot : 512 ≤ len → (i : ℕ) → i < 32 → get_or k.boot i 0 ≡ get_or bytes i 0
  pub no_boot : len < 512 → (i : ℕ) → get_or k.boot i 0 ≡ 0
  pub ends : 32 ≤ length bytes → Unbroken len bytes → k.ends ≡ index_length bytes
  pub no_end : (32 ≤ length bytes → Unbroken len bytes → ⊥) → k.ends ≡ 0

abbrev pub LinkHolds : Type 0
LinkHolds = (len : ℕ) (row : List ℕ) (ps : List (List ℕ)) → 8192 ≤ length row → Holds len (joined ps) (after (begun len row) ps).link

-- link and row are those of the bytes that count, as if no others had come
pub record Traces (len : ℕ) (old bytes : List ℕ) (s : State) : Type 0 where
  pub short : len < 512 → s ≡ begun len old
  pub index : Unbroken len bytes → s ≡ taking (begun len old) (take (index_length bytes) bytes)
  pub broken : (Unbroken len bytes → ⊥) → s ≡ taking (begun len old) (take 32 bytes)

abbrev pub LinkTraces : Type 0
LinkTraces = (len : ℕ) (row : List ℕ) (ps : List (List ℕ)) → 8192 ≤ length row → Traces len row (joined ps) (after (begun len row) ps)

-- what of the row stays as it was
pub record RowStays (len : ℕ) (old bytes row : List ℕ) : Type 0 where
  pub short : len < 512 → row ≡ old
  pub early : length bytes ≤ 32 → row ≡ old
  pub broken : (Unbroken len bytes → ⊥) → row ≡ old
  -- two elements a slot
  pub past : (i : ℕ) → 2 * capacity_of (sizes_of bytes) ≤ i → get_or row i 0 ≡ get_or old i 0

abbrev pub LinkRowStays : Type 0
LinkRowStays = (len : ℕ) (row : List ℕ) (ps : List (List ℕ)) → 8192 ≤ length row → RowStays len row (joined ps) (after (begun len row) ps).row

-- ---- a file whose bytes come

-- the same by the file's bootstrap: N x L bytes and no more where it breaks nothing, at most its 32 where it is refused
pub record OfFile (f old bytes : List ℕ) (s : State) : Type 0 where
  pub index : (z : Sizes) → boot_of f ≡ Ok z → s.link.came ≡ min (z.n * z.l) (length bytes)
  pub first : (z : Sizes) → boot_of f ≡ Ok z → s ≡ taking (begun (length f) old) (take (z.n * z.l) bytes)
  pub past : (z : Sizes) → boot_of f ≡ Ok z → (i : ℕ) → 2 * capacity_of z ≤ i → get_or s.row i 0 ≡ get_or old i 0
  pub few : (r : Refusal) → boot_of f ≡ Err r → s.link.came ≤ 32
  pub stays : (r : Refusal) → boot_of f ≡ Err r → s.row ≡ old

abbrev pub LinkFile : Type 0
LinkFile = (f row : List ℕ) (ps : List (List ℕ)) → 8192 ≤ length row → Comes f (joined ps) → OfFile f row (joined ps) (after (begun (length f) row) ps)
