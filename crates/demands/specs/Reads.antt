-- Demand 2, "what we read is what those rules say": what list, show, read, class and data answer where they are accepted, in plain facts.
use Rattle.std.specs.Prelude.{ℕ, ◌+◌, ◌-◌, ◌*◌, ◌/◌, ◌≤◌, ◌<◌, ◌≡◌, false, List, length, get_or, Ok}
use Rattle.lent.specs.Number.{be16, int16}
use Rattle.lent.specs.Part.{part}
use Rattle.paper.specs.declared.sizes.Sizes.{Sizes}
use Rattle.paper.specs.Sizes.{sizes_of, version_of, word_at, record_of, place_of}
use Rattle.paper.specs.Entry.{natural_of}
use Rattle.paper.specs.Scan.{classes_of, headlen, datalen, class_of, data_of, Rule}
use Rattle.paper.specs.Look.{list_of, listed_of, listed_out, show_of, read_of}

-- "record 2 + ((s-1) x M) / L, rounded down, at place ((s-1) x M) mod L": the byte at which slot s's entry begins
abbrev pub entry_byte : Sizes → ℕ → ℕ
entry_byte z s = (record_of z s - 1) * z.l + place_of z s

-- the first two numbers of slot s's entry, of 32 bits each or, in the old form, 16: "first record, last record"
abbrev pub first_at : List ℕ → Sizes → ℕ → ℕ
first_at f z s = word_at z.version f (entry_byte z s) 0

abbrev pub last_at : List ℕ → Sizes → ℕ → ℕ
last_at f z s = word_at z.version f (entry_byte z s) 1

-- ---- list

-- "it writes slot, first and last as three 32-bit numbers per scan in slot order, and no further element, and answers the number of scans"
pub record Lines (f out : List ℕ) (n : ℕ) (after : List ℕ) : Type 0 where
  pub count : n ≡ length (list_of f)
  pub slot : (i : ℕ) → i < n → get_or after (3 * i) 0 ≡ get_or (list_of f) i 0
  pub first : (i : ℕ) → i < n → get_or after (3 * i + 1) 0 ≡ first_at f (sizes_of f) (get_or (list_of f) i 0)
  pub last : (i : ℕ) → i < n → get_or after (3 * i + 2) 0 ≡ last_at f (sizes_of f) (get_or (list_of f) i 0)
  pub beyond : (i : ℕ) → 3 * n ≤ i → get_or after i 0 ≡ get_or out i 0
  pub as_long : length after ≡ length out

abbrev pub ListLines : Type 0
ListLines = (f out : List ℕ) (n : ℕ) → listed_of f out ≡ Ok n → Lines f out n (listed_out f out)

-- ---- show

-- "the part of the lent file from first to last": the bytes of those records, and no other
pub record Shown (f : List ℕ) (z : Sizes) (s from to : ℕ) : Type 0 where
  pub only : (i : ℕ) → from ≤ i → i < to → (first_at f z s ≤ i / z.l + 1) × (i / z.l + 1 ≤ last_at f z s)
  pub each : (i : ℕ) → first_at f z s ≤ i / z.l + 1 → i / z.l + 1 ≤ last_at f z s → (from ≤ i) × (i < to)
  pub some : from < to
  pub within : to ≤ length f

abbrev pub ShowRecords : Type 0
ShowRecords = (f : List ℕ) (s from to : ℕ) → show_of f s ≡ Ok (from, to) → Shown f (sizes_of f) s from to

-- ---- read

-- "A read answers the first HEADLEN + DATALEN bytes of the entry's records", and never those of a scan that breaks a rule
pub record Read (f : List ℕ) (s from to : ℕ) : Type 0 where
  pub end : ℕ
  pub shows : show_of f s ≡ Ok (from, end)
  -- "Magic 2 is a version 1 scan; any other is listed and shown, but not read"
  pub version-one : version_of f ≡ 0 → be16 f (entry_byte (sizes_of f) s + 4) ≡ 2
  pub keeps : (n : ℕ) → Rule (part from end f) false n
  pub so_many : to ≡ from + (headlen (part from end f) + datalen (part from end f))
  pub within : to ≤ end
  -- so that its classes and data can be asked of what was read alone
  pub alone : (n : ℕ) → Rule (part from to f) false n

abbrev pub ReadScan : Type 0
ReadScan = (f : List ℕ) (s from to : ℕ) → read_of f s ≡ Ok (from, to) → Read f s from to

-- ---- class and data

-- "Each class runs from its start to the next class's start, the last one to HEADLEN", "the data follow at once": from byte 32 on with no gap and no overlap
pub record Tiled (s : List ℕ) : Type 0 where
  pub from : ℕ → ℕ
  pub to : ℕ → ℕ
  pub class : (k : ℕ) → 1 ≤ k → k ≤ classes_of s → class_of s k ≡ Ok (from k, to k)
  pub some : (k : ℕ) → 1 ≤ k → k ≤ classes_of s → from k < to k
  -- "a Real*8 word number counted from 1"
  pub starts : (k : ℕ) → 1 ≤ k → k ≤ classes_of s → from k + 8 ≡ 8 * natural_of (int16 (be16 s (2 * k)))
  pub first : from 1 ≡ 32
  pub next : (k : ℕ) → 1 ≤ k → k < classes_of s → to k ≡ from (k + 1)
  pub last : to (classes_of s) ≡ headlen s
  pub rest : data_of s ≡ Ok (headlen s, headlen s + datalen s)
  pub within : headlen s + datalen s ≤ length s
  -- "an empty part for a class number outside 1 to the count"
  pub below : class_of s 0 ≡ Ok (0, 0)
  pub above : (k : ℕ) → classes_of s < k → class_of s k ≡ Ok (0, 0)

-- where a class or the data are given at all
abbrev pub ClassesTile : Type 0
ClassesTile = (s : List ℕ) (k from to : ℕ) → class_of s k ≡ Ok (from, to) → Tiled s

abbrev pub DataTile : Type 0
DataTile = (s : List ℕ) (from to : ℕ) → data_of s ≡ Ok (from, to) → Tiled s
