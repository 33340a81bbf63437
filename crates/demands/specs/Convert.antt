-- 02, 2026-03: a file in the other form shows what it showed, and "there and home again shows the same list and entries from either side, and gives the same bytes
-- where padding and empty entries were zeros".
use Rattle.std.specs.Prelude.{ℕ, ◌*◌, ◌≤◌, ◌≡◌, List, ℤ, pos, length, take, drop, Ok}
use Rattle.paper.specs.Sizes.{by_form, sizes_of, version_of}
use Rattle.paper.specs.Index.{open_of}
use Rattle.paper.specs.Scan.{part_of}
use Rattle.paper.specs.Look.{list_of, listed_of, listed_out, found_of, show_of, read_of, fields_in}
use Rattle.paper.specs.Gaps.{gaps_of}
use Rattle.paper.specs.Find.{find_of, report_of, report_out}
use Rattle.paper.specs.Convert.{in_form, convert_of, converted_out, joined, Zeroed}
use Rattle.demands.specs.Entries.{Bytes, with_magic}
use Rattle.demands.specs.Survival.{StillSo}
use Rattle.paper.specs.Answers.{taken_in}

-- the file that a conversion makes: "the converted N records, then the file's own bytes from N x L on"
abbrev pub converted : ℕ → List ℕ → List ℕ → List ℕ
converted v f out = joined f (converted_out v f out)

-- the magic number in form v: "new to old gives 2", and the current form has none
abbrev pub magic_in : ℕ → ℤ
magic_in v = by_form v (pos 2) (pos 0)

-- "the same list", as the slots and as the call gives it
pub record Lists (f g : List ℕ) : Type 0 where
  pub slots : list_of g ≡ list_of f
  pub answer : (out : List ℕ) → listed_of g out ≡ listed_of f out
  pub lines : (out : List ℕ) → listed_out g out ≡ listed_out f out

-- of the data section the same answers: to the question of the gaps, and what is found, as the finds and as the search reports them
pub record SameData (f g : List ℕ) : Type 0 where
  pub gaps : gaps_of g ≡ gaps_of f
  pub finds : find_of g (sizes_of g) ≡ find_of f (sizes_of f)
  pub search : (out : List ℕ) → report_of g out ≡ report_of f out
  pub reported : (out : List ℕ) → report_out g out ≡ report_out f out

-- of slot s the same answers, the same bytes shown and read, and the same entry but the magic
pub record SameBut (v : ℕ) (f g : List ℕ) (s : ℕ) : Type 0 where
  pub answer : taken_in (found_of g s) ≡ taken_in (found_of f s)
  pub entry : taken_in (found_of f s) ≡ Ok tt → fields_in (found_of g s) ≡ with_magic (magic_in v) (fields_in (found_of f s))
  pub show : show_of g s ≡ show_of f s
  pub shows : part_of g (show_of g s) ≡ part_of f (show_of f s)
  pub read : read_of g s ≡ read_of f s
  pub reads : part_of g (read_of g s) ≡ part_of f (read_of f s)

-- g is f in form v
pub record There (v : ℕ) (f g : List ℕ) : Type 0 where
  pub opens : open_of g ≡ Ok (in_form v (sizes_of f))
  pub lists : Lists f g
  pub slots : (s : ℕ) → SameBut v f g s
  pub as_long : length g ≡ length f

-- g is f come home: whatever is asked of it, it answers as f does
pub record Home (f g : List ℕ) : Type 0 where
  pub opens : open_of g ≡ open_of f
  pub lists : Lists f g
  pub slots : (s : ℕ) → StillSo f g s

-- a conversion into either of two second buffers is accepted, and writes the same N x L bytes: it makes the same file
pub record Agree (v : ℕ) (f out other : List ℕ) : Type 0 where
  pub taken : convert_of v f other ≡ Ok tt
  pub written : take ((sizes_of f).n * (sizes_of f).l) (converted_out v f other) ≡ take ((sizes_of f).n * (sizes_of f).l) (converted_out v f out)
  pub made : converted v f other ≡ converted v f out

-- For every file, either form wanted, and every second buffer: `out` is lent for the way there, `back` for the way home.
pub record Converts : Type 0 where
  pub there : (v : ℕ) → v ≤ 1 → (f out : List ℕ) → Bytes f → convert_of v f out ≡ Ok tt → There v f (converted v f out)
  -- "home again is accepted from either side"
  pub taken : (v : ℕ) → v ≤ 1 → (f out back : List ℕ) → Bytes f → convert_of v f out ≡ Ok tt → (sizes_of f).n * (sizes_of f).l ≤ length back
      → convert_of (version_of f) (converted v f out) back ≡ Ok tt
  pub home : (v : ℕ) → v ≤ 1 → (f out back : List ℕ) → Bytes f → convert_of v f out ≡ Ok tt → (sizes_of f).n * (sizes_of f).l ≤ length back
      → Home f (converted (version_of f) (converted v f out) back)
  -- "the same bytes where padding and empty entries were zeros": of an old file past word 6 and from byte 60 of an entry on, of a current one past word 8 and from
  -- byte 62 on
  pub old-bytes : (f out back : List ℕ) → Bytes f → convert_of 1 f out ≡ Ok tt → (sizes_of f).n * (sizes_of f).l ≤ length back → Zeroed f (sizes_of f) 12 60
      → converted 0 (converted 1 f out) back ≡ f
  pub current_bytes : (f out back : List ℕ) → Bytes f → convert_of 0 f out ≡ Ok tt → (sizes_of f).n * (sizes_of f).l ≤ length back → Zeroed f (sizes_of f) 32 62
      → converted 1 (converted 0 f out) back ≡ f
  -- "the rest of that buffer untouched"
  pub beyond : (v : ℕ) (f out : List ℕ) → convert_of v f out ≡ Ok tt
      → (drop ((sizes_of f).n * (sizes_of f).l) (converted_out v f out) ≡ drop ((sizes_of f).n * (sizes_of f).l) out) × (length (converted_out v f out) ≡ length out)

-- and, of the same files and buffers: what the data section answers, how long the file come home is, and what is made
pub record ConvertsMore : Type 0 where
  pub section : (v : ℕ) → v ≤ 1 → (f out : List ℕ) → Bytes f → convert_of v f out ≡ Ok tt → SameData f (converted v f out)
  pub home_section : (v : ℕ) → v ≤ 1 → (f out back : List ℕ) → Bytes f → convert_of v f out ≡ Ok tt → (sizes_of f).n * (sizes_of f).l ≤ length back
      → SameData f (converted (version_of f) (converted v f out) back)
  pub home_long : (v : ℕ) → v ≤ 1 → (f out back : List ℕ) → Bytes f → convert_of v f out ≡ Ok tt → (sizes_of f).n * (sizes_of f).l ≤ length back
      → length (converted (version_of f) (converted v f out) back) ≡ length f
  -- what is made is bytes again, so all of this holds of it as of the file
  pub bytes : (v : ℕ) (f out : List ℕ) → Bytes f → convert_of v f out ≡ Ok tt → Bytes (converted v f out)
  -- "Empty entries and all padding become zeros, also past word 8": what is made is a file of which that is so, in the old form past word 6
  pub old_zeroed : (f out : List ℕ) → Bytes f → convert_of 0 f out ≡ Ok tt → Zeroed (converted 0 f out) (sizes_of (converted 0 f out)) 12 60
  pub current_zeroed : (f out : List ℕ) → Bytes f → convert_of 1 f out ≡ Ok tt → Zeroed (converted 1 f out) (sizes_of (converted 1 f out)) 32 62
  -- what is written does not rest on what stood in the second buffer: any other that is long enough is taken too, and gets the same bytes
  pub any_buffer : (v : ℕ) (f out other : List ℕ) → convert_of v f out ≡ Ok tt → (sizes_of f).n * (sizes_of f).l ≤ length other → Agree v f out other
