-- Demand 2, of the entry as the call gives it: its fields are the entry's bytes, its kind is what the mode says, and after a save they are those given.
use Rattle.std.specs.Prelude.{ℕ, ◌+◌, ◌-◌, ◌%◌, ◌≤◌, ◌<◌, ◌≡◌, List, [], ◌++◌, length, get_or, ℤ, pos, negsuc, Ok}
use Rattle.std.specs.Float.{binary32, binary64}
use Rattle.std.specs.Float.Ieee.{of_bits}
use Rattle.lent.specs.Number.{big, bytes, be16}
use Rattle.lent.specs.Part.{part}
use Rattle.paper.specs.declared.sizes.Sizes.{Sizes}
use Rattle.paper.specs.declared.entry.Entry.{Entry}
use Rattle.paper.specs.declared.job.Job.{Job}
use Rattle.paper.specs.declared.job.Step.TheVariants.{Saved}
use Rattle.paper.specs.Refusals.{KindSays, kind_says}
use Rattle.paper.specs.Sizes.{sizes_of}
use Rattle.paper.specs.Look.{found_of, fields_in}
use Rattle.paper.specs.Store.{records_for}
use Rattle.paper.specs.Step.{step_answer}
use Rattle.demands.specs.Reads.{entry_byte}
use Rattle.paper.specs.Answers.{taken_in}

-- what is lent is bytes
abbrev pub Bytes : List ℕ → Type 0
Bytes f = (i : ℕ) → get_or f i 0 < 256

-- "integers two's complement": an Integer*2 as its 16 bits
abbrev pub bits16 : ℤ → ℕ
bits16 (pos n) = n
bits16 (negsuc n) = 65535 - n

-- the same entry but for the magic number
abbrev pub with_magic : ℤ → Entry → Entry
with_magic magic e =
    record {
      first = e.first;
      last = e.last;
      horizontal = e.horizontal;
      vertical = e.vertical;
      source = e.source;
      scan = e.scan;
      field4 = e.field4;
      field8 = e.field8;
      lst = e.lst;
      date = e.date;
      mode = e.mode;
      number = e.number;
      position = e.position;
      magic = magic;
      kind = e.kind;
    }

-- the table's bytes 8 to 59, from the fields, in its order; and what follows them
abbrev pub middle_bytes : Entry → List ℕ → List ℕ
middle_bytes e rest =
    bytes big 4 e.horizontal
    ++ (bytes big 4 e.vertical
    ++ (e.source
    ++ (bytes big 4 e.scan
    ++ (bytes big 4 e.field4
    ++ (bytes big 8 e.field8
    ++ (bytes big 4 e.lst
    ++ (bytes big 4 e.date
    ++ (bytes big 2 (bits16 e.mode) ++ (bytes big 2 (bits16 e.number) ++ rest)))))))))

-- bytes 0 to 61 of the current form
unfoldable pub field_bytes : Entry → List ℕ
field_bytes e = bytes big 4 e.first ++ (bytes big 4 e.last ++ middle_bytes e (bytes big 2 (bits16 e.position)))

-- bytes 0 to 59 of the old one: "first record, last record, magic number and position code as 16-bit numbers. Bytes 8 to 59 are as now"
unfoldable pub old_bytes : Entry → List ℕ
old_bytes e =
    bytes big 2 (e.first % 65536)
    ++ (bytes big 2 (e.last % 65536) ++ (bytes big 2 (bits16 e.magic) ++ (bytes big 2 (bits16 e.position) ++ middle_bytes e [])))

-- what a kind says: its number (0 other, 1 continuum, 2 spectral line), its type code, and the values of bytes 36 to 39 and 40 to 47
abbrev pub kind_as : Entry → ℕ → ℕ → KindSays
kind_as e number code = record { number = number; code = code; single = of_bits binary32 e.field4; double = of_bits binary64 e.field8 }

-- "Mode 256 to 304 is continuum with type code 0 to 48, and 512 to 560 is spectral line with the same codes"; m is the mode's 16 bits
pub record KindIs (m : ℕ) (e : Entry) : Type 0 where
  pub continuum : 256 ≤ m → m ≤ 304 → kind_says e.kind ≡ kind_as e 1 (m - 256)
  pub spectral : 512 ≤ m → m ≤ 560 → kind_says e.kind ≡ kind_as e 2 (m - 512)
  pub other : (256 ≤ m → m ≤ 304 → ⊥) → (512 ≤ m → m ≤ 560 → ⊥) → kind_says e.kind ≡ kind_as e 0 0

-- the entry of slot s
pub record EntryIs (f : List ℕ) (z : Sizes) (s : ℕ) (e : Entry) : Type 0 where
  pub fields : z.version ≡ 1 → field_bytes e ≡ part (entry_byte z s) (entry_byte z s + 62) f
  pub no_magic : z.version ≡ 1 → e.magic ≡ pos 0
  pub old_fields : z.version ≡ 0 → old_bytes e ≡ part (entry_byte z s) (entry_byte z s + 60) f
  pub kind : KindIs (be16 f (entry_byte z s + 56)) e

abbrev pub EntryFields : Type 0
EntryFields = (f : List ℕ) (s : ℕ) → Bytes f → taken_in (found_of f s) ≡ Ok tt → EntryIs f (sizes_of f) s (fields_in (found_of f s))

-- of an old file "first record, last record .. as 16-bit numbers": those numbers themselves, and none of them is a negative one
pub record OldRunIs (f : List ℕ) (z : Sizes) (s : ℕ) (e : Entry) : Type 0 where
  pub old_first : z.version ≡ 0 → e.first ≡ be16 f (entry_byte z s)
  pub old_last : z.version ≡ 0 → e.last ≡ be16 f (entry_byte z s + 2)
  pub old_small : z.version ≡ 0 → (e.first < 32768) × (e.last < 32768)

abbrev pub OldRuns : Type 0
OldRuns = (f : List ℕ) (s : ℕ) → taken_in (found_of f s) ≡ Ok tt → OldRunIs f (sizes_of f) s (fields_in (found_of f s))

-- what the call gives of a slot that was saved: the entry's bytes 8 to 61 as given, and the records of the job
pub record SavedEntry (f scan : List ℕ) (j : Job) : Type 0 where
  pub taken : taken_in (found_of f j.slot) ≡ Ok tt
  pub about : part 8 62 (field_bytes (fields_in (found_of f j.slot))) ≡ j.about
  pub first : (fields_in (found_of f j.slot)).first ≡ j.first
  pub last : (fields_in (found_of f j.slot)).last ≡ j.first + records_for (sizes_of f) (length scan) - 1

-- A step that answers Saved: the entry call on the very file lent to it gives what the job was given.
abbrev pub SavedGives : Type 0
SavedGives =
    (f scan : List ℕ) (j : Job) (r count : ℕ) → Bytes f → step_answer f scan j ≡ Ok (Saved r count) → length j.about ≡ 54 → SavedEntry f scan j
