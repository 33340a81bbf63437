-- 01, "The index entry": its fields, and what a mode makes of two of them.
use Rattle.std.specs.Prelude.{ℕ, ◌+◌, ◌-◌, Bool, true, cond, List, [], ◌∷◌, ◌++◌, leb, eqb, replicate, ℤ, pos, negsuc, Float}
use Rattle.std.specs.Float.{binary32, binary64}
use Rattle.std.specs.Float.Ieee.{of_bits}
use Rattle.lent.specs.Number.{be16, be32, be64, int16, words}
use Rattle.lent.specs.Lists.{all}
use Rattle.lent.specs.Part.{part}
use Rattle.lent.specs.Write.{zeros}
use Rattle.paper.specs.declared.sizes.Sizes.{Sizes}
use Rattle.paper.specs.declared.sizes.Run.{Run}
use Rattle.paper.specs.declared.entry.Kind.{Kind}
use Rattle.paper.specs.declared.entry.Kind.TheVariants.{Spectral, Continuum, Other}
use Rattle.paper.specs.declared.entry.Entry.{Entry}
use Rattle.paper.specs.Sizes.{by_form, word_at}

-- the natural number that an integer is; 0 for a negative one
abbrev pub natural_of : ℤ → ℕ
natural_of (pos n) = n
natural_of (negsuc n) = 0

-- "Mode 256 to 304 is continuum with type code 0 to 48, and 512 to 560 is spectral line with the same codes"
unfoldable pub kind_of : ℕ → Float → Float → Kind
kind_of mode a b =
    cond (all (leb 256 mode ∷ leb mode 304 ∷ [])) (Continuum (mode - 256) a b)
    (cond (all (leb 512 mode ∷ leb mode 560 ∷ [])) (Spectral (mode - 512) a b) (Other a b))

-- "entries that begin with first record, last record, magic number and position code as 16-bit numbers": the current form has no magic number, and its
-- position code at byte 60
unfoldable pub magic_of : ℕ → List ℕ → ℕ → ℕ
magic_of v f at = by_form v (be16 f (at + 4)) 0

unfoldable pub position_of : ℕ → List ℕ → ℕ → ℕ
position_of v f at = by_form v (be16 f (at + 6)) (be16 f (at + 60))

-- "Magic 2 is a version 1 scan"; so is every scan of the current form
unfoldable pub version_one : ℕ → List ℕ → ℕ → Bool
version_one v f at = by_form v (eqb (magic_of v f at) 2) true

-- the table of the entry's bytes, from place `at` of a file on
unfoldable pub fields_of : ℕ → List ℕ → ℕ → Entry
fields_of v f at =
    record {
      first = word_at v f at 0;
      last = word_at v f at 1;
      horizontal = be32 f (at + 8);
      vertical = be32 f (at + 12);
      source = part (at + 16) (at + 32) f;
      scan = be32 f (at + 32);
      field4 = be32 f (at + 36);
      field8 = be64 f (at + 40);
      lst = be32 f (at + 48);
      date = be32 f (at + 52);
      mode = int16 (be16 f (at + 56));
      number = int16 (be16 f (at + 58));
      position = int16 (position_of v f at);
      magic = int16 (magic_of v f at);
      kind = kind_of (natural_of (int16 (be16 f (at + 56)))) (of_bits binary32 (be32 f (at + 36))) (of_bits binary64 (be64 f (at + 40)));
    }

-- what stands for the entry where the call is refused: all zeros
abbrev pub no_entry : Entry
no_entry =
    record {
      first = 0;
      last = 0;
      horizontal = 0;
      vertical = 0;
      source = replicate 16 0;
      scan = 0;
      field4 = 0;
      field8 = 0;
      lst = 0;
      date = 0;
      mode = pos 0;
      number = pos 0;
      position = pos 0;
      magic = pos 0;
      kind = Other (of_bits binary32 0) (of_bits binary64 0);
    }

-- an entry as its M bytes: first and last record, bytes 8 to 61 as given, "62 to M-1 written as zeros"
unfoldable pub entry_bytes : Sizes → Run → List ℕ → List ℕ
entry_bytes z r about = words (r.first ∷ r.last ∷ []) ++ (about ++ zeros (z.m - 62))
