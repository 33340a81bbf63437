-- 02, 2026-06, of the files that this store makes: their scans fill exactly their records whatever was cut, and a file that was blanked here and changed by
-- confirmed jobs alone is found whole, its index lost or not.
use Rattle.std.specs.Prelude.{ℕ, ◌≡◌, List, Ok}
use Rattle.paper.specs.declared.sizes.Sizes.{Sizes}
use Rattle.paper.specs.Index.{open_of}
use Rattle.paper.specs.Store.{blank_sizes, blank_of, blank_file}
use Rattle.paper.specs.Gaps.{GapsZero}
use Rattle.demands.specs.History.{Done, Wholes, after}
use Rattle.demands.specs.Gaps.{Finished}
use Rattle.demands.specs.Find.{AllFill, Listed}
use Rattle.demands.specs.Lost.{IndexLost, FoundLost}

-- After any history, cut anywhere, from a file whose scans all obey the rules and fill exactly their records: a file that opens (`PowerCut`), and they all do.
abbrev pub FillsStay : Type 0
FillsStay =
    (f : List ℕ) (z : Sizes) → open_of f ≡ Ok z → AllFill f z → (os : List Done) → Wholes os → (y : Sizes) → open_of (after f os) ≡ Ok y
    → AllFill (after f os) y

-- A blank file has no data records and no scans.
abbrev pub BlankFills : Type 0
BlankFills =
    (f : List ℕ) (n l m : ℕ) → blank_of f n l m ≡ Ok tt
    → GapsZero (blank_file f n l m) (blank_sizes n l m) × AllFill (blank_file f n l m) (blank_sizes n l m)

-- the file meets the premises of `FindsListed`, so that the finds are those of its listed slots; and they are still, once its index is lost
pub record FoundWhole (g : List ℕ) : Type 0 where
  pub z : Sizes
  pub opens : open_of g ≡ Ok z
  pub gaps : GapsZero g z
  pub fill : AllFill g z
  pub listed : Listed g z
  pub lost : (h : List ℕ) → IndexLost g h z → FoundLost g h z

-- From a file that meets them: whatever was saved, kept and cleared since, refused ones too, if every accepted job was stepped until it was confirmed.
abbrev pub FoundStays : Type 0
FoundStays =
    (f : List ℕ) (z : Sizes) → open_of f ≡ Ok z → GapsZero f z → AllFill f z → (os : List Done) → Wholes os → Finished f os → FoundWhole (after f os)

-- So is a file that was blanked here, of whatever sizes and over whatever bytes, and changed by confirmed jobs alone.
abbrev pub OurFilesAreFound : Type 0
OurFilesAreFound =
    (f : List ℕ) (n l m : ℕ) → blank_of f n l m ≡ Ok tt → (os : List Done) → Wholes os → Finished (blank_file f n l m) os
    → FoundWhole (after (blank_file f n l m) os)
