-- 02, 2026-06: "A tablet came home with its index pages full of junk and a good record 1." What is found of such a file is what the whole one listed.
use Rattle.std.specs.Prelude.{ℕ, ◌*◌, ◌≤◌, ◌<◌, ◌≡◌, List, map, length, get_or, Ok}
use Rattle.paper.specs.declared.sizes.Sizes.{Sizes}
use Rattle.paper.specs.Sizes.{bytes_of}
use Rattle.paper.specs.Index.{boot_of, open_of}
use Rattle.paper.specs.Gaps.{GapsZero}
use Rattle.paper.specs.Find.{find_of, report_of, report_out}
use Rattle.demands.specs.Find.{AllFill, slot_find, Listed}

-- g has the first 32 bytes of f and its data section, the bytes of the records N+1 to N+D. Whatever else it holds, the rest of record 1, the index and
-- what follows the data section, few bytes or many, is its own
pub record IndexLost (f g : List ℕ) (z : Sizes) : Type 0 where
  pub long : bytes_of z ≤ length g
  pub boot : (i : ℕ) → i < 32 → get_or g i 0 ≡ get_or f i 0
  pub scans : (i : ℕ) → z.n * z.l ≤ i → i < bytes_of z → get_or g i 0 ≡ get_or f i 0

-- the search finds, answers and writes of g what it does of f
pub record SameSearch (f g : List ℕ) (z : Sizes) : Type 0 where
  pub boots : boot_of g ≡ Ok z
  pub finds : find_of g z ≡ find_of f z
  pub answers : (out : List ℕ) → report_of g out ≡ report_of f out
  pub lines : (out : List ℕ) → report_out g out ≡ report_out f out

-- For every file with a good bootstrap: the search looks at no byte of the index.
abbrev pub SearchSame : Type 0
SearchSame = (f g : List ℕ) (z : Sizes) → boot_of f ≡ Ok z → IndexLost f g z → SameSearch f g z

-- and what it finds of g are the scans that f listed, each once, in record order
pub record FoundLost (f g : List ℕ) (z : Sizes) : Type 0 where
  pub same : SameSearch f g z
  pub listed : Listed f z
  pub found : find_of g z ≡ map (slot_find f z) listed.slots

-- Of a file that meets the premises of `FindsListed`, once its index is lost.
abbrev pub FindsLost : Type 0
FindsLost = (f g : List ℕ) (z : Sizes) → open_of f ≡ Ok z → GapsZero f z → AllFill f z → IndexLost f g z → FoundLost f g z
