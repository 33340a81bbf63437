-- 02, 2026-06: how much a search may have to report. Finds share no record, so there are no more of them than data records.
use Rattle.std.specs.Prelude.{ℕ, ◌*◌, ◌≤◌, ◌≡◌, List, length, Ok}
use Rattle.paper.specs.declared.sizes.Sizes.{Sizes}
use Rattle.paper.specs.Index.{boot_of}
use Rattle.paper.specs.Find.{find_of, report_of}

-- no more finds than data records; so "then 17" is never said where 3 x D elements are lent
pub record Enough (f : List ℕ) (z : Sizes) : Type 0 where
  pub most : length (find_of f z) ≤ z.d
  pub accepted : (out : List ℕ) → 3 * z.d ≤ length out → report_of f out ≡ Ok (length (find_of f z))

-- For every file with a good bootstrap, whatever its index holds.
abbrev pub FindRoom : Type 0
FindRoom = (f : List ℕ) (z : Sizes) → boot_of f ≡ Ok z → Enough f z
