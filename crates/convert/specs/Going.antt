-- What the inner functions of a conversion require, and the tests of 19 as one.
use Rattle.std.specs.Prelude.{ℕ, ◌+◌, ◌≤◌, ◌<◌, ◌≡◌, Bool, true, false, cond, List, [], ◌∷◌, ◌++◌}
use Rattle.lent.specs.Checks.{Fired, clear, fires, fired}
use Rattle.lent.specs.Number.{be16, numbers}
use Rattle.lent.specs.Part.{part}
use Rattle.paper.specs.declared.sizes.Sizes.{Sizes}
use Rattle.paper.specs.declared.sizes.Run.{Run}
use Rattle.paper.specs.declared.refusal.Refusal.{Refusal}
use Rattle.paper.specs.Sizes.{home_of, Ranged}
use Rattle.paper.specs.Index.{run_of, empty, Lies}
use Rattle.paper.specs.Convert.{Carried, scan_as, form_checks}
use Rattle.entries.specs.Row.{InFile}

-- ---- 19

abbrev pub is_clear : Fired Refusal → Bool
is_clear clear = true
is_clear (fires r) = false

-- none of its causes is the file's
unfoldable pub fits_form : ℕ → List ℕ → Sizes → Bool
fits_form v f z = is_clear (fired (form_checks v f z))

-- ---- one entry

-- 16 bits hold the run, as integers that are not negative
pub record Narrow (r : Run) : Type 0 where
  pub first : r.first ≤ 32767
  pub last : r.last ≤ 32767

-- the 62 bytes at place `at` that say something lie in either buffer
pub record Told (at file out : ℕ) : Type 0 where
  pub from : at + 62 ≤ file
  pub to : at + 62 ≤ out

-- slot s of a file in the other form than v, whose entry goes to its home in a buffer of `out` bytes
pub record Goes (v : ℕ) (f : List ℕ) (z : Sizes) (s out : ℕ) : Type 0 where
  pub slot : InFile f z s
  pub other : z.version + v ≡ 1
  pub lies : Lies z (run_of f z s)
  pub narrow : v ≡ 0 → Narrow (run_of f z s)
  pub within : home_of z s + z.m ≤ out

-- what an entry says, without its padding: an empty one says nothing
abbrev pub told : ℕ → Carried → List ℕ
told v c = cond (empty c.run) [] (scan_as v c)

-- the bytes of a scan's entry, from the one of the other form at place `at`
abbrev pub old_scan : List ℕ → ℕ → List ℕ
old_scan f at = numbers 2 (be16 f (at + 2) ∷ be16 f (at + 6) ∷ 2 ∷ be16 f (at + 60) ∷ []) ++ part (at + 8) (at + 60) f

abbrev pub current_scan : List ℕ → ℕ → List ℕ
current_scan f at = numbers 2 (0 ∷ be16 f at ∷ 0 ∷ be16 f (at + 2) ∷ []) ++ (part (at + 8) (at + 60) f ++ numbers 2 (be16 f (at + 6) ∷ []))

-- ---- the records

-- sizes that 16-bit numbers hold
pub record Short (z : Sizes) : Type 0 where
  pub n : z.n < 65536
  pub d : z.d < 65536
  pub l : z.l < 65536
  pub m : z.m < 65536
  pub u : z.u < 65536
  pub counter : z.counter < 65536

-- the bootstrap of a file that can be said in form v, and room for it
pub record Heads (v : ℕ) (z : Sizes) (out : ℕ) : Type 0 where
  pub ranged : Ranged z
  pub few : v ≡ 0 → z.d ≤ 32767
  pub counted : v ≡ 0 → z.counter ≤ 65535
  pub within : z.l ≤ out
