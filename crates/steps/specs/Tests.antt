-- The tests of refusals 14 and 15 as code groups them.
use Rattle.std.specs.Prelude.{ℕ, ◌+◌, ◌*◌, ◌≤◌, ◌<◌, Bool, true, cond, List, [], ◌∷◌, ltb, leb, eqb, length, take}
use Rattle.lent.specs.Lists.{all}
use Rattle.lent.specs.Same.{same}
use Rattle.lent.specs.Write.{zeros}
use Rattle.paper.specs.declared.sizes.Sizes.{Sizes}
use Rattle.paper.specs.declared.job.Job.{Job}
use Rattle.paper.specs.Look.{slot_tests}
use Rattle.paper.specs.Sizes.{version_of, start_of, room_of, bytes_of, in_range}
use Rattle.paper.specs.Index.{entry_at}
use Rattle.paper.specs.Store.{count_of, padded_of, entry_after}
use Rattle.paper.specs.Step.{rows_at}

-- the lengths of scan and file, and the first 32 bytes, are the job's
abbrev pub file_tests : List ℕ → List ℕ → Job → List Bool
file_tests f scan j = eqb (length scan) j.size ∷ eqb (length f) j.span ∷ same (take 32 f) j.boot ∷ []

unfoldable pub same_file : List ℕ → List ℕ → Job → Bool
same_file f scan j = all (file_tests f scan j)

-- none of 1 to 5 is fired
abbrev pub boot_tests : List ℕ → Sizes → List Bool
boot_tests f z = leb 512 (length f) ∷ eqb (version_of f) 1 ∷ in_range z ∷ leb (bytes_of z) (length f) ∷ []

unfoldable pub boot_holds : List ℕ → Sizes → Bool
boot_holds f z = all (boot_tests f z)

-- the slot lies in 1 to capacity
unfoldable pub has_slot : Sizes → ℕ → Bool
has_slot z s = all (slot_tests z s)

-- a save has a scan, and its data records lie within N+1 to the room
abbrev pub fit_tests : Sizes → ℕ → Job → List Bool
fit_tests z len j = ltb 0 j.size ∷ ltb z.n j.first ∷ leb (j.first + count_of z j) (room_of z len + 1) ∷ []

unfoldable pub save_fits : Sizes → ℕ → Job → Bool
save_fits z len j = all (fit_tests z len j)

-- of a clear neither is asked
unfoldable pub records_fit : Sizes → ℕ → Job → Bool
records_fit z len j = cond j.saves (save_fits z len j) true

-- the old run lies within N+1 to the room; of one without records nothing is asked
abbrev pub old_tests : Sizes → ℕ → Job → List Bool
old_tests z len j =
    cond (ltb 0 j.many) (ltb z.n j.old) true ∷ cond (ltb 0 j.many) (leb (j.old + j.many) (room_of z len + 1)) true ∷ []

unfoldable pub old_fits : Sizes → ℕ → Job → Bool
old_fits z len j = all (old_tests z len j)

-- the new run and the old one
unfoldable pub runs_fit : Sizes → ℕ → Job → Bool
runs_fit z len j = all (records_fit z len j ∷ old_fits z len j ∷ [])

-- ---- and those of 15

-- the entry and the records are as the job and the scan give them
abbrev pub given_tests : List ℕ → List ℕ → Job → Sizes → List Bool
given_tests f scan j z =
    same (entry_at f z j.slot) (entry_after z j) ∷ same (rows_at f z j.first (count_of z j)) (padded_of z j scan) ∷ []

unfoldable pub given_stands : List ℕ → List ℕ → Job → Sizes → Bool
given_stands f scan j z = all (given_tests f scan j z)

-- the old run is zeros
unfoldable pub old_gone : List ℕ → Job → Sizes → Bool
old_gone f j z = same (rows_at f z j.old j.many) (zeros (j.many * z.l))

-- its bytes can be counted, and lie in the file
pub record OldIn (f : List ℕ) (z : Sizes) (j : Job) : Type 0 where
  pub low : 0 < j.many → 1 ≤ j.old
  pub from : 0 < j.many → start_of z j.old ≤ 4096000000
  pub size : 0 < j.many → j.many * z.l ≤ 4096004096
  pub within : 0 < j.many → start_of z j.old + j.many * z.l ≤ length f
