-- 01, "The index entry": which entries are empty, in range, above U, or share a record; and the judgement of a whole file, refusals 1 to 8.
use Rattle.std.specs.Prelude.{ℕ, ◌+◌, ◌-◌, ◌*◌, ◌≤◌, ◌<◌, ◌≡◌, Bool, not, List, [], ◌∷◌, ◌++◌, ltb, leb, eqb, length, get_or, Ok, Err}
use Rattle.lent.specs.Lists.{all, those}
use Rattle.lent.specs.Least.{least}
use Rattle.lent.specs.Checks.{Check, check, judge}
use Rattle.lent.specs.Part.{part}
use Rattle.paper.specs.declared.sizes.Sizes.{Sizes}
use Rattle.paper.specs.declared.sizes.Run.{Run}
use Rattle.paper.specs.declared.refusal.Refusal.{Refusal}
use Rattle.paper.specs.declared.refusal.Refusal.TheVariants.{BadEntry, AboveUse, SharedRecord}
use Rattle.paper.specs.Answers.{Opened}
use Rattle.paper.specs.Sizes.{sizes_of, version_of, word_at, capacity_of, home_of, start_of, bytes_of, size_checks, boot_checks, change_boot, Ranged}

-- the first two numbers of slot s's entry: "first record, last record"
abbrev pub run_of : List ℕ → Sizes → ℕ → Run
run_of f z s = record { first = word_at z.version f (home_of z s) 0; last = word_at z.version f (home_of z s) 1 }

-- the same in a row of numbers: first and last of each slot, in slot order
unfoldable pub row_run : List ℕ → ℕ → Run
row_run row s = record { first = get_or row (2 * (s - 1)) 0; last = get_or row (2 * (s - 1) + 1) 0 }

-- From here on the entries are a function that gives each slot its run, however the file states it.

-- "An entry is empty when first and last are both 0"
unfoldable pub empty : Run → Bool
empty r = eqb (r.first + r.last) 0

-- an entry that is not
abbrev pub Full : Run → Type 0
Full r = 0 < r.first + r.last

-- "Otherwise N+1 <= first <= last <= N+D"
abbrev pub data_tests : Sizes → Run → List Bool
data_tests z r = ltb z.n r.first ∷ leb r.first r.last ∷ leb r.last (z.n + z.d) ∷ []

unfoldable pub in_data : Sizes → Run → Bool
in_data z r = all (data_tests z r)

-- "neither empty nor in range"
abbrev pub bad_tests : Sizes → Run → List Bool
bad_tests z r = not (empty r) ∷ not (in_data z r) ∷ []

unfoldable pub bad_at : Sizes → (ℕ → Run) → ℕ → Bool
bad_at z run s = all (bad_tests z (run s))

-- "Entries above U are empty"
abbrev pub above_tests : Sizes → (ℕ → Run) → ℕ → List Bool
above_tests z run s = ltb z.u s ∷ not (empty (run s)) ∷ []

unfoldable pub above_at : Sizes → (ℕ → Run) → ℕ → Bool
above_at z run s = all (above_tests z run s)

-- "No two scans share a record": of two runs that are empty or in range, a record, counted from 1, is in both
abbrev pub share_tests : Run → Run → List Bool
share_tests r t = leb 1 r.last ∷ leb 1 t.last ∷ leb r.first t.last ∷ leb t.first r.last ∷ []

unfoldable pub shares : Run → Run → Bool
shares r t = all (share_tests r t)

-- the lowest of the slots 1 to n that shares a record with the run r, or 0
unfoldable pub sharer : (ℕ → Run) → Run → ℕ → ℕ
sharer run r n = least (λ t. shares r (run t)) n

-- slot s "shares a record with a smaller one"
unfoldable pub shared_at : (ℕ → Run) → ℕ → Bool
shared_at run s = ltb 0 (sharer run (run s) (s - 1))

-- the first of 1 to n that the test takes is refused with its number
abbrev pub lowest : (ℕ → Bool) → ℕ → (ℕ → Refusal) → Check Refusal
lowest p n refusal = check (ltb 0 (least p n)) (refusal (least p n))

-- refusals 6 to 8, in order
abbrev pub index_checks : Sizes → (ℕ → Run) → List (Check Refusal)
index_checks z run =
    lowest (bad_at z run) z.u BadEntry
    ∷ lowest (above_at z run) (capacity_of z) AboveUse
    ∷ lowest (shared_at run) z.u SharedRecord
    ∷ []

-- refusals 1 and 3 to 8
abbrev pub open_checks : List ℕ → List (Check Refusal)
open_checks f = boot_checks f ++ index_checks (sizes_of f) (run_of f (sizes_of f))

-- the file may be changed, since it opens and is not old: what save, keep and clear ask of it first, refusals 1 to 8
abbrev pub change_checks : List ℕ → List (Check Refusal)
change_checks f = change_boot f ++ index_checks (sizes_of f) (run_of f (sizes_of f))

-- the judgement of the bootstrap alone, of its sizes where there are 512 bytes, of an index alone, and of a file
unfoldable pub boot_of : List ℕ → Opened
boot_of f = judge Err (boot_checks f) (Ok (sizes_of f))

unfoldable pub sized_of : ℕ → Sizes → Opened
sized_of len z = judge Err (size_checks len z) (Ok z)

unfoldable pub index_of : Sizes → (ℕ → Run) → Opened
index_of z run = judge Err (index_checks z run) (Ok z)

unfoldable pub open_of : List ℕ → Opened
open_of f = judge Err (open_checks f) (Ok (sizes_of f))

-- and whether a file may be changed, by its bootstrap alone and as a whole
unfoldable pub change_boot_of : List ℕ → Opened
change_boot_of f = judge Err (change_boot f) (Ok (sizes_of f))

unfoldable pub change_of : List ℕ → Opened
change_of f = judge Err (change_checks f) (Ok (sizes_of f))

-- the slots with a scan, "in slot order"
unfoldable pub slots_of : Sizes → (ℕ → Run) → List ℕ
slots_of z run = those (λ s. not (empty (run s))) z.u

-- the bytes of the records of slot s; none where it is empty
abbrev pub shown_of : List ℕ → Sizes → ℕ → List ℕ
shown_of f z s = part (start_of z (run_of f z s).first) ((run_of f z s).last * z.l) f

-- the M bytes of slot s's entry
abbrev pub entry_at : List ℕ → Sizes → ℕ → List ℕ
entry_at f z s = part (home_of z s) (home_of z s + z.m) f

-- ---- what the tests say, in plain facts

-- an entry that is empty or in range
pub record Lies (z : Sizes) (r : Run) : Type 0 where
  pub low : Full r → z.n < r.first
  pub order : Full r → r.first ≤ r.last
  pub high : r.last ≤ z.n + z.d

-- what `index_of z run ≡ Ok z` says
pub record Laid (z : Sizes) (run : ℕ → Run) : Type 0 where
  pub inside : (s : ℕ) → 1 ≤ s → s ≤ z.u → Lies z (run s)
  pub above : (s : ℕ) → z.u < s → s ≤ capacity_of z → (run s).first + (run s).last ≡ 0
  pub apart : (s t r : ℕ) → 1 ≤ s → s < t → t ≤ z.u → z.n < r → (run s).first ≤ r → r ≤ (run s).last → (run t).first ≤ r → r ≤ (run t).last → ⊥

-- what `boot_of f ≡ Ok z` says
pub record Booted (f : List ℕ) (z : Sizes) : Type 0 where
  pub reads : sizes_of f ≡ z
  pub long : 512 ≤ length f
  pub version : version_of f ≤ 1
  pub ranged : Ranged z
  pub held : bytes_of z ≤ length f

-- what `open_of f ≡ Ok z` says
pub record Sound (f : List ℕ) (z : Sizes) : Type 0 where
  pub booted : Booted f z
  pub laid : Laid z (run_of f z)

-- what `change_of f ≡ Ok z` says
pub record Changeable (f : List ℕ) (z : Sizes) : Type 0 where
  pub sound : Sound f z
  pub current : z.version ≡ 1
