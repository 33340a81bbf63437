-- 01, "A save, record by record": one step of a job, for any file, scan and job: the file, the job and the answer after it.
use Rattle.std.specs.Prelude.{ℕ, ◌+◌, ◌*◌, ◌≤◌, ◌<◌, ◌≡◌, Bool, true, false, cond, List, [], ◌∷◌, ltb, leb, eqb, length, take, get_or, Ok, Err}
use Rattle.lent.specs.Lists.{all}
use Rattle.lent.specs.Checks.{Fired, clear, fires, fired}
use Rattle.lent.specs.Part.{part}
use Rattle.lent.specs.Same.{same}
use Rattle.lent.specs.Write.{zeros}
use Rattle.paper.specs.declared.sizes.Sizes.{Sizes}
use Rattle.paper.specs.declared.refusal.Refusal.{Refusal}
use Rattle.paper.specs.declared.refusal.Refusal.TheVariants.{Disagrees, Differs}
use Rattle.paper.specs.Answers.{Opened, StepAnswer}
use Rattle.paper.specs.declared.job.Job.{Job}
use Rattle.paper.specs.declared.job.Step.TheVariants.{Wrote, Saved, Cleared}
use Rattle.paper.specs.declared.job.Stepped.{Stepped}
use Rattle.paper.specs.Sizes.{sizes_of, capacity_of, start_of, room_of, change_boot}
use Rattle.paper.specs.Index.{open_of, entry_at, Booted}
use Rattle.paper.specs.Store.{Write, perform, count_of, padded_of, entry_after, total_of, writes_of}

-- no refusal fired
abbrev pub is_clear : Fired Refusal → Bool
is_clear clear = true
is_clear (fires r) = false

-- 14, its causes: each test holds where job and file agree. z is what the file's bootstrap says.
abbrev pub agree_tests : List ℕ → List ℕ → Job → Sizes → List Bool
agree_tests f scan j z =
    eqb (length scan) j.size
    ∷ eqb (length f) j.span
    ∷ same (take 32 f) j.boot
    ∷ is_clear (fired (change_boot f))
    ∷ cond j.saves (ltb 0 (length scan)) true
    ∷ leb 1 j.slot
    ∷ leb j.slot (capacity_of z)
    ∷ cond j.saves (ltb z.n j.first) true
    ∷ cond j.saves (leb (j.first + count_of z j) (room_of z (length f) + 1)) true
    ∷ leb j.written (total_of z j)
    ∷ cond (ltb 0 j.many) (ltb z.n j.old) true
    ∷ cond (ltb 0 j.many) (leb (j.old + j.many) (room_of z (length f) + 1)) true
    ∷ []

unfoldable pub agrees : List ℕ → List ℕ → Job → Bool
agrees f scan j = all (agree_tests f scan j (sizes_of f))

-- past the last write there is none: no bytes at place 0, record 0
abbrev pub no_write : Write
no_write = record { at = 0; bytes = []; record_no = 0 }

-- the write at the job's place in its list
abbrev pub write_at : List ℕ → Sizes → List ℕ → Job → Write
write_at f z scan j = get_or (writes_of f z j scan) j.written no_write

-- a write is left
abbrev pub has_left : Sizes → Job → Bool
has_left z j = ltb j.written (total_of z j)

-- "Each step writes at most one record"
unfoldable pub step_file : List ℕ → List ℕ → Job → List ℕ
step_file f scan j = cond (agrees f scan j) (perform f (write_at f (sizes_of f) scan j)) f

-- the job at another place of its list, expecting these 32 bytes
abbrev pub placed : Job → ℕ → List ℕ → Job
placed j w b =
    record {
      saves = j.saves;
      slot = j.slot;
      size = j.size;
      span = j.span;
      first = j.first;
      written = w;
      lowers = j.lowers;
      old = j.old;
      many = j.many;
      boot = b;
      about = j.about;
    }

-- the job one write on; where this write was record 1's, it then expects the bootstrap that it wrote
abbrev pub moved : Write → Job → Job
moved w j = placed j (j.written + 1) (cond (eqb w.record_no 1) w.bytes j.boot)

unfoldable pub step_job : List ℕ → List ℕ → Job → Job
step_job f scan j = cond (agrees f scan j) (cond (has_left (sizes_of f) j) (moved (write_at f (sizes_of f) scan j) j) j) j

-- the bytes of k records from r on
abbrev pub rows_at : List ℕ → Sizes → ℕ → ℕ → List ℕ
rows_at f z r k = part (start_of z r) (start_of z r + k * z.l) f

-- "compares the entry's M bytes and the k records, padding included, with what the job and the scan give"; 02, 2026-05: "and also requires the zeros"
abbrev pub stand_tests : List ℕ → List ℕ → Job → Sizes → List Bool
stand_tests f scan j z =
    same (entry_at f z j.slot) (entry_after z j)
    ∷ same (rows_at f z j.first (count_of z j)) (padded_of z j scan)
    ∷ same (rows_at f z j.old j.many) (zeros (j.many * z.l))
    ∷ []

unfoldable pub stands : List ℕ → List ℕ → Job → Sizes → Bool
stands f scan j z = all (stand_tests f scan j z)

-- "and answers Saved": record 0 and the count
abbrev pub confirmed : Job → StepAnswer
confirmed j = cond j.saves (Ok (Saved 0 j.written)) (Ok (Cleared 0 j.written))

-- neither a write nor a refusal
abbrev pub is_confirmed : StepAnswer → Bool
is_confirmed (Ok (Wrote r count)) = false
is_confirmed (Ok (Saved r count)) = true
is_confirmed (Ok (Cleared r count)) = true
is_confirmed (Err r) = false

-- "The confirming step then gives 1 to 8, then 15"
abbrev pub confirm_of : List ℕ → List ℕ → Job → Opened → StepAnswer
confirm_of f scan j (Err r) = Err r
confirm_of f scan j (Ok z) = cond (stands f scan j z) (confirmed j) (Err Differs)

-- "The answer to a step says which record it wrote and how many records it has written so far"
abbrev pub wrote_of : List ℕ → Sizes → List ℕ → Job → StepAnswer
wrote_of f z scan j = Ok (Wrote (write_at f z scan j).record_no (j.written + 1))

unfoldable pub step_answer : List ℕ → List ℕ → Job → StepAnswer
step_answer f scan j =
    cond (agrees f scan j) (cond (has_left (sizes_of f) j) (wrote_of f (sizes_of f) scan j) (confirm_of f scan j (open_of f))) (Err Disagrees)

unfoldable pub stepped_of : List ℕ → List ℕ → Job → Stepped
stepped_of f scan j = record { answer = step_answer f scan j; job = step_job f scan j }

-- ---- what the tests say, in plain facts

-- what `agrees f scan j ≡ true` says, z being what the file's bootstrap says
pub record Agreeing (f scan : List ℕ) (j : Job) (z : Sizes) : Type 0 where
  pub booted : Booted f z
  pub current : z.version ≡ 1
  pub size : length scan ≡ j.size
  pub span : length f ≡ j.span
  pub begun : take 32 f ≡ j.boot
  pub filled : j.saves ≡ true → 0 < length scan
  pub low : 1 ≤ j.slot
  pub high : j.slot ≤ capacity_of z
  pub past : j.saves ≡ true → z.n < j.first
  pub within : j.saves ≡ true → j.first + count_of z j ≤ room_of z (length f) + 1
  pub left : j.written ≤ total_of z j
  pub old_past : 0 < j.many → z.n < j.old
  pub old_within : 0 < j.many → j.old + j.many ≤ room_of z (length f) + 1

-- what `stands f scan j z ≡ true` says
pub record Standing (f scan : List ℕ) (j : Job) (z : Sizes) : Type 0 where
  pub entry : entry_at f z j.slot ≡ entry_after z j
  pub rows : rows_at f z j.first (count_of z j) ≡ padded_of z j scan
  pub gone : rows_at f z j.old j.many ≡ zeros (j.many * z.l)
