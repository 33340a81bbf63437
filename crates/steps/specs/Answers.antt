-- What a step answers besides its write, that a write is left, and what follows the entry.
use Rattle.std.specs.Prelude.{ℕ, ◌+◌, ◌-◌, ◌≤◌, ◌<◌, ◌≡◌, cond, List, ltb, Ok, Err}
use Rattle.lent.specs.Write.{zeros}
use Rattle.paper.specs.declared.sizes.Sizes.{Sizes}
use Rattle.paper.specs.declared.refusal.Refusal.TheVariants.{Disagrees}
use Rattle.paper.specs.Answers.{Opened, StepAnswer}
use Rattle.paper.specs.declared.job.Job.{Job}
use Rattle.paper.specs.declared.job.Step.TheVariants.{Wrote}
use Rattle.paper.specs.declared.job.Stepped.{Stepped}
use Rattle.paper.specs.Sizes.{start_of}
use Rattle.paper.specs.Store.{Write, count_of, sizes_write, lowered, change_of, total_of}
use Rattle.writes.specs.Inside.{Lying}

-- a refusal of the file's, as the step's
abbrev pub handed_on : Opened → StepAnswer
handed_on (Ok z) = Ok (Wrote 0 0)
handed_on (Err r) = Err r

-- 14: the job as it was
abbrev pub disagreed : Job → Stepped
disagreed j = record { answer = Err Disagrees; job = j }

-- of the job's k data records and what follows them, one is left to write
pub record Left (z : Sizes) (j : Job) (k : ℕ) : Type 0 where
  pub rows : k ≡ count_of z j
  pub some : j.written < total_of z j

-- what follows the entry: record 1 with the lowered U, and then zeros over the old run
abbrev pub late_write : List ℕ → Sizes → Job → Write
late_write f z j =
    cond (ltb j.written (change_of z j)) (sizes_write (lowered f z))
    (record { at = start_of z (j.old + (j.written - change_of z j)); bytes = zeros z.l; record_no = j.old + (j.written - change_of z j) })

-- the job has k data records, and past the change itself a record of the old run is left, which lies in the file
pub record Late (f : List ℕ) (z : Sizes) (j : Job) (k : ℕ) : Type 0 where
  pub rows : k ≡ count_of z j
  pub few : k ≤ 1000001
  pub lies : change_of z j ≤ j.written → Lying f z (j.old + (j.written - change_of z j))
