-- Jobs carried through: what their steps answer, and the files of the run.
use Rattle.std.specs.Prelude.{ℕ, zero, suc, List, [], ◌∷◌, replicate}
use Rattle.lent.specs.Write.{write}
use Rattle.paper.specs.declared.job.Job.{Job}
use Rattle.paper.specs.Answers.{StepAnswer, Opened}
use Rattle.paper.specs.declared.link.Link.{Link}
use Rattle.paper.specs.Store.{blank_file, save_of, clear_of, job_in}
use Rattle.paper.specs.Step.{step_answer, step_file, step_job}
use Rattle.paper.specs.Link.{fresh_link, begin_of, take_of, take_row, finish_of, link_in}
use Rattle.paper_run.specs.Scans.{scan1, scan2, scan3, scan4}

-- n steps of a job: the answers, and the file and the job after them
abbrev pub answers : ℕ → List ℕ → List ℕ → Job → List StepAnswer
answers zero f scan j = []
answers (suc n) f scan j = step_answer f scan j ∷ answers n (step_file f scan j) scan (step_job f scan j)

abbrev pub after : ℕ → List ℕ → List ℕ → Job → List ℕ
after zero f scan j = f
after (suc n) f scan j = after n (step_file f scan j) scan (step_job f scan j)

abbrev pub job_after : ℕ → List ℕ → List ℕ → Job → Job
job_after zero f scan j = j
job_after (suc n) f scan j = job_after n (step_file f scan j) scan (step_job f scan j)

-- the entry's bytes 8 to 61
abbrev pub about : List ℕ
about = replicate 54 9

-- the answers of the n steps of a save, begun on f; and the file after them
abbrev pub saving : ℕ → List ℕ → ℕ → List ℕ → List StepAnswer
saving n f slot scan = answers n f scan (job_in (save_of f slot scan about))

abbrev pub saved : ℕ → List ℕ → ℕ → List ℕ → List ℕ
saved n f slot scan = after n f scan (job_in (save_of f slot scan about))

-- the same of a clear
abbrev pub clearing : ℕ → List ℕ → ℕ → List StepAnswer
clearing n f slot = answers n f [] (job_in (clear_of f slot))

abbrev pub cleared : ℕ → List ℕ → ℕ → List ℕ
cleared n f slot = after n f [] (job_in (clear_of f slot))

-- 4,096 bytes, of which blank leaves those past record 3
abbrev pub lent : List ℕ
lent = replicate 4096 7

-- "blank 4,096 bytes with N 3, L 512, M 64"
unfoldable pub file0 : List ℕ
file0 = blank_file lent 3 512 64

-- "Save 1,000 bytes to slot 1"
unfoldable pub file1 : List ℕ
file1 = saved 5 file0 1 scan1

-- "Save 512 bytes to slot 9"
unfoldable pub file2 : List ℕ
file2 = saved 4 file1 9 scan2

-- "Save 1,000 bytes to slot 1 again"
unfoldable pub file3 : List ℕ
file3 = saved 7 file2 1 scan3

-- "Next, 1,024 bytes to slot 2"
unfoldable pub file4 : List ℕ
file4 = saved 5 file3 2 scan4

-- file 3 with slot 9, its highest, cleared
unfoldable pub file5 : List ℕ
file5 = cleared 5 file3 9

-- file 0 with U = 3 and an entry for slot 3 that names record 1
unfoldable pub broken : List ℕ
broken = write (write file0 16 (0 ∷ 0 ∷ 0 ∷ 3 ∷ [])) 640 (0 ∷ 0 ∷ 0 ∷ 1 ∷ [])

-- what finish says after these pieces, of that link and row
abbrev pub finished : List (List ℕ) → Link → List ℕ → Opened
finished [] k row = finish_of k row
finished (p ∷ ps) k row = finished ps (link_in k (take_of k p row)) (take_row k p row)

-- and of 4,096 bytes, begun with a row of nines
abbrev pub over_link : List (List ℕ) → Opened
over_link ps = finished ps (link_in (fresh_link 0) (begin_of 4096 (replicate 8192 9))) (replicate 8192 9)
