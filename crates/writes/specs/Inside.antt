-- What the inner functions require: plain facts about a job that agrees with a file, as numbers that code can compute with.
use Rattle.std.specs.Prelude.{◌≡◌, ℕ, ◌+◌, ◌-◌, ◌*◌, ◌<◌, ◌≤◌, true, List, [], ◌∷◌, ◌++◌, length, Ok}
use Rattle.lent.specs.Number.{words}
use Rattle.paper.specs.declared.sizes.Sizes.{Sizes}
use Rattle.paper.specs.declared.job.Job.{Job}
use Rattle.paper.specs.declared.job.Step.TheVariants.{Wrote}
use Rattle.paper.specs.declared.job.Stepped.{Stepped}
use Rattle.paper.specs.Sizes.{start_of, home_of, Ranged, Slotted}
use Rattle.paper.specs.Store.{count_of}
use Rattle.paper.specs.Step.{placed}

-- sizes that 32-bit words hold
pub record Narrow (z : Sizes) : Type 0 where
  pub n : z.n < 4294967296
  pub d : z.d < 4294967296
  pub l : z.l < 4294967296
  pub m : z.m < 4294967296
  pub u : z.u < 4294967296
  pub kind : z.kind < 4294967296

-- the k records of a save: one at least, and past record N
pub record Placed (z : Sizes) (j : Job) : Type 0 where
  pub low : z.n < j.first
  pub some : 1 ≤ count_of z j
  pub high : j.first + count_of z j ≤ 1000001

-- the slot is one of the index, and a save's records are placed
pub record Held (z : Sizes) (j : Job) : Type 0 where
  pub ranged : Ranged z
  pub slot : Slotted z j.slot
  pub placed : j.saves ≡ true → Placed z j

-- and the slot's entry lies in the file
pub record Homed (f : List ℕ) (z : Sizes) (j : Job) : Type 0 where
  pub held : Held z j
  pub within : home_of z j.slot + z.m ≤ length f

-- the data record at the job's place lies in the file
pub record Rowed (f : List ℕ) (z : Sizes) (j : Job) : Type 0 where
  pub low : 1 ≤ j.first
  pub high : j.first + j.written ≤ 1000000
  pub l_high : z.l ≤ 4096
  pub within : start_of z (j.first + j.written) + z.l ≤ length f
  pub from : j.written * z.l ≤ 4096000000

-- record r lies in the file
pub record Lying (f : List ℕ) (z : Sizes) (r : ℕ) : Type 0 where
  pub low : 1 ≤ r
  pub high : r ≤ 1000000
  pub l_high : z.l ≤ 4096
  pub within : start_of z r + z.l ≤ length f

-- bytes 0 to 61 of a save's entry
abbrev pub front_of : Sizes → Job → List ℕ
front_of z j = words (j.first ∷ (j.first + count_of z j - 1) ∷ []) ++ j.about

-- what a step that wrote record r hands back: the job with one write more, that then expects the bootstrap `boot`
abbrev pub wrote_one : ℕ → Job → List ℕ → Stepped
wrote_one r j boot = record { answer = Ok (Wrote r (j.written + 1)); job = placed j (j.written + 1) boot }
