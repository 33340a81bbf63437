-- What the inner functions of save, keep and clear require and answer.
use Rattle.std.specs.Prelude.{ℕ, ◌*◌, ◌≤◌, ◌≡◌, List, length, Ok, Err}
use Rattle.lent.specs.Checks.{judge}
use Rattle.paper.specs.declared.sizes.Sizes.{Sizes}
use Rattle.paper.specs.Answers.{Begun}
use Rattle.paper.specs.Index.{run_of, Full, change_boot_of, change_of, Booted}
use Rattle.paper.specs.Look.{InIndex}
use Rattle.paper.specs.Store.{scan_checks, save_job, save_of, keep_of}
use Rattle.index.specs.Judging.{Looked}
use Rattle.store.specs.declared.judged.Goal.{Goal}
use Rattle.store.specs.declared.judged.Goal.TheVariants.{Slot, LowestEmpty}

-- a file that may be changed, as far as its bootstrap tells
pub record Headed (f : List ℕ) (z : Sizes) : Type 0 where
  pub may : change_boot_of f ≡ Ok z
  pub booted : Booted f z

-- a file that may be changed, the row that holds its runs, and the marks that may show their records
pub record Rowing (f : List ℕ) (z : Sizes) (row ws : List ℕ) : Type 0 where
  pub opens : change_of f ≡ Ok z
  pub looked : Looked f z row ws (Ok z)
  pub wide : 2 * z.u ≤ length row

-- a file that may be changed, and a slot of it that has a scan
pub record Clearing (f : List ℕ) (z : Sizes) (slot : ℕ) : Type 0 where
  pub opens : change_of f ≡ Ok z
  pub slotted : InIndex z slot
  pub full : Full (run_of f z slot)

-- 11, then 13, then the job
unfoldable pub placed_of : List ℕ → ℕ → List ℕ → List ℕ → Begun
placed_of f slot scan about = judge Err (scan_checks f scan) (Ok (save_job f slot scan about))

-- a save's beginning, or a keep's
abbrev pub begun_of : List ℕ → Goal → List ℕ → List ℕ → Begun
begun_of f (Slot s) scan about = save_of f s scan about
begun_of f LowestEmpty scan about = keep_of f scan about
