-- A slot that holds a scan, and where its records lie.
use Rattle.std.specs.Prelude.{ℕ, ◌*◌, ◌≤◌, List, Result, Ok, Err}
use Rattle.lent.specs.Checks.{judge}
use Rattle.paper.specs.declared.sizes.Sizes.{Sizes}
use Rattle.paper.specs.declared.sizes.Run.{Run}
use Rattle.paper.specs.declared.refusal.Refusal.{Refusal}
use Rattle.paper.specs.Sizes.{sizes_of, start_of}
use Rattle.paper.specs.Index.{run_of}
use Rattle.paper.specs.Look.{slot_checks}

-- open's own, then 9, then 10; else the sizes and the run
unfoldable pub held_of : List ℕ → ℕ → Result (Sizes × Run) Refusal
held_of f s = judge Err (slot_checks f s) (Ok (sizes_of f, run_of f (sizes_of f) s))

-- the records of the run lie within what a file may hold
pub record Within (z : Sizes) (r : Run) : Type 0 where
  pub low : 1 ≤ r.first
  pub order : start_of z r.first ≤ r.last * z.l
  pub end : r.last * z.l ≤ 4096000000
