-- 02, 2026-04: "Source document 003 says that U is the highest entry that describes a scan". When it is that, and when it may be higher; and the clear that lowers it.
use Rattle.std.specs.Prelude.{ℕ, ◌+◌, ◌≤◌, ◌<◌, ◌≡◌, true, List, [], ◌∷◌, ◌++◌, Ok}
use Rattle.paper.specs.declared.sizes.Sizes.{Sizes}
use Rattle.paper.specs.declared.job.Step.TheVariants.{Wrote, Cleared}
use Rattle.paper.specs.Sizes.{capacity_of}
use Rattle.paper.specs.Index.{run_of, Full, open_of}
use Rattle.paper.specs.Store.{highest, many_of}
use Rattle.paper.specs.Step.{is_confirmed}
use Rattle.demands.specs.History.{Op, clear, Whole, takes, answer_after, stepped, Done, Wholes, after}

-- no slot above k has a scan
abbrev pub NoneAbove : List ℕ → Sizes → ℕ → Type 0
NoneAbove f z k = (s : ℕ) → k < s → s ≤ capacity_of z → (run_of f z s).first + (run_of f z s).last ≡ 0

-- k is the highest slot with a scan, or 0 where there is none
pub record Topmost (f : List ℕ) (z : Sizes) (k : ℕ) : Type 0 where
  pub slotted : k ≤ capacity_of z
  pub full : 0 < k → Full (run_of f z k)
  pub above : NoneAbove f z k

-- `highest` is that, and nothing else is.
abbrev pub HighestExactly : Type 0
HighestExactly = (f : List ℕ) (z : Sizes) (k : ℕ) → (highest f z ≡ k → Topmost f z k) × (Topmost f z k → highest f z ≡ k)

-- ---- U

-- the file opens, and its U is the highest slot with a scan, or 0: "the station's program walks the index up to U" and finds entry U full
pub record Exact (g : List ℕ) : Type 0 where
  pub z : Sizes
  pub opens : open_of g ≡ Ok z
  pub topmost : Topmost g z z.u

-- After any history whose last operation was confirmed, whatever was cut before it.
abbrev pub UsedExact : Type 0
UsedExact =
    (f : List ℕ) (z : Sizes) → open_of f ≡ Ok z → (os : List Done) → Wholes os → (op : Op) → Whole op → takes (after f os) op ≡ true → (i : ℕ)
    → is_confirmed (answer_after (after f os) op i) ≡ true → Exact (after f (os ++ (record { op = op; cut = stepped i } ∷ [])))

-- the file opens, and no scan is in a slot above its U
pub record Covered (g : List ℕ) : Type 0 where
  pub z : Sizes
  pub opens : open_of g ≡ Ok z
  pub covers : (s : ℕ) → 1 ≤ s → s ≤ capacity_of z → Full (run_of g z s) → s ≤ z.u

-- After any history, cut anywhere: U is never lower than the highest slot with a scan.
abbrev pub NeverLower : Type 0
NeverLower = (f : List ℕ) (z : Sizes) → open_of f ≡ Ok z → (os : List Done) → Wholes os → Covered (after f os)

-- ---- the steps of a clear

-- "Such a clear is confirmed at step 4", where the slot is the highest with a scan, any other "at step 3"; 02, 2026-05: and later by the old run's length
pub record ClearSteps (f : List ℕ) (z : Sizes) (slot : ℕ) : Type 0 where
  pub third : NoneAbove f z slot → answer_after f (clear slot) 2 ≡ Ok (Wrote 1 3)
  pub fourth : NoneAbove f z slot → answer_after f (clear slot) (3 + many_of (run_of f z slot)) ≡ Ok (Cleared 0 (3 + many_of (run_of f z slot)))
  pub other : (s : ℕ) → slot < s → s ≤ capacity_of z → Full (run_of f z s) → answer_after f (clear slot) (2 + many_of (run_of f z slot)) ≡ Ok (Cleared 0 (2 + many_of (run_of f z slot)))

abbrev pub Clears : Type 0
Clears = (f : List ℕ) (z : Sizes) → open_of f ≡ Ok z → (slot : ℕ) → takes f (clear slot) ≡ true → ClearSteps f z slot
