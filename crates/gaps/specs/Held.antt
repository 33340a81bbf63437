-- What the marks of a file that opens show, and how far the walk has come.
use Rattle.std.specs.Prelude.{ℕ, ◌+◌, ◌≤◌, ◌<◌, ◌≡◌, true, false, List, Option, None, Some}
use Rattle.marks.specs.Marks.{mark_of}
use Rattle.paper.specs.declared.sizes.Sizes.{Sizes}
use Rattle.paper.specs.Index.{run_of}
use Rattle.paper.specs.Gaps.{left_at}
use Rattle.entries.specs.Row.{Holder}

-- each marked record past N belongs to a listed scan
pub record Held (f : List ℕ) (z : Sizes) (ws : List ℕ) : Type 0 where
  pub scan : (x : ℕ) → z.n < x → mark_of ws x ≡ 1 → Holder (run_of f z) z.u x

-- the data records below record r are looked at, and none of them is left
pub record Swept (f : List ℕ) (z : Sizes) (r : ℕ) : Type 0 where
  pub past : z.n < r
  pub none : (s : ℕ) → s < r → s ≤ z.n + z.d → left_at f z s ≡ false

-- record x is a later one than record r, and none from r on and below it is left
pub record Later (f : List ℕ) (z : Sizes) (r x : ℕ) : Type 0 where
  pub on : r < x
  pub none : (s : ℕ) → r ≤ s → s < x → s ≤ z.n + z.d → left_at f z s ≡ false

-- none, where record r is left; else a later record
abbrev pub Next : List ℕ → Sizes → ℕ → Option ℕ → Type 0
Next f z r None = left_at f z r ≡ true
Next f z r (Some x) = Later f z r x
