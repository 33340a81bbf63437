-- 02, 2026-05: "a yes or no whether every data record in no listed scan is all zeros".
use Rattle.std.specs.Prelude.{ℕ, ◌+◌, ◌≤◌, ◌<◌, ◌≡◌, Bool, not, List, [], ◌∷◌, ltb, eqb, Ok, Err}
use Rattle.lent.specs.Lists.{all}
use Rattle.lent.specs.Least.{least}
use Rattle.lent.specs.Checks.{judge}
use Rattle.lent.specs.Part.{part}
use Rattle.lent.specs.Same.{same}
use Rattle.lent.specs.Write.{zeros}
use Rattle.paper.specs.declared.sizes.Sizes.{Sizes}
use Rattle.paper.specs.Answers.{Asked}
use Rattle.paper.specs.Sizes.{sizes_of, start_of}
use Rattle.paper.specs.Index.{run_of, sharer, open_checks}
use Rattle.paper.specs.Store.{run_from}

-- the bytes of record r
abbrev pub record_at : List ℕ → Sizes → ℕ → List ℕ
record_at f z r = part (start_of z r) (start_of z r + z.l) f

-- a data record "in no listed scan" that is not "all zeros"
abbrev pub left_tests : List ℕ → Sizes → ℕ → List Bool
left_tests f z r = ltb z.n r ∷ eqb (sharer (run_of f z) (run_from r 1) z.u) 0 ∷ not (same (record_at f z r) (zeros z.l)) ∷ []

unfoldable pub left_at : List ℕ → Sizes → ℕ → Bool
left_at f z r = all (left_tests f z r)

-- none of the records up to N+D is such a one
unfoldable pub gaps_zero : List ℕ → Sizes → Bool
gaps_zero f z = eqb (least (left_at f z) (z.n + z.d)) 0

-- "Refusals: open's own for that question"
unfoldable pub gaps_of : List ℕ → Asked
gaps_of f = judge Err (open_checks f) (Ok (gaps_zero f (sizes_of f)))

-- ---- what the test says, in plain facts

-- a data record that belongs to no listed scan
pub record InGap (f : List ℕ) (z : Sizes) (r : ℕ) : Type 0 where
  pub past : z.n < r
  pub within : r ≤ z.n + z.d
  pub unlisted : (s : ℕ) → 1 ≤ s → s ≤ z.u → (run_of f z s).first ≤ r → r ≤ (run_of f z s).last → ⊥

-- what `left_at f z r ≡ true` says of a record up to N+D
pub record Left (f : List ℕ) (z : Sizes) (r : ℕ) : Type 0 where
  pub gap : InGap f z r
  pub bytes : record_at f z r ≡ zeros z.l → ⊥

-- what `gaps_zero f z ≡ false` says
pub record SomeLeft (f : List ℕ) (z : Sizes) : Type 0 where
  pub at : ℕ
  pub left : Left f z at

-- what `gaps_zero f z ≡ true` says
pub record GapsZero (f : List ℕ) (z : Sizes) : Type 0 where
  pub zero : (r : ℕ) → InGap f z r → record_at f z r ≡ zeros z.l
