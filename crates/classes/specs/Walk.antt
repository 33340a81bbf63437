-- "A reader that walks the classes of one scan in order".
use Rattle.std.specs.Prelude.{ℕ, zero, suc, ◌+◌, cond, List, leb}
use Rattle.paper.specs.Scan.{classes_of}

-- the class number after a number; past the last class it stays
unfoldable pub next_of : List ℕ → ℕ → ℕ
next_of s number = cond (leb number (classes_of s)) (number + 1) number

-- the class number at which a reader stands after k steps from the first class
unfoldable pub reached_by : List ℕ → ℕ → ℕ
reached_by s zero = 1
reached_by s (suc k) = next_of s (reached_by s k)
