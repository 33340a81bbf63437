-- What was put into lent memory, and where it ends.
use Rattle.std.specs.Prelude.{ℕ, ◌+◌, ◌≡◌, List, length}
use Rattle.lent.specs.Write.{write}

-- from `before` to `after` the piece was put at `at`, and `to` is the place after it
pub record Put (before : List ℕ) (at : ℕ) (piece after : List ℕ) (to : ℕ) : Type 0 where
  pub place : to ≡ at + length piece
  pub holds : after ≡ write before at piece
