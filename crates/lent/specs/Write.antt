-- The one way in which lent memory changes: bytes set at a place, and all else as it was.
use Rattle.std.specs.Prelude.{ℕ, ◌+◌, ◌-◌, List, ◌++◌, length, take, drop, replicate}

unfoldable pub write : List ℕ → ℕ → List ℕ → List ℕ
write f at bytes = take at f ++ (bytes ++ drop (at + length bytes) f)

-- n zero bytes
unfoldable pub zeros : ℕ → List ℕ
zeros n = replicate n 0

-- bytes, and zeros after them up to n bytes
unfoldable pub pad : ℕ → List ℕ → List ℕ
pad n bytes = bytes ++ zeros (n - length bytes)
