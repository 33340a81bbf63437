-- A length as read: HEADLEN and DATALEN, both Real*8 counts of bytes.
use Rattle.std.specs.Prelude.{ℕ, Bool, true, false, Some, None, Option}
use Rattle.whole.specs.Number.{whole_of}

-- the length that the 64 bits of a double stand for
unfoldable pub length_of : ℕ → Option ℕ
length_of bits = whole_of bits

-- whether there is one
unfoldable pub is_whole : Option ℕ → Bool
is_whole (Some n) = true
is_whole None = false

-- how many bytes it counts, 0 where there is none
unfoldable pub size_of : Option ℕ → ℕ
size_of (Some n) = n
size_of None = 0
