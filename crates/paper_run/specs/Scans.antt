-- Scans that keep the rules of 01, "The scan": 13 classes at the words 5, 21, 22 .. 32, and HEADLEN 256.
use Rattle.std.specs.Prelude.{ℕ, ◌-◌, List, [], ◌∷◌, ◌++◌, replicate}

-- the number of classes and the starts, two of the fifteen unused
unfoldable pub preamble : List ℕ
preamble =
    0 ∷ 13 ∷ 0 ∷ 5 ∷ 0 ∷ 21 ∷ 0 ∷ 22 ∷ 0 ∷ 23 ∷ 0 ∷ 24 ∷ 0 ∷ 25 ∷ 0 ∷ 26 ∷ 0 ∷ 27 ∷ 0 ∷ 28 ∷ 0 ∷ 29 ∷ 0 ∷ 30 ∷ 0 ∷ 31 ∷ 0 ∷ 32 ∷ 0 ∷ 0 ∷ 0 ∷ 0 ∷ []

-- whole numbers as doubles of which all but the first three bytes are 0
unfoldable pub double : ℕ → ℕ → ℕ → List ℕ
double a b c = a ∷ b ∷ c ∷ 0 ∷ 0 ∷ 0 ∷ 0 ∷ 0 ∷ []

-- 256, 744 and 768
abbrev pub d256 : List ℕ
d256 = double 64 112 0

abbrev pub d744 : List ℕ
d744 = double 64 135 64

abbrev pub d768 : List ℕ
d768 = double 64 136 0

-- a scan of `size` bytes with that DATALEN, filled with one byte
unfoldable pub scan_of : List ℕ → ℕ → ℕ → List ℕ
scan_of datalen size fill = preamble ++ (d256 ++ (datalen ++ replicate (size - 48) fill))

-- 1,000 bytes, and other 1,000 bytes; 512; 1,024; and 512 more
abbrev pub scan1 : List ℕ
scan1 = scan_of d744 1000 1

abbrev pub scan2 : List ℕ
scan2 = scan_of d256 512 2

abbrev pub scan3 : List ℕ
scan3 = scan_of d744 1000 3

abbrev pub scan4 : List ℕ
scan4 = scan_of d768 1024 4

abbrev pub scan5 : List ℕ
scan5 = scan_of d256 512 5
