-- The lister's lines, as the code puts them: a word and a number, one after the other.
use Rattle.std.specs.Prelude.{ℕ, List, [], ◌∷◌, ◌++◌}
use Rattle.paper.specs.declared.sizes.Run.{Run}
use Rattle.paper.specs.declared.refusal.Refusal.{Refusal}
use Rattle.paper.specs.Refusals.{number_of, value_of}
use Rattle.paper.specs.Lister.{decimal, slots_word, used_word, scans_word, refused_word, slot_word}

-- a word and a number
abbrev pub field_of : List ℕ → ℕ → List ℕ
field_of word n = word ++ decimal n

-- one, two and three of them, and a newline
abbrev pub one_of : List ℕ → ℕ → List ℕ
one_of x c = field_of x c ++ (10 ∷ [])

abbrev pub two_of : List ℕ → ℕ → List ℕ → ℕ → List ℕ
two_of w b x c = field_of w b ++ one_of x c

abbrev pub three_of : List ℕ → ℕ → List ℕ → ℕ → List ℕ → ℕ → List ℕ
three_of v a w b x c = field_of v a ++ two_of w b x c

-- the first line of a file that opens
abbrev pub head_of : ℕ → ℕ → ℕ → List ℕ
head_of slots used scans = three_of slots_word slots used_word used scans_word scans

-- slot, first and last
abbrev pub line_for : ℕ → Run → List ℕ
line_for s r = three_of [] s (32 ∷ []) r.first (32 ∷ []) r.last

-- the line of a file that is refused
abbrev pub refused_of : Refusal → List ℕ
refused_of r = two_of refused_word (number_of r) slot_word (value_of r)
