-- 01, "Numbers to hold us to": the lister's text, as bytes.
use Rattle.std.specs.Prelude.{ℕ, zero, suc, ◌+◌, ◌/◌, ◌%◌, cond, List, [], ◌∷◌, ◌++◌, ltb, leb, length, Ok, Err}
use Rattle.paper.specs.declared.sizes.Run.{Run}
use Rattle.paper.specs.Answers.{Opened}
use Rattle.paper.specs.Refusals.{number_of, value_of}
use Rattle.paper.specs.Sizes.{capacity_of}
use Rattle.paper.specs.Index.{run_of, slots_of, open_of}

-- a number in decimal: at most `most` digits
unfoldable pub digits : ℕ → ℕ → List ℕ
digits zero n = []
digits (suc most) n = cond (ltb n 10) ((48 + n) ∷ []) (digits most (n / 10) ++ ((48 + n % 10) ∷ []))

abbrev pub decimal : ℕ → List ℕ
decimal n = digits 20 n

-- slot, first, last, with a blank between and a newline after
abbrev pub line_of : (ℕ → Run) → ℕ → List ℕ
line_of run s = decimal s ++ (32 ∷ decimal (run s).first ++ (32 ∷ decimal (run s).last ++ (10 ∷ [])))

unfoldable pub lines_text : (ℕ → Run) → List ℕ → List ℕ
lines_text run [] = []
lines_text run (s ∷ ss) = line_of run s ++ lines_text run ss

-- "slots ", "used ", "scans ", "refused ", "slot "
abbrev pub slots_word : List ℕ
slots_word = 115 ∷ 108 ∷ 111 ∷ 116 ∷ 115 ∷ 32 ∷ []

abbrev pub used_word : List ℕ
used_word = 32 ∷ 117 ∷ 115 ∷ 101 ∷ 100 ∷ 32 ∷ []

abbrev pub scans_word : List ℕ
scans_word = 32 ∷ 115 ∷ 99 ∷ 97 ∷ 110 ∷ 115 ∷ 32 ∷ []

abbrev pub refused_word : List ℕ
refused_word = 114 ∷ 101 ∷ 102 ∷ 117 ∷ 115 ∷ 101 ∷ 100 ∷ 32 ∷ []

abbrev pub slot_word : List ℕ
slot_word = 32 ∷ 115 ∷ 108 ∷ 111 ∷ 116 ∷ 32 ∷ []

-- "slots 16 used 9 scans 2" and a line for each scan; "A file refused prints one line, as `refused 6 slot 3`"
abbrev pub text_of : List ℕ → Opened → List ℕ
text_of f (Ok z) =
    slots_word ++ (decimal (capacity_of z) ++ (used_word ++ (decimal z.u ++ (scans_word
    ++ (decimal (length (slots_of z (run_of f z))) ++ (10 ∷ lines_text (run_of f z) (slots_of z (run_of f z))))))))
text_of f (Err r) = refused_word ++ (decimal (number_of r) ++ (slot_word ++ (decimal (value_of r) ++ (10 ∷ []))))

-- the list of a file, or its refusal
unfoldable pub list_text : List ℕ → List ℕ
list_text f = text_of f (open_of f)

-- "for a longer input it prints `too long`"
abbrev pub too_long : List ℕ
too_long = 116 ∷ 111 ∷ 111 ∷ 32 ∷ 108 ∷ 111 ∷ 110 ∷ 103 ∷ 10 ∷ []

-- what the lister prints: it "reads one file of at most 65,536 bytes"
unfoldable pub printed : List ℕ → List ℕ
printed f = cond (leb (length f) 65536) (list_text f) too_long
