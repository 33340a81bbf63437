-- 01, "The scan": its preamble, its rules, its classes and its data, over a run of bytes.
use Rattle.std.specs.Prelude.{ℕ, zero, suc, ◌+◌, ◌-◌, ◌*◌, ◌%◌, ◌≤◌, ◌<◌, ◌≡◌, Bool, true, false, not, cond, List, [], ◌∷◌, leb, eqb, get_or, length, ℤ, pos, Ok, Err, Some}
use Rattle.std.specs.Int.Signed.{lt_z}
use Rattle.lent.specs.Number.{be16, be64, int16}
use Rattle.lent.specs.Lists.{table, every, all}
use Rattle.lent.specs.Checks.{Check, check, judge}
use Rattle.lent.specs.Part.{part, place_in}
use Rattle.whole.specs.Length.{length_of, size_of, is_whole}
use Rattle.paper.specs.Answers.{Ruled, Span}
use Rattle.paper.specs.declared.refusal.Refusal.TheVariants.{BadScan}
use Rattle.paper.specs.Entry.{natural_of}

-- "the number of classes (Integer*2)"; a negative one counts as 0
unfoldable pub classes_of : List ℕ → ℕ
classes_of s = natural_of (int16 (be16 s 0))

-- "then fifteen class starts (Integer*2 each)"
unfoldable pub starts_of : List ℕ → List ℤ
starts_of s = table 15 (λ k. int16 (be16 s (2 + 2 * k)))

-- start k + 1, a word number counted from 1; 0 for a negative one
abbrev pub word_of : List ℤ → ℕ → ℕ
word_of starts k = natural_of (get_or starts k (pos 0))

-- "Class 1 opens with HEADLEN and DATALEN, both Real*8 counts of bytes"
abbrev pub headlen : List ℕ → ℕ
headlen s = size_of (length_of (be64 s 32))

abbrev pub datalen : List ℕ → ℕ
datalen s = size_of (length_of (be64 s 40))

-- 1. "S is at least 256, and at most 65,536 when saving"
abbrev pub rule1_tests : ℕ → Bool → List Bool
rule1_tests size saving = leb 256 size ∷ cond saving (leb size 65536) true ∷ []

unfoldable pub rule1 : ℕ → Bool → Bool
rule1 size saving = all (rule1_tests size saving)

-- 2. "13 to 15 classes"
abbrev pub rule2_tests : ℕ → List Bool
rule2_tests n = leb 13 n ∷ leb n 15 ∷ []

unfoldable pub rule2 : ℕ → Bool
rule2 n = all (rule2_tests n)

-- 3. "Start 1 is 5, start 2 is at least 21, each start is greater than the one before"
unfoldable pub rising : List ℤ → ℕ → Bool
rising starts n = every (n - 1) (λ k. lt_z (get_or starts k (pos 0)) (get_or starts (k + 1) (pos 0)))

abbrev pub rule3_tests : List ℤ → ℕ → List Bool
rule3_tests starts n = eqb (word_of starts 0) 5 ∷ leb 21 (word_of starts 1) ∷ rising starts n ∷ []

unfoldable pub rule3 : List ℤ → ℕ → Bool
rule3 starts n = all (rule3_tests starts n)

-- 4. "HEADLEN is a whole number, a multiple of 8, at least 8 times the last class's start, at most S and at most 65,536"
abbrev pub rule4_tests : List ℕ → ℕ → List Bool
rule4_tests s last =
    is_whole (length_of (be64 s 32))
    ∷ eqb (headlen s % 8) 0
    ∷ leb (8 * last) (headlen s)
    ∷ leb (headlen s) (length s)
    ∷ leb (headlen s) 65536
    ∷ []

unfoldable pub rule4 : List ℕ → ℕ → Bool
rule4 s last = all (rule4_tests s last)

-- 5. "DATALEN is a whole number, a multiple of 4, at most 65,536, and HEADLEN + DATALEN is at most S"
abbrev pub rule5_tests : List ℕ → List Bool
rule5_tests s =
    is_whole (length_of (be64 s 40))
    ∷ eqb (datalen s % 4) 0
    ∷ leb (datalen s) 65536
    ∷ leb (headlen s + datalen s) (length s)
    ∷ []

unfoldable pub rule5 : List ℕ → Bool
rule5 s = all (rule5_tests s)

-- 6. "When saving, HEADLEN + DATALEN equals S"
unfoldable pub rule6 : List ℕ → Bool → Bool
rule6 s saving = cond saving (eqb (headlen s + datalen s) (length s)) true

-- "The rules, in order"
abbrev pub rule_checks : List ℕ → Bool → List (Check ℕ)
rule_checks s saving =
    check (not (rule1 (length s) saving)) 1
    ∷ check (not (rule2 (classes_of s))) 2
    ∷ check (not (rule3 (starts_of s) (classes_of s))) 3
    ∷ check (not (rule4 s (word_of (starts_of s) (classes_of s - 1)))) 4
    ∷ check (not (rule5 s)) 5
    ∷ check (not (rule6 s saving)) 6
    ∷ []

-- "the number of the first one broken is the reason in refusal 11"
unfoldable pub ruled_of : List ℕ → Bool → Ruled
ruled_of s saving = judge Err (rule_checks s saving) (Ok (headlen s, datalen s))

-- the byte at which the class after k others starts: "a Real*8 word number counted from 1"
unfoldable pub class_at : List ℤ → ℕ → ℕ
class_at starts k = 8 * (word_of starts k - 1)

-- "Each class runs from its start to the next class's start, the last one to HEADLEN"
unfoldable pub class_end : List ℤ → ℕ → ℕ → ℕ → ℕ
class_end starts n head number = cond (eqb number n) head (class_at starts number)

-- "then an empty part for a class number outside 1 to the count"
unfoldable pub class_in : List ℤ → ℕ → ℕ → ℕ → Span
class_in starts n head number =
    cond (all (leb 1 number ∷ leb number n ∷ [])) (Ok (class_at starts (number - 1), class_end starts n head number)) (Ok (0, 0))

-- what is asked of a scan that keeps the rules; 11 with the reason where one is broken
abbrev pub of_ruled : (ℕ → ℕ → Span) → Ruled → Span
of_ruled k (Ok (head, rest)) = k head rest
of_ruled k (Err reason) = Err (BadScan reason)

-- "Asked of a run of bytes, a class gives 11 where rules 1 to 5 are broken"
unfoldable pub class_of : List ℕ → ℕ → Span
class_of s number = of_ruled (λ head rest. class_in (starts_of s) (classes_of s) head number) (ruled_of s false)

-- "the data follow at once"
unfoldable pub data_of : List ℕ → Span
data_of s = of_ruled (λ head rest. Ok (head, head + rest)) (ruled_of s false)

-- the part of what was lent that a span names; nothing where the call is refused
abbrev pub part_of : List ℕ → Span → List ℕ
part_of s (Ok (from, to)) = part from to s
part_of s (Err r) = []

-- at which byte of what was lent that part begins; at 0 where the call is refused
abbrev pub span_place : List ℕ → Span → ℕ
span_place s (Ok (from, to)) = place_in from to s
span_place s (Err r) = 0

-- ---- the rules in plain facts

-- the last class's start
abbrev pub last_of : List ℕ → ℕ
last_of s = word_of (starts_of s) (classes_of s - 1)

-- 1. "S is at least 256, and at most 65,536 when saving"
abbrev pub Rule1 : ℕ → Bool → Type 0
Rule1 size saving = (256 ≤ size) × (saving ≡ true → size ≤ 65536)

-- 2. "13 to 15 classes"
abbrev pub Rule2 : ℕ → Type 0
Rule2 n = (13 ≤ n) × (n ≤ 15)

-- 3. "Start 1 is 5, start 2 is at least 21, each start is greater than the one before"
abbrev pub Rule3 : List ℤ → ℕ → Type 0
Rule3 starts n = (word_of starts 0 ≡ 5) × (21 ≤ word_of starts 1) × ((k : ℕ) → k + 1 < n → word_of starts k < word_of starts (k + 1))

-- 4. "HEADLEN is a whole number, a multiple of 8, at least 8 times the last class's start, at most S and at most 65,536"
abbrev pub Rule4 : List ℕ → ℕ → Type 0
Rule4 s last =
    (length_of (be64 s 32) ≡ Some (headlen s)) × (headlen s % 8 ≡ 0) × (8 * last ≤ headlen s) × (headlen s ≤ length s) × (headlen s ≤ 65536)

-- 5. "DATALEN is a whole number, a multiple of 4, at most 65,536, and HEADLEN + DATALEN is at most S"
abbrev pub Rule5 : List ℕ → Type 0
Rule5 s =
    (length_of (be64 s 40) ≡ Some (datalen s)) × (datalen s % 4 ≡ 0) × (datalen s ≤ 65536) × (headlen s + datalen s ≤ length s)

-- 6. "When saving, HEADLEN + DATALEN equals S"
abbrev pub Rule6 : List ℕ → Bool → Type 0
Rule6 s saving = saving ≡ true → headlen s + datalen s ≡ length s

-- rule n of 1 to 6; there is no other to be broken
abbrev pub Rule : List ℕ → Bool → ℕ → Type 0
Rule s saving zero = Unit
Rule s saving (suc zero) = Rule1 (length s) saving
Rule s saving (suc (suc zero)) = Rule2 (classes_of s)
Rule s saving (suc (suc (suc zero))) = Rule3 (starts_of s) (classes_of s)
Rule s saving (suc (suc (suc (suc zero)))) = Rule4 s (last_of s)
Rule s saving (suc (suc (suc (suc (suc zero))))) = Rule5 s
Rule s saving (suc (suc (suc (suc (suc (suc zero)))))) = Rule6 s saving
Rule s saving (suc (suc (suc (suc (suc (suc (suc n))))))) = Unit

-- what `ruled_of s saving ≡ Keeps head rest` says
pub record Kept (s : List ℕ) (saving : Bool) (head rest : ℕ) : Type 0 where
  pub one : Rule1 (length s) saving
  pub two : Rule2 (classes_of s)
  pub three : Rule3 (starts_of s) (classes_of s)
  pub four : Rule4 s (last_of s)
  pub five : Rule5 s
  pub six : Rule6 s saving
  pub head_is : headlen s ≡ head
  pub rest_is : datalen s ≡ rest

-- and of the lengths alone
pub record Lengths (s : List ℕ) (saving : Bool) (head rest : ℕ) : Type 0 where
  pub head_is : headlen s ≡ head
  pub rest_is : datalen s ≡ rest
  pub long : 256 ≤ length s
  pub within : head + rest ≤ length s
  pub head_small : head ≤ 65536
  pub rest_small : rest ≤ 65536
  pub fills : saving ≡ true → head + rest ≡ length s
  pub short : saving ≡ true → length s ≤ 65536
