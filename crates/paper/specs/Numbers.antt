-- 01, "Numbers to hold us to": the lines marked P, and those of 02.
use Rattle.std.specs.Prelude.{ℕ, ◌≤◌, ◌≡◌, List, ◌∷◌, length, replicate, Some, None}
use Rattle.lent.specs.Number.{be16}
use Rattle.whole.specs.Length.{length_of}
use Rattle.paper.specs.Refusals.{opened_says, taken_says}
use Rattle.paper.specs.Sizes.{sizes_of, version_of, capacity_of, record_of, place_of}
use Rattle.paper.specs.Index.{open_of}
use Rattle.paper.specs.Store.{blank_sizes, records_for, save_of}
use Rattle.paper.specs.Answers.{taken_in}

-- the number that judging a file answers, 0 where it opens
abbrev pub answered : List ℕ → ℕ
answered f = (opened_says (open_of f)).number

-- the number that a save answers, 0 where it is begun
abbrev pub saving : List ℕ → ℕ → List ℕ → List ℕ → ℕ
saving f slot scan about = (taken_says (taken_in (save_of f slot scan about))).number

-- a file of either form with these sizes in its bootstrap
pub record Stated (f : List ℕ) (n l m : ℕ) : Type 0 where
  pub long : 512 ≤ length f
  pub version : version_of f ≤ 1
  pub n_is : (sizes_of f).n ≡ n
  pub l_is : (sizes_of f).l ≡ l
  pub m_is : (sizes_of f).m ≡ m

-- an old file with no scan: N 2, D 0, L 512, M 64, U 0
abbrev pub least_old : List ℕ
least_old = 0 ∷ 2 ∷ 0 ∷ 0 ∷ 2 ∷ 0 ∷ 0 ∷ 64 ∷ replicate 1016 0

-- the table, a field for each result, for every file and every size that a line leaves open
pub record Numbers : Type 0 where
  -- "lent 0 bytes"; "511 bytes"
  pub none_lent : (f : List ℕ) → length f ≡ 0 → answered f ≡ 1
  pub lent_511 : (f : List ℕ) → length f ≡ 511 → answered f ≡ 1
  -- "word 8 = 0", which "speaks of a save"; "word 8 = 2"
  pub word_8_is_0 : (f : List ℕ) (slot : ℕ) (scan about : List ℕ) → 512 ≤ length f → version_of f ≡ 0 → saving f slot scan about ≡ 2
  pub word_8_is_2 : (f : List ℕ) → 512 ≤ length f → version_of f ≡ 2 → answered f ≡ 3
  -- "N 129, L 512, M 64"; "N 513, L 512, M 64"
  pub slots_129 : capacity_of (blank_sizes 129 512 64) ≡ 1024
  pub slots_513 : capacity_of (blank_sizes 513 512 64) ≡ 4096
  -- "N 514, L 512, M 64"; "M 96, L 512"
  pub n_514 : (f : List ℕ) → Stated f 514 512 64 → answered f ≡ 4
  pub m_96 : (f : List ℕ) (n : ℕ) → Stated f n 512 96 → answered f ≡ 4
  -- open of an old file: one that opens; D is FFFF (hex), which is -1
  pub old_opens : answered least_old ≡ 0
  pub old_minus_d : (f : List ℕ) → 512 ≤ length f → version_of f ≡ 0 → be16 f 2 ≡ 65535 → answered f ≡ 4
  -- "L 512, M 64: slot 8"; "slot 9"
  pub record_8 : (n : ℕ) → record_of (blank_sizes n 512 64) 8 ≡ 2
  pub place_8 : (n : ℕ) → place_of (blank_sizes n 512 64) 8 ≡ 448
  pub record_9 : (n : ℕ) → record_of (blank_sizes n 512 64) 9 ≡ 3
  pub place_9 : (n : ℕ) → place_of (blank_sizes n 512 64) 9 ≡ 0
  -- "double 4070000000000000 (hex)"; "8000000000000000 (hex)"
  pub double_256 : length_of 4643211215818981376 ≡ Some 256
  pub minus_zero : length_of 9223372036854775808 ≡ None
  -- "L 512: 1,024 bytes"; "1,028 bytes"
  pub two_records : (n m : ℕ) → records_for (blank_sizes n 512 m) 1024 ≡ 2
  pub three_records : (n m : ℕ) → records_for (blank_sizes n 512 m) 1028 ≡ 3
