-- 02, 2026-06: "Finding scans when the index is lost". What is found, for every file with a good bootstrap; and that it is what the index lists, where nothing else is left.
use Rattle.std.specs.Prelude.{ℕ, ◌+◌, ◌*◌, ◌≤◌, ◌<◌, ◌≡◌, false, length, get_or, Ok}
use mathlib.Core.List.{List, [], ◌∷◌, map, Memᴰ}
use Rattle.lent.specs.Number.{be64}
use Rattle.paper.specs.declared.sizes.Sizes.{Sizes}
use Rattle.paper.specs.Sizes.{sizes_of, start_of}
use Rattle.paper.specs.Index.{run_of, shown_of, boot_of, open_of}
use Rattle.paper.specs.Scan.{headlen, datalen, Rule}
use Rattle.paper.specs.Look.{list_of}
use Rattle.paper.specs.Store.{records_for, many_of}
use Rattle.paper.specs.Gaps.{GapsZero}
use Rattle.paper.specs.Find.{Find, rest_from, find_of, report_of, report_out}

-- ---- what is found

-- "judge the run to the end of the data section by rules 1 to 5": no rule is broken; 6 asks nothing when reading
abbrev pub Obeys : List ℕ → Type 0
Obeys run = (n : ℕ) → Rule run false n

-- a find lies in the data section, its run obeys the rules, and its last record and number are what that run says
pub record Right (f : List ℕ) (z : Sizes) (x : Find) : Type 0 where
  pub past : z.n < x.first
  pub within : x.last ≤ z.n + z.d
  pub obeys : Obeys (rest_from f z x.first)
  -- "the last by HEADLEN + DATALEN"
  pub ends : x.last + 1 ≡ x.first + records_for z (headlen (rest_from f z x.first) + datalen (rest_from f z x.first))
  -- "class 1's third word, SCAN": bytes 48 to 55
  pub number : x.scan ≡ be64 f (start_of z x.first + 48)

-- each begins after the one before has ended: they rise and share no record
abbrev pub InOrder : ℕ → List Find → Type 0
InOrder last [] = Unit
InOrder last (x ∷ xs) = (last < x.first) × (x.first ≤ x.last) × InOrder x.last xs

pub record Finds (f : List ℕ) (z : Sizes) : Type 0 where
  pub right : (x : Find) → Memᴰ x (find_of f z) → Right f z x
  pub order : InOrder z.n (find_of f z)
  -- "where not, go to the next record": a data record that is in no find begins no scan
  pub none_missed : (r : ℕ) → z.n < r → r ≤ z.n + z.d → ((x : Find) → Memᴰ x (find_of f z) → x.first ≤ r → r ≤ x.last → ⊥)
      → Obeys (rest_from f z r) → ⊥

-- For every file with a good bootstrap, whatever its index holds.
abbrev pub FindsRight : Type 0
FindsRight = (f : List ℕ) (z : Sizes) → boot_of f ≡ Ok z → Finds f z

-- ---- and what is listed

-- a scan "obeys the rules and fills exactly its records": as many as HEADLEN + DATALEN take
pub record Fills (f : List ℕ) (z : Sizes) (s : ℕ) : Type 0 where
  pub obeys : Obeys (shown_of f z s)
  pub exactly : records_for z (headlen (shown_of f z s) + datalen (shown_of f z s)) ≡ many_of (run_of f z s)

abbrev pub AllFill : List ℕ → Sizes → Type 0
AllFill f z = (s : ℕ) → Memᴰ s (list_of f) → Fills f z s

-- what is found of a slot's scan
abbrev pub slot_find : List ℕ → Sizes → ℕ → Find
slot_find f z s = record { first = (run_of f z s).first; last = (run_of f z s).last; scan = be64 (shown_of f z s) 48 }

-- "the reported runs are the listed ones, each once, in record order": the slots listed, in another order, in which their finds rise
pub record Listed (f : List ℕ) (z : Sizes) : Type 0 where
  pub slots : List ℕ
  pub only : (s : ℕ) → Memᴰ s slots → Memᴰ s (list_of f)
  pub each : (s : ℕ) → Memᴰ s (list_of f) → Memᴰ s slots
  pub order : InOrder z.n (map (slot_find f z) slots)
  pub found : find_of f z ≡ map (slot_find f z) slots

-- "On a file that opens, whose free records are all zeros and whose scans all obey the rules and fill exactly their records"
abbrev pub FindsListed : Type 0
FindsListed = (f : List ℕ) (z : Sizes) → open_of f ≡ Ok z → GapsZero f z → AllFill f z → Listed f z

-- ---- what is reported

-- "report as three 64-bit numbers", and "No element past 3 x finds is touched"
pub record Reported (f out : List ℕ) (n : ℕ) (after : List ℕ) : Type 0 where
  pub count : n ≡ length (find_of f (sizes_of f))
  pub first : (i : ℕ) (d : Find) → i < n → get_or after (3 * i) 0 ≡ (get_or (find_of f (sizes_of f)) i d).first
  pub last : (i : ℕ) (d : Find) → i < n → get_or after (3 * i + 1) 0 ≡ (get_or (find_of f (sizes_of f)) i d).last
  pub number : (i : ℕ) (d : Find) → i < n → get_or after (3 * i + 2) 0 ≡ (get_or (find_of f (sizes_of f)) i d).scan
  pub beyond : (i : ℕ) → 3 * n ≤ i → get_or after i 0 ≡ get_or out i 0
  pub as_long : length after ≡ length out

abbrev pub FindLines : Type 0
FindLines = (f out : List ℕ) (n : ℕ) → report_of f out ≡ Ok n → Reported f out n (report_out f out)
