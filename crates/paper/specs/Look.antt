-- 01, "What the tablet does with a file": list, entry, show and read, each with the refusals of open before its own.
use Rattle.std.specs.Prelude.{ℕ, ◌+◌, ◌*◌, ◌≤◌, Bool, false, not, List, [], ◌∷◌, ◌++◌, ltb, leb, length, Ok, Err}
use Rattle.std.specs.Result.{result_unwrap_or}
use Rattle.lent.specs.Lists.{all, threes}
use Rattle.lent.specs.Checks.{Check, check, judge}
use Rattle.lent.specs.Write.{write}
use Rattle.paper.specs.declared.sizes.Sizes.{Sizes}
use Rattle.paper.specs.declared.sizes.Run.{Run}
use Rattle.paper.specs.declared.refusal.Refusal.{Refusal}
use Rattle.paper.specs.declared.refusal.Refusal.TheVariants.{NoSuchSlot, EmptySlot, TooSmall, NotVersionOne}
use Rattle.paper.specs.declared.entry.Entry.{Entry}
use Rattle.paper.specs.Answers.{Listed, Span, Ruled, Found}
use Rattle.paper.specs.Sizes.{sizes_of, version_of, capacity_of, home_of, start_of}
use Rattle.paper.specs.Index.{run_of, empty, slots_of, shown_of, open_checks}
use Rattle.paper.specs.Entry.{fields_of, version_one, no_entry}
use Rattle.paper.specs.Scan.{ruled_of, of_ruled}

-- "it writes slot, first and last as three 32-bit numbers per scan in slot order"
abbrev pub lines_of : (ℕ → Run) → List ℕ → List ℕ
lines_of run ss = threes (λ s. s) (λ s. (run s).first) (λ s. (run s).last) ss

-- the slots that a file lists
abbrev pub list_of : List ℕ → List ℕ
list_of f = slots_of (sizes_of f) (run_of f (sizes_of f))

-- "Listing: 1 to 8, then 17"
abbrev pub list_checks : List ℕ → List ℕ → List (Check Refusal)
list_checks f out = open_checks f ++ (check (ltb (length out) (3 * length (list_of f))) TooSmall ∷ [])

-- "answers the number of scans"
unfoldable pub listed_of : List ℕ → List ℕ → Listed
listed_of f out = judge Err (list_checks f out) (Ok (length (list_of f)))

-- what was lent for the list, afterwards: "and no further element"
unfoldable pub listed_out : List ℕ → List ℕ → List ℕ
listed_out f out = judge (λ r. out) (list_checks f out) (write out 0 (lines_of (run_of f (sizes_of f)) (list_of f)))

-- "slot outside 1 to capacity"
abbrev pub slot_tests : Sizes → ℕ → List Bool
slot_tests z s = leb 1 s ∷ leb s (capacity_of z) ∷ []

abbrev pub no_slot : Sizes → ℕ → Check Refusal
no_slot z s = check (not (all (slot_tests z s))) NoSuchSlot

-- "slot empty (entry, show, read, clear)"
abbrev pub no_scan : Run → Check Refusal
no_scan r = check (empty r) EmptySlot

-- 9, then 10
abbrev pub held_checks : List ℕ → ℕ → List (Check Refusal)
held_checks f s = no_slot (sizes_of f) s ∷ no_scan (run_of f (sizes_of f) s) ∷ []

-- open's own, then these
abbrev pub slot_checks : List ℕ → ℕ → List (Check Refusal)
slot_checks f s = open_checks f ++ held_checks f s

-- "read a slot's index entry"
unfoldable pub found_of : List ℕ → ℕ → Found
found_of f s =
    judge Err (slot_checks f s) (Ok (fields_of (version_of f) f (home_of (sizes_of f) s)))

-- the fields, "all zeros" where it is refused
abbrev pub fields_in : Found → Entry
fields_in x = result_unwrap_or x no_entry

-- "show a slot's records (the part of the lent file from first to last)"
abbrev pub records_span : Sizes → Run → Span
records_span z r = Ok (start_of z r.first, r.last * z.l)

unfoldable pub show_of : List ℕ → ℕ → Span
show_of f s = judge Err (slot_checks f s) (records_span (sizes_of f) (run_of f (sizes_of f) s))

-- "18, scan not version 1, stands between 10 and 11"
abbrev pub other_scan : List ℕ → ℕ → Check Refusal
other_scan f s = check (not (version_one (version_of f) f (home_of (sizes_of f) s))) NotVersionOne

abbrev pub read_checks : List ℕ → ℕ → List (Check Refusal)
read_checks f s = slot_checks f s ++ (other_scan f s ∷ [])

-- "A read answers the first HEADLEN + DATALEN bytes of the entry's records"
abbrev pub read_in : ℕ → Ruled → Span
read_in from ruled = of_ruled (λ head rest. Ok (from, from + (head + rest))) ruled

unfoldable pub read_of : List ℕ → ℕ → Span
read_of f s =
    judge Err (read_checks f s)
    (read_in (start_of (sizes_of f) (run_of f (sizes_of f) s).first) (ruled_of (shown_of f (sizes_of f) s) false))

-- ---- what the tests say, in plain facts

-- a slot of the index: what `slot_tests` says
pub record InIndex (z : Sizes) (slot : ℕ) : Type 0 where
  pub low : 1 ≤ slot
  pub high : slot ≤ capacity_of z
