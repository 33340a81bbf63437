-- 02, 2026-06: "Finding scans when the index is lost". What is found by the rules alone, and the call that reports it.
use Rattle.std.specs.Prelude.{ℕ, zero, suc, ◌+◌, ◌-◌, ◌*◌, false, cond, List, [], ◌∷◌, ◌++◌, ltb, length, Ok, Err}
use Rattle.lent.specs.Number.{be64}
use Rattle.lent.specs.Lists.{threes}
use Rattle.lent.specs.Checks.{Check, check, judge}
use Rattle.lent.specs.Part.{part}
use Rattle.lent.specs.Write.{write}
use Rattle.paper.specs.declared.sizes.Sizes.{Sizes}
use Rattle.paper.specs.declared.refusal.Refusal.{Refusal}
use Rattle.paper.specs.declared.refusal.Refusal.TheVariants.{TooSmall}
use Rattle.paper.specs.Answers.{Listed, Ruled}
use Rattle.paper.specs.Sizes.{sizes_of, start_of, bytes_of, boot_checks}
use Rattle.paper.specs.Scan.{ruled_of}
use Rattle.paper.specs.Store.{records_for}

-- "the run to the end of the data section": the bytes of the records r to N+D
abbrev pub rest_from : List ℕ → Sizes → ℕ → List ℕ
rest_from f z r = part (start_of z r) (bytes_of z) f

-- how many records a scan takes "by HEADLEN + DATALEN"; none where a rule is broken
abbrev pub takes : Sizes → Ruled → ℕ
takes z (Ok (head, rest)) = records_for z (head + rest)
takes z (Err reason) = 0

-- "judge the run .. by rules 1 to 5": how many records the scan takes that begins at record r, 0 where they do not hold
unfoldable pub takes_at : List ℕ → Sizes → ℕ → ℕ
takes_at f z r = takes z (ruled_of (rest_from f z r) false)

-- "the first record, the last by HEADLEN + DATALEN and class 1's third word, SCAN"
pub record Find : Type 0 where
  pub first : ℕ
  pub last : ℕ
  pub scan : ℕ

-- class 1 starts at byte 32, so that its third word is that of the bytes 48 to 55
abbrev pub find_at : List ℕ → Sizes → ℕ → ℕ → Find
find_at f z r last = record { first = r; last = last; scan = be64 (rest_from f z r) 48 }

-- "Where they hold, report .. and go on after the last; where not, go to the next record"
abbrev pub go_on : List ℕ → Sizes → ℕ → ℕ → (ℕ → List Find) → List Find
go_on f z r zero from = from (r + 1)
go_on f z r (suc k) from = find_at f z r (r + k) ∷ from (r + suc k)

-- from record r on, in so many turns at most
unfoldable pub find_turns : List ℕ → Sizes → ℕ → ℕ → List Find
find_turns f z zero r = []
find_turns f z (suc turns) r = cond (ltb (z.n + z.d) r) [] (go_on f z r (takes_at f z r) (λ next. find_turns f z turns next))

-- each turn takes at least one record, so there are no more turns than records are left
abbrev pub find_from : List ℕ → Sizes → ℕ → List Find
find_from f z r = find_turns f z (z.n + z.d + 1 - r) r

-- "From record N+1 on"
unfoldable pub find_of : List ℕ → Sizes → List Find
find_of f z = find_from f z (z.n + 1)

-- "report as three 64-bit numbers"
abbrev pub find_lines : List Find → List ℕ
find_lines xs = threes (λ x. x.first) (λ x. x.last) (λ x. x.scan) xs

-- "Refusals: 1 to 5, then 17"; 2 is for changes alone
abbrev pub find_checks : List ℕ → List ℕ → List (Check Refusal)
find_checks f out = boot_checks f ++ (check (ltb (length out) (3 * length (find_of f (sizes_of f)))) TooSmall ∷ [])

-- the answer is how many are found
unfoldable pub report_of : List ℕ → List ℕ → Listed
report_of f out = judge Err (find_checks f out) (Ok (length (find_of f (sizes_of f))))

-- what was lent for them, afterwards: "No element past 3 x finds is touched"
unfoldable pub report_out : List ℕ → List ℕ → List ℕ
report_out f out = judge (λ r. out) (find_checks f out) (write out 0 (find_lines (find_of f (sizes_of f))))
