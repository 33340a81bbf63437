-- 02, 2026-03: "Convert the bootstrap and index into a second lent buffer, N records, the rest of that buffer untouched and the data section being the same". The
-- wanted form is a version: 0 old, 1 current.
use Rattle.std.specs.Prelude.{ℕ, zero, suc, ◌+◌, ◌*◌, ◌≤◌, ◌<◌, ◌≡◌, Bool, not, cond, List, [], ◌∷◌, ◌++◌, ltb, leb, eqb, length, take, drop, get_or, Ok, Err}
use Rattle.lent.specs.Lists.{also, all}
use Rattle.lent.specs.Least.{least}
use Rattle.lent.specs.Checks.{Check, check, judge}
use Rattle.lent.specs.Number.{be16, numbers, words}
use Rattle.lent.specs.Part.{part}
use Rattle.lent.specs.Write.{write, pad}
use Rattle.paper.specs.declared.sizes.Sizes.{Sizes}
use Rattle.paper.specs.declared.sizes.Run.{Run}
use Rattle.paper.specs.declared.refusal.Refusal.{Refusal}
use Rattle.paper.specs.declared.refusal.Refusal.TheVariants.{TooSmall, NotConvertible}
use Rattle.paper.specs.Answers.{Taken}
use Rattle.paper.specs.Sizes.{sizes_of, by_form, boot_bytes, capacity_of, home_of}
use Rattle.paper.specs.Index.{run_of, empty, Full, open_checks, Sound}
use Rattle.paper.specs.Entry.{position_of, version_one}

-- ---- the N records in the wanted form

-- "N, L, M, U, D and the counter stay"
abbrev pub in_form : ℕ → Sizes → Sizes
in_form v z = record { n = z.n; d = z.d; l = z.l; m = z.m; u = z.u; counter = z.counter; kind = z.kind; version = v }

-- what an entry says in either form: its run, its position code and its bytes 8 to 59
pub record Carried : Type 0 where
  pub run : Run
  pub position : ℕ
  pub middle : List ℕ

abbrev pub carried_at : List ℕ → Sizes → ℕ → Carried
carried_at f z s =
    record { run = run_of f z s; position = position_of z.version f (home_of z s); middle = part (home_of z s + 8) (home_of z s + 60) f }

-- "to current: words 1 to 8 (type 0)"; "to old: six words"
unfoldable pub boot_as : ℕ → Sizes → List ℕ
boot_as v z = by_form v (numbers 2 (z.n ∷ z.d ∷ z.l ∷ z.m ∷ z.u ∷ z.counter ∷ [])) (boot_bytes z)

-- "each entry first, last, bytes 8 to 59, position code at 60"; to old "first, last, 2, position code, bytes 8 to 59"
unfoldable pub scan_as : ℕ → Carried → List ℕ
scan_as v c =
    by_form v (numbers 2 (c.run.first ∷ c.run.last ∷ 2 ∷ c.position ∷ []) ++ c.middle)
    (words (c.run.first ∷ c.run.last ∷ []) ++ (c.middle ++ numbers 2 (c.position ∷ [])))

-- "An empty entry is M zeros", and the rest of every other
unfoldable pub entry_as : ℕ → ℕ → Carried → List ℕ
entry_as v m c = pad m (cond (empty c.run) [] (scan_as v c))

-- the entries of the slots 1 to s, one after the other
unfoldable pub entries_as : ℕ → ℕ → (ℕ → Carried) → ℕ → List ℕ
entries_as v m carried zero = []
entries_as v m carried (suc s) = entries_as v m carried s ++ entry_as v m (carried (suc s))

-- the bootstrap with "zeros to L", then the index
unfoldable pub records_as : ℕ → Sizes → (ℕ → Carried) → List ℕ
records_as v z carried = pad z.l (boot_as v z) ++ entries_as v z.m carried (capacity_of z)

-- ---- what is refused

-- 17 "for a second buffer under N x L bytes"
abbrev pub too-small : List ℕ → Sizes → Check Refusal
too-small out z = check (ltb (length out) (z.n * z.l)) TooSmall

-- "Old to new needs magic 2 at each scan"; "an empty entry's magic is not asked"
abbrev pub magic_tests : List ℕ → Sizes → ℕ → List Bool
magic_tests f z s = not (empty (run_of f z s)) ∷ not (version_one z.version f (home_of z s)) ∷ []

unfoldable pub other_magic : List ℕ → Sizes → ℕ → Bool
other_magic f z s = all (magic_tests f z s)

-- "a first or a last above 32,767"
abbrev pub narrow_tests : Run → List Bool
narrow_tests r = leb r.first 32767 ∷ leb r.last 32767 ∷ []

unfoldable pub wide_run : (ℕ → Run) → ℕ → Bool
wide_run run s = not (all (narrow_tests (run s)))

-- "when going old"
abbrev pub going_old : ℕ → Bool → Bool
going_old v t = also (eqb v 0) t

-- 19, a check for each cause: "already in the wanted form", "of type 1", "another magic", and going old a D, a counter, "a first or a last" that 16 bits do not hold
abbrev pub form_checks : ℕ → List ℕ → Sizes → List (Check Refusal)
form_checks v f z =
    check (eqb z.version v) NotConvertible
    ∷ check (eqb z.kind 1) NotConvertible
    ∷ check (ltb 0 (least (other_magic f z) z.u)) NotConvertible
    ∷ check (going_old v (ltb 32767 z.d)) NotConvertible
    ∷ check (going_old v (ltb 65535 z.counter)) NotConvertible
    ∷ check (going_old v (ltb 0 (least (wide_run (run_of f z)) z.u))) NotConvertible
    ∷ []

-- "Refusals: open's own, then 17 .., then 19"
abbrev pub convert_checks : ℕ → List ℕ → List ℕ → List (Check Refusal)
convert_checks v f out = open_checks f ++ (too-small out (sizes_of f) ∷ form_checks v f (sizes_of f))

-- ---- the answer, and the second buffer afterwards

unfoldable pub convert_of : ℕ → List ℕ → List ℕ → Taken
convert_of v f out = judge Err (convert_checks v f out) (Ok tt)

-- "the rest of that buffer untouched"
unfoldable pub converted_out : ℕ → List ℕ → List ℕ → List ℕ
converted_out v f out = judge (λ r. out) (convert_checks v f out) (write out 0 (records_as v (sizes_of f) (carried_at f (sizes_of f))))

-- the file in the other form: "the converted N records, then the file's own bytes from N x L on"
unfoldable pub joined : List ℕ → List ℕ → List ℕ
joined f out = take ((sizes_of f).n * (sizes_of f).l) out ++ drop ((sizes_of f).n * (sizes_of f).l) f

-- ---- what the tests say, in plain facts

-- what is asked of a file so that its bootstrap and its scans can be said in form v
pub record Sayable (v : ℕ) (f : List ℕ) (z : Sizes) : Type 0 where
  pub data_type : z.kind ≡ 0
  pub magics : (s : ℕ) → 1 ≤ s → s ≤ z.u → Full (run_of f z s) → z.version ≡ 0 → be16 f (home_of z s + 4) ≡ 2
  pub few : v ≡ 0 → z.d ≤ 32767
  pub counted : v ≡ 0 → z.counter ≤ 65535
  pub narrow : v ≡ 0 → (s : ℕ) → 1 ≤ s → s ≤ z.u → ((run_of f z s).first ≤ 32767) × ((run_of f z s).last ≤ 32767)

-- what `convert_of v f out ≡ Ok tt` says
pub record Convertible (v : ℕ) (f out : List ℕ) (z : Sizes) : Type 0 where
  pub sound : Sound f z
  pub room : z.n * z.l ≤ length out
  pub other : z.version ≡ v → ⊥
  pub sayable : Sayable v f z

-- "where padding and empty entries were zeros": record 1 from byte `boot` on, every entry from byte `entry` on, and an empty one from its first byte on
pub record Zeroed (f : List ℕ) (z : Sizes) (boot entry : ℕ) : Type 0 where
  pub first : (i : ℕ) → boot ≤ i → i < z.l → get_or f i 0 ≡ 0
  pub padding : (s : ℕ) → 1 ≤ s → s ≤ capacity_of z → (i : ℕ) → entry ≤ i → i < z.m → get_or f (home_of z s + i) 0 ≡ 0
  pub empties : (s : ℕ) → 1 ≤ s → s ≤ capacity_of z → (run_of f z s).first + (run_of f z s).last ≡ 0 → (i : ℕ) → i < z.m → get_or f (home_of z s + i) 0 ≡ 0
