-- What each call asks for, in plain facts and in 01's order, and the refusal that is given where it is not so: a row for each call.
use Rattle.std.specs.Prelude.{ℕ, ◌+◌, ◌*◌, ◌≤◌, ◌<◌, ◌≡◌, Bool, true, false, List, length}
use Rattle.lent.specs.Number.{be16}
use Rattle.paper.specs.declared.sizes.Sizes.{Sizes}
use Rattle.paper.specs.declared.sizes.Run.{Run}
use Rattle.paper.specs.declared.refusal.Refusal.{Refusal}
use Rattle.paper.specs.declared.refusal.Refusal.TheVariants.{TooShort, OldForm, UnknownForm, OutOfRange, PastEnd, BadEntry, AboveUse, SharedRecord, NoSuchSlot, EmptySlot, BadScan, NoEmptySlot, NoRoom, Disagrees, Differs, BadBlank, TooSmall, NotVersionOne, NotConvertible, NotAllCame}
use Rattle.paper.specs.declared.job.Job.{Job}
use Rattle.paper.specs.declared.link.Link.{Link}
use Rattle.paper.specs.Sizes.{sizes_of, version_of, capacity_of, home_of, room_of, bytes_of, Ranged}
use Rattle.paper.specs.Index.{run_of, row_run, Full, shown_of, Lies}
use Rattle.paper.specs.Scan.{Rule}
use Rattle.paper.specs.Look.{list_of, InIndex}
use Rattle.paper.specs.Store.{blank_sizes, records_for, total_of, Blankable}
use Rattle.paper.specs.Step.{Agreeing, Standing}
use Rattle.paper.specs.Find.{find_of}

-- ---- rows

-- what is asked for, one thing after the other
pub data Row : Type 1 where
  end : Row
  -- a fact, and the refusal where it does not hold
  asks : (Good : Type 0) → Refusal → Row → Row
  -- a fact of each number from 1 to n, and the refusal that names the lowest of which it does not hold
  asks_each : (Good : ℕ → Type 0) (n : ℕ) → (ℕ → Refusal) → Row → Row
  -- what follows is asked for only where P holds
  only_if : (P : Type 0) → Row → Row

-- "lowest": of 1 to n, the lowest of which the fact does not hold
pub record Lowest (Good : ℕ → Type 0) (n k : ℕ) : Type 0 where
  pub low : 1 ≤ k
  pub high : k ≤ n
  pub amiss : Good k → ⊥
  pub below : (t : ℕ) → 1 ≤ t → t < k → Good t

-- the refusal r is q, since the fact does not hold; or it holds, and the rest decides
pub data One (Good : Type 0) (q : Refusal) (Rest : Type 0) (r : Refusal) : Type 0 where
  amiss : (Good → ⊥) → r ≡ q → One Good q Rest r
  passed : Good → Rest → One Good q Rest r

pub data First (Good : ℕ → Type 0) (n : ℕ) (q : ℕ → Refusal) (Rest : Type 0) (r : Refusal) : Type 0 where
  named : (k : ℕ) → Lowest Good n k → r ≡ q k → First Good n q Rest r
  none : ((k : ℕ) → 1 ≤ k → k ≤ n → Good k) → Rest → First Good n q Rest r

-- r is the refusal of the first fact in the row that does not hold
abbrev pub Given : Row → Refusal → Type 0
Given end r = ⊥
Given (asks Good q row) r = One Good q (Given row r) r
Given (asks_each Good n q row) r = First Good n q (Given row r) r
Given (only_if P row) r = P × Given row r

-- every fact of the row holds
abbrev pub Met : Row → Type 0
Met end = Unit
Met (asks Good q row) = Good × Met row
Met (asks_each Good n q row) = ((k : ℕ) → 1 ≤ k → k ≤ n → Good k) × Met row
Met (only_if P row) = P → Met row

-- ---- 1 to 8

-- "shares a record with a smaller one"
pub record Shared (run : ℕ → Run) (s : ℕ) : Type 0 where
  pub other : ℕ
  pub low : 1 ≤ other
  pub smaller : other < s
  pub at : ℕ
  pub counted : 1 ≤ at
  pub here : ((run s).first ≤ at) × (at ≤ (run s).last)
  pub there : ((run other).first ≤ at) × (at ≤ (run other).last)

abbrev pub IndexRow : Sizes → (ℕ → Run) → Row → Row
IndexRow z run row =
    asks_each (λ s. Lies z (run s)) z.u BadEntry
    (asks_each (λ s. z.u < s → (run s).first + (run s).last ≡ 0) (capacity_of z) AboveUse
    (asks_each (λ s. Shared run s → ⊥) z.u SharedRecord row))

-- 3 to 5, of either form, over the length and the sizes that the bootstrap states
abbrev pub SizeRow : ℕ → Sizes → Row → Row
SizeRow len z row = asks (z.version ≤ 1) UnknownForm (asks (Ranged z) OutOfRange (asks (bytes_of z ≤ len) PastEnd row))

abbrev pub BootRow : List ℕ → Row → Row
BootRow f row = SizeRow (length f) (sizes_of f) row

-- 3 to 8
abbrev pub WordRow : List ℕ → Row → Row
WordRow f row = BootRow f (IndexRow (sizes_of f) (run_of f (sizes_of f)) row)

abbrev pub OpenRow : List ℕ → Row → Row
OpenRow f row = asks (512 ≤ length f) TooShort (WordRow f row)

-- a file that may be changed: "2 now means a save, keep or clear on an old file and keeps its place"
abbrev pub ChangeRow : List ℕ → Row → Row
ChangeRow f row = asks (512 ≤ length f) TooShort (asks (version_of f ≡ 0 → ⊥) OldForm (WordRow f row))

-- ---- each call: "1 to 8 as numbered, then 9 or 12, 10, 11, 13"

-- a slot that holds a scan
abbrev pub HeldRow : List ℕ → ℕ → Row → Row
HeldRow f s row = asks (InIndex (sizes_of f) s) NoSuchSlot (asks (Full (run_of f (sizes_of f) s)) EmptySlot row)

abbrev pub SlotRow : List ℕ → ℕ → Row → Row
SlotRow f s row = OpenRow f (HeldRow f s row)

abbrev pub ClearRow : List ℕ → ℕ → Row
ClearRow f s = ChangeRow f (HeldRow f s end)

-- 11: "the number of the first one broken"
abbrev pub RuleRow : List ℕ → Bool → Row → Row
RuleRow scan saving row = asks_each (Rule scan saving) 6 BadScan row

-- "18, scan not version 1, stands between 10 and 11": "Magic 2 is a version 1 scan", bytes 4 and 5 of an old entry
abbrev pub VersionOne : List ℕ → ℕ → Type 0
VersionOne f s = version_of f ≡ 0 → be16 f (home_of (sizes_of f) s + 4) ≡ 2

abbrev pub ReadRow : List ℕ → ℕ → Row
ReadRow f s = SlotRow f s (asks (VersionOne f s) NotVersionOne (RuleRow (shown_of f (sizes_of f) s) false end))

abbrev pub ListRow : List ℕ → List ℕ → Row
ListRow f out = OpenRow f (asks (3 * length (list_of f) ≤ length out) TooSmall end)

-- 02, 2026-06: "Refusals: 1 to 5, then 17", whatever the index holds
abbrev pub FindRow : List ℕ → List ℕ → Row
FindRow f out = asks (512 ≤ length f) TooShort (BootRow f (asks (3 * length (find_of f (sizes_of f)) ≤ length out) TooSmall end))

-- "r to r+k-1 lie within the room and belong to no listed scan"
pub record FreeRun (f : List ℕ) (z : Sizes) (k r : ℕ) : Type 0 where
  pub past : z.n < r
  pub within : r + k ≤ room_of z (length f) + 1
  pub alone : (s q : ℕ) → 1 ≤ s → s ≤ z.u → r ≤ q → q < r + k → (run_of f z s).first ≤ q → q ≤ (run_of f z s).last → ⊥

-- 13: "no such r exists", where there is none of these
pub record Place (f scan : List ℕ) : Type 0 where
  pub at : ℕ
  pub free : FreeRun f (sizes_of f) (records_for (sizes_of f) (length scan)) at

abbrev pub ScanRow : List ℕ → List ℕ → Row
ScanRow f scan = RuleRow scan true (asks (Place f scan) NoRoom end)

abbrev pub SaveRow : List ℕ → ℕ → List ℕ → Row
SaveRow f slot scan = ChangeRow f (asks (InIndex (sizes_of f) slot) NoSuchSlot (ScanRow f scan))

-- 12: "no empty slot", where there is none of these
pub record Vacant (f : List ℕ) : Type 0 where
  pub slot : ℕ
  pub slotted : InIndex (sizes_of f) slot
  pub empty : (run_of f (sizes_of f) slot).first + (run_of f (sizes_of f) slot).last ≡ 0

abbrev pub KeepRow : List ℕ → List ℕ → Row
KeepRow f scan = ChangeRow f (asks (Vacant f) NoEmptySlot (ScanRow f scan))

-- "A step checks 14 first .. The confirming step then gives 1 to 8, then 15": a step that has a record to write is refused with nothing but 14
abbrev pub StepRow : List ℕ → List ℕ → Job → Row
StepRow f scan j =
    asks (Agreeing f scan j (sizes_of f)) Disagrees
    (only_if (j.written ≡ total_of (sizes_of f) j) (OpenRow f (asks (Standing f scan j (sizes_of f)) Differs end)))

-- 02, 2026-03: "open's own, then 17 for a second buffer under N x L bytes, then 19 where a file is already in the wanted form, is of type 1, has another magic, or
-- has D, a first or a last above 32,767 or a counter above 65,535 when going old"
abbrev pub EveryMagic : List ℕ → Type 0
EveryMagic f = (s : ℕ) → 1 ≤ s → s ≤ (sizes_of f).u → Full (run_of f (sizes_of f) s) → VersionOne f s

abbrev pub EveryNarrow : List ℕ → Type 0
EveryNarrow f = (s : ℕ) → 1 ≤ s → s ≤ (sizes_of f).u → ((run_of f (sizes_of f) s).first ≤ 32767) × ((run_of f (sizes_of f) s).last ≤ 32767)

abbrev pub FormRow : ℕ → List ℕ → Row
FormRow v f =
    asks (version_of f ≡ v → ⊥) NotConvertible
    (asks ((sizes_of f).kind ≡ 1 → ⊥) NotConvertible
    (asks (EveryMagic f) NotConvertible
    (asks (v ≡ 0 → (sizes_of f).d ≤ 32767) NotConvertible
    (asks (v ≡ 0 → (sizes_of f).counter ≤ 65535) NotConvertible (asks (v ≡ 0 → EveryNarrow f) NotConvertible end)))))

abbrev pub ConvertRow : ℕ → List ℕ → List ℕ → Row
ConvertRow v f out = OpenRow f (asks ((sizes_of f).n * (sizes_of f).l ≤ length out) TooSmall (FormRow v f))

-- 02, 2026-07: "17 at any call lent a shorter row", and begin and take ask for nothing else
abbrev pub LentRow : List ℕ → Row → Row
LentRow lent row = asks (8192 ≤ length lent) TooSmall row

-- what is asked of the index: "fewer than N x L came: 20; then 6 to 8"
abbrev pub CameRow : Link → Sizes → (ℕ → Run) → Row
CameRow k z run = asks (z.n * z.l ≤ k.came) NotAllCame (IndexRow z run end)

-- "Finish: 17; length < 512: 1; fewer than 32 bytes came: 20; the bootstrap's own (3, 4, 5, over the given length)", and then the index
abbrev pub FinishRow : Link → List ℕ → Row
FinishRow k lent =
    LentRow lent
    (asks (512 ≤ k.span) TooShort
    (asks (32 ≤ k.came) NotAllCame (SizeRow k.span (sizes_of k.boot) (CameRow k (sizes_of k.boot) (row_run lent)))))

-- 16
abbrev pub BlankRow : List ℕ → ℕ → ℕ → ℕ → Row
BlankRow f n l m = asks (Blankable f (blank_sizes n l m)) BadBlank end
