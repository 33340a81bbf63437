-- A file that was judged, its row and its marks: what the calls on them ask for, and what their answers say of the file.
use Rattle.std.specs.Prelude.{Ok, Option, Some}
use Rattle.lent.specs.Least.{some_number}
use Rattle.lent.proofs.Founds.{was-found}
use Prim.Native.Nat.{ℕ, ◌*◌, ◌≤◌, max}
use mathlib.Core.Path.{◌≡◌, sym, ◌∙◌, ap, subst}
use mathlib.Core.Bool.{Bool, true, false}
use mathlib.Core.List.{List}
use native.Mathlib.Omega.{arith}
use borrow.Author.Tests.{leb-true}
use lib.Dec.{eqb}
use lib.ListN.{length}
use Rattle.lent.specs.Least.{Lowest}
use Rattle.lent.proofs.Lists.{all_true}
use Rattle.lent.proofs.Leasts.{lowest-least}
use Rattle.paper.specs.declared.sizes.Sizes.{Sizes}
use Rattle.paper.specs.declared.sizes.Run.{Run}
use Rattle.paper.specs.Answers.{Opened}
use Rattle.paper.specs.Sizes.{sizes_of, capacity_of, Shaped}
use Rattle.paper.specs.Index.{run_of, row_run, empty, change_boot_of, change_of}
use Rattle.paper.specs.Store.{records_for, free_place, empty_slot, highest, old_run}
use Rattle.paper.proofs.Opening.{full-facts, change-sound, change-reads, change-index, index_same}
use Rattle.paper.proofs.Used.{full-highest}
use Rattle.entries.specs.Row.{InFile, Stated, Bare}
use Rattle.index.specs.Judging.{Looked}
use Rattle.room.specs.Passing.{Sought, Hints, Vacant}
use Rattle.room.proofs.Freeing as room
use Rattle.paper.specs.Look.{slot_tests}
use Rattle.steps.specs.Tests.{has_slot}
use Rattle.store.specs.Beginning.{Rowing, Clearing}

pub opens-shape : (f : List ℕ) {z : Sizes} → change_of f ≡ Ok z → Shaped z
opens-shape f o = (change-sound f o).booted.ranged.shape

pub opens-long : (f : List ℕ) {z : Sizes} → change_of f ≡ Ok z → 32 ≤ length f
opens-long f o = omega (arith, (change-sound f o).booted.long)

-- the judgement handed back the sizes that it was given
pub rowing : (f row ws : List ℕ) (z y : Sizes) (o : Opened) → change_boot_of f ≡ Ok z → Looked f z row ws o → o ≡ Ok y → 2 * z.u ≤ length row → Rowing f z row ws
rowing f row ws z y o b l q w =
    let e : o ≡ Ok z = q ∙ ap Ok (sym (index_same z y (run_of f z) (sym l.is ∙ q))) in
    record { opens = change-index f b ∙ sym l.is ∙ e; looked = subst (Looked f z row ws) e l; wide = w }

-- a slot of the index
pub has-slot : (f : List ℕ) {z : Sizes} → change_of f ≡ Ok z → (slot : ℕ) → has_slot z slot ≡ true → InFile f z slot
unfolding has_slot
has-slot f {z} o slot there =
    let t = all_true (slot_tests z slot) there in
    record { booted = (change-sound f o).booted; low = leb-true 1 slot t.0; high = leb-true slot (capacity_of z) t.1.0 }

-- one at the sizes that the file opens with, and at those that its first record states
module _ (f : List ℕ) {z : Sizes} (o : change_of f ≡ Ok z) (slot : ℕ) where
  pub slot-stated : InFile f z slot → InFile f (sizes_of f) slot
  slot-stated = subst (λ (y : Sizes). InFile f y slot) (sym (change-reads f o))

  pub slot-opened : InFile f (sizes_of f) slot → InFile f z slot
  slot-opened = subst (λ (y : Sizes). InFile f y slot) (change-reads f o)

-- its run is the old one, at the sizes that the file opens with
pub old-there : (f : List ℕ) {z : Sizes} → change_of f ≡ Ok z → (slot : ℕ) {a : Run} → Stated f z slot a → a ≡ old_run f slot
old-there f o slot h = h.is ∙ ap (λ (y : Sizes). run_of f y slot) (sym (change-sound f o).booted.reads)

-- and one that has a scan
pub clearing : (f : List ℕ) (slot : ℕ) {z : Sizes} → change_of f ≡ Ok z → has_slot z slot ≡ true → (a : Run) → a ≡ run_of f z slot → (b : Bool) → b ≡ empty a → b ≡ false
    → Clearing f z slot
clearing f slot {z} o there a r b e h =
    let i = has-slot f o slot there in
    record { opens = o; slotted = record { low = i.low; high = i.high }; full = full-facts (run_of f z slot) (ap empty (sym r) ∙ sym e ∙ h) }

-- whether it is the highest
module _ (f : List ℕ) (z : Sizes) (slot : ℕ) (h : Clearing f z slot) where
  pub bare-above : Bare f z z.u (capacity_of z)
  bare-above = let S = change-sound f h.opens in record { low = S.booted.ranged.used; empty = λ s a b. S.laid.above s a b }

  pub lowers-is : (top : ℕ) → top ≡ max (highest f z) slot → eqb slot top ≡ eqb slot (highest f (sizes_of f))
  lowers-is top e =
      let t : top ≡ highest f z = omega (arith, full-highest f z slot h.slotted.high h.full) in
      ap (eqb slot) t ∙ ap (λ (y : Sizes). eqb slot (highest f y)) (sym (change-sound f h.opens).booted.reads)

module _ (f : List ℕ) (z : Sizes) (row ws : List ℕ) (h : Rowing f z row ws) where
  pub sought : (k : ℕ) → (1 ≤ k) × (k ≤ 65536) → Sought row z k
  sought k b = room.sought f z row h.looked.runs (change-sound f h.opens) h.wide k b.0 b.1

  pub hints : Hints ws z (row_run row)
  hints =
      room.hints f z row h.looked.runs ws
      (record { held = λ m. (h.looked.shows m).only })

  pub free-there : (o : Option ℕ) (len k size : ℕ) → o ≡ some_number (free_place z len (row_run row) k) → k ≡ records_for z size
      → o ≡ some_number (free_place z len (run_of f z) (records_for z size))
  free-there o len k size p e = p ∙ ap some_number (room.free-row f z row h.looked.runs len k ∙ ap (free_place z len (run_of f z)) e)

  pub empty-there : (o : Option ℕ) → Vacant row z o → o ≡ some_number (empty_slot z (run_of f z))
  empty-there o v = room.empty-row f z row h.looked.runs (change-sound f h.opens) o v

  -- the lowest empty slot is one of the index
  pub kept_there : (slot : ℕ) (o : Option ℕ) → Vacant row z o → o ≡ Some slot → InFile f z slot
  unfolding empty_slot
  kept_there slot o v q =
      let e = was-found (empty_slot z (run_of f z)) slot (sym (empty-there o v) ∙ q) in
      let l : Lowest (λ s. empty (run_of f z s)) (capacity_of z) slot = lowest-least (sym e.0) e.1 in
      record { booted = (change-sound f h.opens).booted; low = l.low; high = l.high }
