-- Not empty: there are files that open, a scan that is accepted, confirmed and read back, an old file with a scan that is read, and a file of each form that is
-- converted to the other. A store that refuses everything keeps no promise here.
use Rattle.std.specs.Prelude.{ℕ, ◌+◌, ◌*◌, ◌≤◌, ◌<◌, ◌≡◌, true, false, List, [], ◌∷◌, ◌++◌, pos, length, get_or, replicate, Ok}
use Rattle.paper.specs.declared.job.Step.TheVariants.{Saved}
use Rattle.paper.specs.Sizes.{Shaped}
use Rattle.paper.specs.Index.{open_of}
use Rattle.paper.specs.Scan.{part_of}
use Rattle.paper.specs.Look.{list_of, found_of, show_of, read_of, fields_in}
use Rattle.paper.specs.Store.{blank_sizes, blank_of, blank_file}
use Rattle.demands.specs.History.{save, takes, state_after, answer_after}
use Rattle.paper.specs.Convert.{convert_of}
use Rattle.demands.specs.Truth.{ReadsBack}
use Rattle.demands.specs.Convert.{converted}
use Rattle.paper.specs.Answers.{taken_in}

-- Sizes of the right shape that fit what is lent are blanked.
abbrev pub Blanks : Type 0
Blanks = (f : List ℕ) (n l m : ℕ) → Shaped (blank_sizes n l m) → n * l ≤ length f → blank_of f n l m ≡ Ok tt

-- "D = U = counter = type = 0": an accepted blank opens with the given sizes and lists nothing.
abbrev pub BlankOpens : Type 0
BlankOpens =
    (f : List ℕ) (n l m : ℕ) → blank_of f n l m ≡ Ok tt
    → (open_of (blank_file f n l m) ≡ Ok (record { n = n; d = 0; l = l; m = m; u = 0; counter = 0; kind = 0; version = 1 })) × (list_of (blank_file f n l m) ≡ [])

-- "Blank writes N records, .. zeros after word 8, and touches nothing beyond"
pub record Blanked (f g : List ℕ) (n l : ℕ) : Type 0 where
  pub cleared : (i : ℕ) → 32 ≤ i → i < n * l → get_or g i 0 ≡ 0
  pub beyond : (i : ℕ) → n * l ≤ i → get_or g i 0 ≡ get_or f i 0
  pub as_long : length g ≡ length f

abbrev pub BlankWrites : Type 0
BlankWrites = (f : List ℕ) (n l m : ℕ) → blank_of f n l m ≡ Ok tt → Blanked f (blank_file f n l m) n l

-- the least scan there is: 13 classes at the words 5, 21, 22 .. 32, HEADLEN 256 and DATALEN 0
unfoldable pub least_scan : List ℕ
least_scan =
    0 ∷ 13 ∷ 0 ∷ 5 ∷ 0 ∷ 21 ∷ 0 ∷ 22 ∷ 0 ∷ 23 ∷ 0 ∷ 24 ∷ 0 ∷ 25 ∷ 0 ∷ 26 ∷ 0 ∷ 27 ∷ 0 ∷ 28 ∷ 0 ∷ 29 ∷ 0 ∷ 30 ∷ 0 ∷ 31 ∷ 0 ∷ 32 ∷ 0 ∷ 0 ∷ 0 ∷ 0 ∷ 64 ∷ 112
    ∷ replicate 222 0

-- Where a blank file has room for one data record, that scan is saved to slot 1, confirmed at step 4, and read back, with any 54 bytes of entry.
pub record Kept (g about : List ℕ) : Type 0 where
  pub taken : takes g (save 1 least_scan about) ≡ true
  pub saved : answer_after g (save 1 least_scan about) 3 ≡ Ok (Saved 0 3)
  pub reads : ReadsBack (state_after g (save 1 least_scan about) 3).file 1 least_scan about

abbrev pub BlankKeeps : Type 0
BlankKeeps =
    (f : List ℕ) (n l m : ℕ) → blank_of f n l m ≡ Ok tt → (n + 1) * l ≤ length f → (about : List ℕ) → length about ≡ 54
    → Kept (blank_file f n l m) about

-- ---- an old file

-- N 2, D 1, L 512, M 64, U 1, counter 7; in slot 1, of magic number 2 and position code 9, that scan in record 3
unfoldable pub old_file : List ℕ
old_file =
    (0 ∷ 2 ∷ 0 ∷ 1 ∷ 2 ∷ 0 ∷ 0 ∷ 64 ∷ 0 ∷ 1 ∷ 0 ∷ 7 ∷ replicate 500 0)
    ++ ((0 ∷ 3 ∷ 0 ∷ 3 ∷ 0 ∷ 2 ∷ 0 ∷ 9 ∷ replicate 504 0) ++ (least_scan ++ replicate 256 0))

-- It opens, lists and reads, by computation, and no change is begun on it.
pub record OldReads : Type 0 where
  pub opens : open_of old_file ≡ Ok (record { n = 2; d = 1; l = 512; m = 64; u = 1; counter = 7; kind = 0; version = 0 })
  pub lists : list_of old_file ≡ 1 ∷ []
  pub shows : show_of old_file 1 ≡ Ok (1024, 1536)
  pub reads : part_of old_file (read_of old_file 1) ≡ least_scan
  pub entry : taken_in (found_of old_file 1) ≡ Ok tt
  pub magic : (fields_in (found_of old_file 1)).magic ≡ pos 2
  pub position : (fields_in (found_of old_file 1)).position ≡ pos 9
  pub not_saved : takes old_file (save 2 least_scan (replicate 54 0)) ≡ false

-- ---- there and home again

-- the same file in the current form, its position code at byte 60
unfoldable pub current_file : List ℕ
current_file =
    (0 ∷ 0 ∷ 0 ∷ 2 ∷ 0 ∷ 0 ∷ 0 ∷ 1 ∷ 0 ∷ 0 ∷ 2 ∷ 0 ∷ 0 ∷ 0 ∷ 0 ∷ 64 ∷ 0 ∷ 0 ∷ 0 ∷ 1 ∷ 0 ∷ 0 ∷ 0 ∷ 7 ∷ 0 ∷ 0 ∷ 0 ∷ 0 ∷ 0 ∷ 0 ∷ 0 ∷ 1 ∷ replicate 480 0)
    ++ ((0 ∷ 0 ∷ 0 ∷ 3 ∷ 0 ∷ 0 ∷ 0 ∷ 3 ∷ (replicate 52 0 ++ (0 ∷ 9 ∷ replicate 450 0))) ++ (least_scan ++ replicate 256 0))

-- Each is converted to the other, by computation, into a second buffer of sevens.
pub record BothWays : Type 0 where
  pub to_current : convert_of 1 old_file (replicate 1024 7) ≡ Ok tt
  pub is_current : converted 1 old_file (replicate 1024 7) ≡ current_file
  pub to_old : convert_of 0 current_file (replicate 1024 7) ≡ Ok tt
  pub is-old : converted 0 current_file (replicate 1024 7) ≡ old_file
