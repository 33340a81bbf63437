-- 01, "A save, record by record": blank; what save, keep and clear answer, the job that they hand back, and the writes that the job stands for.
use Rattle.std.specs.Prelude.{ℕ, zero, suc, ◌+◌, ◌-◌, ◌*◌, ◌/◌, ◌%◌, ◌≤◌, max, Bool, true, false, not, cond, List, [], ◌∷◌, ◌++◌, ltb, leb, eqb, length, take, drop, replicate, Ok, Err}
use Rattle.std.specs.Result.{result_unwrap_or}
use Rattle.lent.specs.Lists.{all}
use Rattle.lent.specs.Least.{least}
use Rattle.lent.specs.Greatest.{greatest}
use Rattle.lent.specs.Checks.{Check, check, judge}
use Rattle.lent.specs.Write.{write, zeros, pad}
use Rattle.paper.specs.declared.sizes.Sizes.{Sizes}
use Rattle.paper.specs.declared.sizes.Run.{Run}
use Rattle.paper.specs.declared.refusal.Refusal.{Refusal}
use Rattle.paper.specs.declared.refusal.Refusal.TheVariants.{NoEmptySlot, BadScan, NoRoom, BadBlank}
use Rattle.paper.specs.Answers.{Ruled, Taken, Begun}
use Rattle.paper.specs.declared.job.Job.{Job}
use Rattle.paper.specs.Sizes.{sizes_of, boot_bytes, renewed, capacity_of, record_of, start_of, home_of, room_of, shaped, Shaped}
use Rattle.paper.specs.Index.{run_of, empty, sharer, change_checks}
use Rattle.paper.specs.Entry.{entry_bytes}
use Rattle.paper.specs.Scan.{ruled_of}
use Rattle.paper.specs.Look.{no_slot, held_checks}

-- ---- blank

-- "D = U = counter = type = 0", of the current form
abbrev pub blank_sizes : ℕ → ℕ → ℕ → Sizes
blank_sizes n l m = record { n = n; d = 0; l = l; m = m; u = 0; counter = 0; kind = 0; version = 1 }

-- 16: "N, L or M outside the ranges, capacity above 4,096, or N x L exceeds the lent length"
abbrev pub blank_tests : ℕ → Sizes → List Bool
blank_tests len z = shaped z ∷ leb (z.n * z.l) len ∷ []

abbrev pub blank_checks : List ℕ → Sizes → List (Check Refusal)
blank_checks f z = check (not (all (blank_tests (length f) z))) BadBlank ∷ []

unfoldable pub blank_of : List ℕ → ℕ → ℕ → ℕ → Taken
blank_of f n l m = judge Err (blank_checks f (blank_sizes n l m)) (Ok tt)

-- "Blank writes N records, .. zeros after word 8, and touches nothing beyond"
unfoldable pub blank_file : List ℕ → ℕ → ℕ → ℕ → List ℕ
blank_file f n l m = judge (λ r. f) (blank_checks f (blank_sizes n l m)) (write f 0 (pad (n * l) (boot_bytes (blank_sizes n l m))))

-- what may be blanked, in plain facts
pub record Blankable (f : List ℕ) (z : Sizes) : Type 0 where
  pub shape : Shaped z
  pub fits : z.n * z.l ≤ length f

-- ---- beginning

-- "Let k be S / L rounded up"
abbrev pub records_for : Sizes → ℕ → ℕ
records_for z size = (size + (z.l - 1)) / z.l

-- the run of k records from r on
abbrev pub run_from : ℕ → ℕ → Run
run_from r k = record { first = r; last = r + k - 1 }

-- "r to r+k-1 lie within the room and belong to no listed scan, the slot's present scan included"
abbrev pub free_tests : Sizes → ℕ → (ℕ → Run) → ℕ → ℕ → List Bool
free_tests z len run k r = ltb z.n r ∷ leb (r + k) (room_of z len + 1) ∷ eqb (sharer run (run_from r k) z.u) 0 ∷ []

unfoldable pub free_at : Sizes → ℕ → (ℕ → Run) → ℕ → ℕ → Bool
free_at z len run k r = all (free_tests z len run k r)

-- "the lowest record r >= N+1", or 0
unfoldable pub free_place : Sizes → ℕ → (ℕ → Run) → ℕ → ℕ
free_place z len run k = least (free_at z len run k) (room_of z len)

-- "keep a scan in the lowest empty slot", or 0
unfoldable pub empty_slot : Sizes → (ℕ → Run) → ℕ
empty_slot z run = least (λ s. empty (run s)) (capacity_of z)

-- 02, 2026-04: "the highest slot with a scan", or 0: of all slots, those above U too
abbrev pub highest : List ℕ → Sizes → ℕ
highest f z = greatest (λ s. not (empty (run_of f z s))) (capacity_of z)

-- 02, 2026-05: how many records a run has: those up to its last, less those before its first
abbrev pub many_of : Run → ℕ
many_of r = r.last - (r.first - 1)

-- "a job of zeros"
abbrev pub no_job : Job
no_job =
    record {
      saves = false;
      slot = 0;
      size = 0;
      span = 0;
      first = 0;
      written = 0;
      lowers = false;
      old = 0;
      many = 0;
      boot = replicate 32 0;
      about = replicate 54 0;
    }

-- the job that is handed back: "a refused save, keep or clear hands back a job of zeros"
abbrev pub job_in : Begun → Job
job_in b = result_unwrap_or b no_job

-- the place for a scan of `size` bytes in a file
abbrev pub place_for : List ℕ → ℕ → ℕ
place_for f size = free_place (sizes_of f) (length f) (run_of f (sizes_of f)) (records_for (sizes_of f) size)

-- 02, 2026-05: "A job carries that old run", of "the scan replaced or cleared": what the slot holds as it is begun
abbrev pub old_run : List ℕ → ℕ → Run
old_run f slot = run_of f (sizes_of f) slot

-- a save's job, at the place r
abbrev pub saves_at : List ℕ → ℕ → List ℕ → List ℕ → ℕ → Job
saves_at f slot scan about r =
    record {
      saves = true;
      slot = slot;
      size = length scan;
      span = length f;
      first = r;
      written = 0;
      lowers = false;
      old = (old_run f slot).first;
      many = many_of (old_run f slot);
      boot = take 32 f;
      about = about;
    }

abbrev pub save_job : List ℕ → ℕ → List ℕ → List ℕ → Job
save_job f slot scan about = saves_at f slot scan about (place_for f (length scan))

-- "is lent an empty scan"; it lowers U where it is "a clear of that highest slot"
abbrev pub clear_job : List ℕ → ℕ → Job
clear_job f slot =
    record {
      saves = false;
      slot = slot;
      size = 0;
      span = length f;
      first = 0;
      written = 0;
      lowers = eqb slot (highest f (sizes_of f));
      old = (old_run f slot).first;
      many = many_of (old_run f slot);
      boot = take 32 f;
      about = replicate 54 0;
    }

-- the number of the rule that a scan to be saved breaks, or 0
abbrev pub reason_of : Ruled → ℕ
reason_of (Ok (head, rest)) = 0
reason_of (Err reason) = reason

-- 11, then 13
abbrev pub scan_checks : List ℕ → List ℕ → List (Check Refusal)
scan_checks f scan =
    check (ltb 0 (reason_of (ruled_of scan true))) (BadScan (reason_of (ruled_of scan true)))
    ∷ check (eqb (place_for f (length scan)) 0) NoRoom
    ∷ []

-- "1 to 8 as numbered, then 9 or 12, 10, 11, 13"
unfoldable pub save_of : List ℕ → ℕ → List ℕ → List ℕ → Begun
save_of f slot scan about =
    judge Err (change_checks f ++ (no_slot (sizes_of f) slot ∷ scan_checks f scan)) (Ok (save_job f slot scan about))

abbrev pub keep_slot : List ℕ → ℕ
keep_slot f = empty_slot (sizes_of f) (run_of f (sizes_of f))

unfoldable pub keep_of : List ℕ → List ℕ → List ℕ → Begun
keep_of f scan about =
    judge Err (change_checks f ++ (check (eqb (keep_slot f) 0) NoEmptySlot ∷ scan_checks f scan)) (Ok (save_job f (keep_slot f) scan about))

unfoldable pub clear_of : List ℕ → ℕ → Begun
clear_of f slot = judge Err (change_checks f ++ held_checks f slot) (Ok (clear_job f slot))

-- ---- the writes of a job

-- some bytes, where in the file they go, and the record that is written
pub record Write : Type 0 where
  pub at : ℕ
  pub bytes : List ℕ
  pub record_no : ℕ

abbrev pub perform : List ℕ → Write → List ℕ
perform f w = write f w.at w.bytes

-- how many data records: k for a save, none for a clear
abbrev pub count_of : Sizes → Job → ℕ
count_of z j = cond j.saves (records_for z j.size) 0

-- the bytes of the data records: "the last padded with zeros"
abbrev pub padded_of : Sizes → Job → List ℕ → List ℕ
padded_of z j scan = pad (count_of z j * z.l) (cond j.saves scan [])

-- k records from r on
unfoldable pub data_from : Sizes → ℕ → ℕ → List ℕ → List Write
data_from z r zero bytes = []
data_from z r (suc k) bytes =
    record { at = start_of z r; bytes = take z.l bytes; record_no = r } ∷ data_from z (r + 1) k (drop z.l bytes)

abbrev pub data_writes : Sizes → Job → List ℕ → List Write
data_writes z j scan = data_from z j.first (count_of z j) (padded_of z j scan)

-- "record 1 with D = max(D, r+k-1-N), .. and the counter one higher"; a clear leaves D
abbrev pub data_after : Sizes → Job → ℕ
data_after z j = cond j.saves (max z.d (j.first + count_of z j - 1 - z.n)) z.d

-- 02, 2026-04: "U to the highest slot with a scan, the one being saved or cleared counted"
abbrev pub used_after : List ℕ → Sizes → Job → ℕ
used_after f z j = max (highest f z) j.slot

-- "32 plain bits; after all ones comes zero"
abbrev pub counter_after : Sizes → ℕ
counter_after z = (z.counter + 1) % 4294967296

abbrev pub sizes_after : List ℕ → Sizes → Job → Sizes
sizes_after f z j = renewed z (data_after z j) (used_after f z j) (counter_after z)

-- record 1 with these sizes
abbrev pub sizes_write : Sizes → Write
sizes_write y = record { at = 0; bytes = boot_bytes y; record_no = 1 }

abbrev pub boot_write : List ℕ → Sizes → Job → Write
boot_write f z j = sizes_write (sizes_after f z j)

-- "then the slot's entry in its index record"; of a clear "M zeros as the entry"
abbrev pub entry_after : Sizes → Job → List ℕ
entry_after z j = cond j.saves (entry_bytes z (run_from j.first (count_of z j)) j.about) (zeros z.m)

abbrev pub entry_write : Sizes → Job → Write
entry_write z j = record { at = home_of z j.slot; bytes = entry_after z j; record_no = record_of z j.slot }

-- "A clear of that highest slot gets a third write"; a save has none, whatever its job says
abbrev pub lowers_of : Job → Bool
lowers_of j = cond j.saves false j.lowers

-- "record 1 again with U lowered to what is left, or 0; its counter isn't raised twice"
abbrev pub lowered : List ℕ → Sizes → Sizes
lowered f z = renewed z z.d (highest f z) z.counter

abbrev pub lower_writes : List ℕ → Sizes → Job → List Write
lower_writes f z j = cond (lowers_of j) (sizes_write (lowered f z) ∷ []) []

-- 02, 2026-05: "zeros over each record of the scan replaced or cleared, lowest first": data records of zeros
abbrev pub zero_writes : Sizes → Job → List Write
zero_writes z j = data_from z j.old j.many (zeros (j.many * z.l))

-- how many writes make the change, and how many there are with the zeros: from the job and the sizes that no write changes, never from the file as it stands
abbrev pub change_of : Sizes → Job → ℕ
change_of z j = count_of z j + 2 + cond (lowers_of j) 1 0

abbrev pub total_of : Sizes → Job → ℕ
total_of z j = change_of z j + j.many

-- "the k data records .., then record 1 .., then the slot's entry", then "the lowered U if any", and then zeros; each as the file f with the sizes z has it when its turn comes
unfoldable pub writes_of : List ℕ → Sizes → Job → List ℕ → List Write
writes_of f z j scan = data_writes z j scan ++ (boot_write f z j ∷ entry_write z j ∷ (lower_writes f z j ++ zero_writes z j))
