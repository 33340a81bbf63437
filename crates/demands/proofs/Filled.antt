-- An accepted blank opens, and keeps a scan; an old file with a scan is read; a file of each form is converted to the other.
use Rattle.std.specs.Prelude.{Ok}
use Rattle.std.specs.Result.{is_ok}
use Prim.Native.Nat.{ℕ, ◌+◌, ◌-◌, ◌*◌, ◌/◌, ◌≤◌, ◌<◌}
use mathlib.Core.Path.{◌≡◌, refl, sym, ◌∙◌, ap, subst}
use mathlib.Core.Bool.{true}
use mathlib.Core.List.{List, []}
use mathlib.Core.Logic.{◌≢◌}
use native.Mathlib.Omega.{arith}
use native.Mathlib.Nat.{zero-add, le-div_iff_mul-le, div-lt_iff_lt-mul, mul-le-mul_right}
use lib.ListN.{length, get_or, get_or-eq_default}
use lib.Ieee.{of_bits}
use Rattle.lent.specs.Number.{number, value, digit, bytes, numbers, int16, widened}
use Rattle.lent.specs.Lists.{table, every, those}
use Rattle.lent.specs.Least.{least}
use Rattle.lent.specs.Write.{write, zeros, pad}
use Rattle.lent.proofs.Writes.{length-pad, pad-at, write-in, write-after}
use Rattle.whole.specs.Number.{exactly, whole_float, whole_of}
use Rattle.whole.specs.Length.{length_of, is_whole, size_of}
use Rattle.paper.specs.declared.sizes.Sizes.{Sizes}
use Rattle.paper.specs.Answers.{Begun}
use Rattle.paper.specs.declared.job.Step.TheVariants.{Saved}
use Rattle.paper.specs.Sizes.{sizes_of, word_at, counter_of, type_of, boot_bytes, capacity_of, room_of, shaped, in_range}
use Rattle.paper.specs.Index.{run_of, empty, in_data, bad_at, above_at, shares, sharer, shared_at, slots_of, open_of, Sound, Changeable}
use Rattle.paper.specs.Entry.{kind_of, magic_of, position_of, version_one, fields_of}
use Rattle.paper.specs.Scan.{classes_of, starts_of, rule1, rule2, rule3, rule4, rule5, rule6, rising, headlen, datalen, ruled_of}
use Rattle.paper.specs.Store.{blank_sizes, blank_of, blank_file, records_for, free_place, many_of, save_of, job_in}
use Rattle.paper.specs.Look.{found_of, show_of, read_of, InIndex}
use Rattle.paper.specs.Convert.{boot_as, scan_as, entry_as, entries_as, records_as, other_magic, wide_run, convert_of, converted_out, joined}
use Rattle.paper.proofs.Sizing.{head-long}
use Rattle.paper.proofs.Opening.{sound-open}
use Rattle.paper.proofs.Encoding.{length-boot}
use Rattle.paper.proofs.Begins.{SaveTaken, taken-save}
use Rattle.paper.proofs.Blank.{blank-facts, facts-blank, blank-file, blank-sound, blank-length, first-place}
use Rattle.demands.specs.History.{save, takes, slot_of, writes_by, state_after, answer_after}
use Rattle.demands.specs.Truth.{ReadsBack}
use Rattle.demands.specs.NotEmpty.{Blanks, BlankOpens, BlankWrites, least_scan, Kept, BlankKeeps, old_file, OldReads, current_file, BothWays}
use Rattle.demands.proofs.Survived.{confirms-each}
use Rattle.demands.proofs.True.{run-reads}

pub blanks : Blanks
blanks f n l m s h = facts-blank f n l m (record { shape = s; fits = h })

sound : (f : List ℕ) (n l m : ℕ) → blank_of f n l m ≡ Ok tt → Sound (blank_file f n l m) (blank_sizes n l m)
sound f n l m e = let h = blank-facts f n l m e in rw (blank-file f n l m h) (blank-sound f n l m h)

pub blank-opens : BlankOpens
unfolding slots_of those
blank-opens f n l m e =
    let S = sound f n l m e in
    (sound-open S, subst (λ (y : Sizes). slots_of y (run_of (blank_file f n l m) y) ≡ []) (sym S.booted.reads) refl)

-- ---- the least scan

scan-keeps : ruled_of least_scan true ≡ Ok (headlen least_scan, datalen least_scan)
unfolding number value int16 table every exactly whole_float whole_of of_bits length_of is_whole size_of classes_of starts_of rule1 rule2 rule3 rule4 rule5 rule6 rising ruled_of least_scan
scan-keeps = refl

scan-long : length least_scan ≡ 256
unfolding least_scan
scan-long = refl

-- it takes one record
one_record : (z : Sizes) → 512 ≤ z.l → records_for z (length least_scan) ≡ 1
one_record z h =
    let x : ℕ = length least_scan + (z.l - 1) in
    let l₁ : 1 ≤ z.l = omega arith in
    let low : 1 ≤ x / z.l = (le-div_iff_mul-le l₁).1 (omega (arith, scan-long)) in
    let high : x / z.l < 2 = (div-lt_iff_lt-mul l₁).1 (omega (arith, scan-long)) in
    omega arith

-- the bytes of an accepted blank
pub blank-writes : BlankWrites
blank-writes f n l m e =
    let h = blank-facts f n l m e in
    let z : Sizes = blank_sizes n l m in
    let bs : List ℕ = pad (n * l) (boot_bytes z) in
    let b = length-boot z in
    let len : length bs ≡ n * l = length-pad (n * l) (boot_bytes z) (omega (arith, head-long z h.shape)) in
    let g = blank-file f n l m h in
    record {
      cleared = λ i a k.
          rw g
          (ap (λ (x : ℕ). get_or (write f 0 bs) x 0) (sym (zero-add i)) ∙ write-in f 0 bs (omega arith) i (omega arith)
          ∙ pad-at (n * l) (boot_bytes z) i ∙ get_or-eq_default (boot_bytes z) 0 (omega arith));
      beyond = λ i a. rw g (write-after f 0 bs (omega arith) i (omega arith));
      as_long = rw g (blank-length f n l m h);
    }

module _ (f : List ℕ) (n l m : ℕ) (e : blank_of f n l m ≡ Ok tt) (room : (n + 1) * l ≤ length f) where
  abbrev z : Sizes
  z = blank_sizes n l m

  abbrev g : List ℕ
  g = blank_file f n l m

  S : Sound g z
  S = sound f n l m e

  l₁ : 1 ≤ l
  l₁ = omega (arith, S.booted.ranged.shape.l_low)

  one : records_for z (length least_scan) ≡ 1
  one = one_record z S.booted.ranged.shape.l_low

  long : length g ≡ length f
  long = let h = blank-facts f n l m e in rw (blank-file f n l m h) (blank-length f n l m h)

  roomy : n + 1 ≤ room_of z (length g)
  roomy =
      let h : n + 1 ≤ length g / l = (le-div_iff_mul-le l₁).1 (rw long room) in
      let q = S.booted.ranged.shape in
      omega arith

  slots : 1 ≤ capacity_of z
  slots =
      let q = S.booted.ranged.shape in
      let m₁ : 1 ≤ m = omega arith in
      let a : 1 ≤ n - 1 = omega arith in
      (le-div_iff_mul-le m₁).1 (omega (arith, mul-le-mul_right l a))

  taken : SaveTaken g 1 least_scan
  taken =
      let r : sizes_of g ≡ z = S.booted.reads in
      record {
        may = subst (λ (y : Sizes). Changeable g y) (sym r) (record { sound = S; current = refl });
        slotted = subst (λ (y : Sizes). InIndex y 1) (sym r) (record { low = omega arith; high = slots });
        placed = record {
          keeps = scan-keeps;
          found =
              subst (λ (y : Sizes). free_place y (length g) (run_of g y) (records_for y (length least_scan)) ≢ 0) (sym r)
              (first-place z (length g) (run_of g z) (records_for z (length least_scan)) (omega (arith, one)) refl (omega (arith, one, roomy)));
        };
      }

  keeps : (about : List ℕ) → length about ≡ 54 → Kept g about
  keeps about w =
      let t : takes g (save 1 least_scan about) ≡ true = ap (λ (b : Begun). is_ok b) (taken-save g 1 least_scan about taken) in
      let o : open_of g ≡ Ok z = sound-open S in
      let s : slot_of g (save 1 least_scan about) ≡ 1 = ap (λ (b : Begun). (job_in b).slot) (taken-save g 1 least_scan about taken) in
      let none : many_of (run_of g z (slot_of g (save 1 least_scan about))) ≡ 0 = rw s (omega (arith, S.laid.above 1 (omega arith) slots)) in
      let q : writes_by g z (save 1 least_scan about) ≡ 3 = omega (arith, one, none) in
      let q' : writes_by g z (save 1 least_scan about) + 0 ≡ 3 = omega (arith, q) in
      record {
        taken = t;
        saved =
            ap (answer_after g (save 1 least_scan about)) (sym q') ∙ (confirms-each g z o (save 1 least_scan about) w t).confirms 0 ∙ ap (λ (n : ℕ). Ok (Saved 0 n)) q;
        reads =
            subst (λ (x : ℕ). ReadsBack (state_after g (save 1 least_scan about) 3).file x least_scan about) s
            (subst (λ (k : ℕ). ReadsBack (state_after g (save 1 least_scan about) k).file (slot_of g (save 1 least_scan about)) least_scan about) q'
            (run-reads g z o (save 1 least_scan about) tt w t 0));
      }

pub blank-keeps : BlankKeeps
blank-keeps f n l m e room about w = keeps f n l m e room about w

-- ---- an old file

pub old-reads : OldReads
unfolding number value int16 widened table every those least exactly whole_float whole_of of_bits length_of is_whole size_of word_at counter_of type_of shaped in_range empty in_data bad_at above_at shares sharer shared_at open_of slots_of kind_of magic_of position_of version_one fields_of classes_of starts_of rule1 rule2 rule3 rule4 rule5 rule6 rising ruled_of found_of show_of read_of save_of least_scan old_file
old-reads =
    record {
      opens = refl;
      lists = refl;
      shows = refl;
      reads = refl;
      entry = refl;
      magic = refl;
      position = refl;
      not_saved = refl;
    }

pub both_ways : BothWays
unfolding number value widened digit bytes numbers table zeros pad least write word_at counter_of type_of boot_bytes shaped in_range empty in_data bad_at above_at shares sharer shared_at magic_of position_of version_one other_magic wide_run boot_as scan_as entry_as entries_as records_as convert_of converted_out joined least_scan old_file current_file
both_ways =
    record {
      to_current = refl;
      is_current = refl;
      to_old = refl;
      is-old = refl;
    }
