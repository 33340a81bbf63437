-- "Each step writes at most one record": the bytes of every write lie in the record that the write names.
use Prim.Native.Nat.{ℕ, ◌+◌, ◌-◌, ◌*◌, ◌/◌, ◌%◌, ◌≤◌, ◌<◌}
use mathlib.Core.Path.{◌≡◌, sym, ◌∙◌, ap, subst}
use mathlib.Core.Bool.{Bool, true, false, cond}
use mathlib.Core.List.{List}
use native.Mathlib.Omega.{arith}
use native.Mathlib.Nat.{mod-lt, mul-mod_left, dvd_of_mod-eq-zero, mod-mod_of_dvd, div-add-mod', lt_of_mul-lt-mul_right, add-mul, one-mul}
use lib.ListN.{length, drop, get_or, length-take}
use Rattle.lent.specs.Write.{zeros}
use Rattle.lent.proofs.Writes.{length-zeros}
use Rattle.paper.specs.declared.sizes.Sizes.{Sizes}
use Rattle.paper.specs.declared.job.Job.{Job}
use Rattle.paper.specs.Sizes.{place_of, start_of, Shaped}
use Rattle.paper.specs.Store.{Write, run_from, count_of, padded_of, entry_after, sizes_write, entry_write, writes_of, sizes_after, lowered}
use Rattle.paper.specs.Step.{no_write}
use Rattle.paper.proofs.Sizing.{times, home-is}
use Rattle.paper.proofs.Encoding.{length-boot, length-entry}
use Rattle.paper.proofs.Writes.{length-writes, phases, writes-row, writes-boot, writes-entry, writes_lower, writes-zero}

-- the bytes of w lie in its record
pub record InRecord (z : Sizes) (w : Write) : Type 0 where
  pub from : start_of z w.record_no ≤ w.at
  pub to : w.at + length w.bytes ≤ start_of z w.record_no + z.l

-- a multiple of m below another has room for m
multiple-next : (p l m : ℕ) → 1 ≤ m → p % m ≡ 0 → l % m ≡ 0 → p < l → p + m ≤ l
multiple-next p l m h a b less =
    let c : p / m * m + p % m ≡ p = div-add-mod' p m in
    let d : l / m * m + l % m ≡ l = div-add-mod' l m in
    let e : p / m < l / m = lt_of_mul-lt-mul_right m (omega arith) in
    let k : (p / m + 1) * m ≤ l / m * m = times (p / m + 1) (l / m) m (omega arith) in
    let q : (p / m + 1) * m ≡ p / m * m + m = add-mul (p / m) 1 m ∙ ap (λ (x : ℕ). p / m * m + x) (one-mul m) in
    omega arith

either-length : (m : ℕ) (t : Bool) (x y : List ℕ) → length x ≡ m → length y ≡ m → length (cond t x y) ≡ m
either-length m true x y p q = p
either-length m false x y p q = q

module _ (z : Sizes) (R : Shaped z) where
  -- an entry does not run over the end of its record, since M divides L
  pub place-fits : (s : ℕ) → place_of z s + z.m ≤ z.l
  place-fits s =
      let d = dvd_of_mod-eq-zero z.m R.divides in
      multiple-next (place_of z s) z.l z.m (omega arith) (mod-mod_of_dvd z.m ((s - 1) * z.m) d ∙ mul-mod_left (s - 1) z.m) R.divides
      (mod-lt ((s - 1) * z.m) (omega arith))

  pub entry_length : (j : Job) → length j.about ≡ 54 → length (entry_after z j) ≡ z.m
  entry_length j h =
      either-length z.m j.saves _ (zeros z.m) (length-entry z (run_from j.first (count_of z j)) j.about h (omega arith)) (length-zeros z.m)

  entry_in : (j : Job) → length j.about ≡ 54 → InRecord z (entry_write z j)
  entry_in j h =
      record {
        from = omega (arith, home-is z j.slot);
        to = omega (arith, home-is z j.slot, place-fits j.slot, entry_length j h);
      }

  boot-in : (y : Sizes) → InRecord z (sizes_write y)
  boot-in y = record { from = omega arith; to = omega (arith, length-boot y) }

  -- each write of a job's list, whatever the job's numbers
  pub writes-in-record : (f : List ℕ) (j : Job) (scan : List ℕ) → length j.about ≡ 54 → (i : ℕ) → i < length (writes_of f z j scan)
      → InRecord z (get_or (writes_of f z j scan) i no_write)
  writes-in-record f j scan h i less =
      phases (InRecord z (get_or (writes_of f z j scan) i no_write)) z j i (omega (arith, length-writes f z j scan))
      (λ a. subst (InRecord z) (sym (writes-row f z j scan i a)) (record { from = omega arith; to = omega (arith, length-take z.l (drop (i * z.l) (padded_of z j scan))) }))
      (λ b. subst (InRecord z) (sym (writes-boot f z j scan i b)) (boot-in (sizes_after f z j)))
      (λ b. subst (InRecord z) (sym (writes-entry f z j scan i b)) (entry_in j h))
      (λ b t. subst (InRecord z) (sym (writes_lower f z j scan i b t)) (boot-in (lowered f z)))
      (λ m b t. subst (InRecord z) (sym (writes-zero f z j scan i m b t)) (record { from = omega arith; to = omega (arith, length-zeros z.l) }))
