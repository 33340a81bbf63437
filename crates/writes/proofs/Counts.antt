-- How many records a scan takes and a job has to write, and the sizes that its bootstrap states.
use Rattle.std.proofs.Common.{◌≡◌, ℕ, ◌+◌, ◌-◌, ◌*◌, ◌/◌, ◌%◌, ◌<◌, ◌≤◌, max, min, Bool, true, false, cond, List, refl, sym, ap, ◌∙◌, mul-le-mul, arith}
use native.Mathlib.Nat.{add-div_right}
use Rattle.std.proofs.lemmas.Nat.{div-mul-add}
use Rattle.std.proofs.lemmas.Grind.{div_ceil_times}
use Rattle.paper.specs.declared.sizes.Sizes.{Sizes}
use Rattle.paper.specs.declared.job.Job.{Job}
use Rattle.paper.specs.Sizes.{renewed, capacity_of, start_of, Shaped, Ranged}
use Rattle.paper.specs.Store.{highest, records_for, count_of, data_after, used_after, counter_after, sizes_after, lowered}
use Rattle.paper.proofs.Used.{highest-le}
use Rattle.writes.specs.Inside.{Narrow, Placed, Held}

-- "S / L rounded up", as the library has it
pub rounded-up : (x y : ℕ) → 0 < y → x / y + min 1 (x % y) ≡ (x + (y - 1)) / y
rounded-up x y h =
    let n : ℕ = x / y + min 1 (x % y) in
    let b : ℕ = x + (y - 1) - n * y in
    let t = div_ceil_times x y h in
    let e : x + (y - 1) ≡ n * y + b = omega arith in
    sym (ap (λ (k : ℕ). k / y) e ∙ div-mul-add n y b (omega arith))

pub records-some : (z : Sizes) (size : ℕ) → Shaped z → 1 ≤ size → records_for z size ≡ (size - 1) / z.l + 1
records-some z size h k =
    let e : size + (z.l - 1) ≡ size - 1 + z.l = omega arith in
    rw e (add-div_right (size - 1) (omega arith))

pub count-save : (z : Sizes) (j : Job) → j.saves ≡ true → records_for z j.size ≡ count_of z j
count-save z j e = rw e

pub count-clear : (z : Sizes) (j : Job) → j.saves ≡ false → 0 ≡ count_of z j
count-clear z j e = rw e

-- the sizes that the job's bootstrap states fit their words
pub narrow : (z : Sizes) (d u c : ℕ) → Ranged z → d ≤ 1000001 → u ≤ capacity_of z → Narrow (renewed z d u c)
narrow z d u c r p q = record { n = omega arith; d = omega arith; l = omega arith; m = omega arith; u = omega arith; kind = omega arith }

data-small : (z : Sizes) (j : Job) → Held z j → data_after z j ≤ 1000001
data-small z j h = go j.saves refl
  where
    go : (b : Bool) → j.saves ≡ b → cond b (max z.d (j.first + count_of z j - 1 - z.n)) z.d ≤ 1000001
    go true e = let p = h.placed e in let r = h.ranged in omega arith
    go false e = let r = h.ranged in omega arith

pub narrow-after : (f : List ℕ) (z : Sizes) (j : Job) → Held z j → Narrow (sizes_after f z j)
narrow-after f z j h = narrow z (data_after z j) (used_after f z j) (counter_after z) h.ranged (data-small z j h) (omega (arith, highest-le f z, h.slot.high))

pub narrow-lowered : (f : List ℕ) (z : Sizes) → Ranged z → Narrow (lowered f z)
narrow-lowered f z r = narrow z z.d (highest f z) z.counter r (omega (arith, r.records)) (highest-le f z)

-- where a save's k records begin, and how many bytes they are
pub record Spanned (z : Sizes) (j : Job) (k : ℕ) : Type 0 where
  pub low : 1 ≤ j.first
  pub from : start_of z j.first ≤ 4096000000
  pub size : k * z.l ≤ 4096004096

pub spanned : (z : Sizes) (j : Job) {k : ℕ} → k ≡ count_of z j → Shaped z → Placed z j → Spanned z j k
spanned z j e s p =
    record {
      low = omega arith;
      from = mul-le-mul {n₂ = 1000000} {m₂ = 4096} (omega arith) s.l_high;
      size = mul-le-mul {n₂ = 1000001} {m₂ = 4096} (omega arith) s.l_high;
    }
