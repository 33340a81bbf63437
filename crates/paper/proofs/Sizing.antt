-- Where entries and records lie: sums and products of the sizes.
use Prim.Native.Nat.{ℕ, ◌+◌, ◌-◌, ◌*◌, ◌/◌, ◌≤◌, ◌<◌}
use mathlib.Core.Path.{◌≡◌, subst}
use mathlib.Core.List.{List}
use native.Mathlib.Omega.{arith}
use native.Mathlib.Nat.{mul-le-mul, mul-le-mul_right, div-add-mod', div-mul-le_self, add-mul, one-mul}
use lib.ListN.{length}
use Rattle.paper.specs.declared.sizes.Sizes.{Sizes}
use Rattle.paper.specs.Sizes.{capacity_of, record_of, place_of, start_of, home_of, bytes_of, Shaped, Ranged, Slotted}
use Rattle.paper.specs.Index.{Booted}

-- one less, times, and once more
pub less : (r k : ℕ) → 1 ≤ r → (r - 1) * k + k ≡ r * k
less r k h =
    let e : r - 1 + 1 ≡ r = omega arith in
    subst (λ (x : ℕ). (r - 1) * k + k ≡ x * k) e (omega arith)

pub times : (a b k : ℕ) → a ≤ b → a * k ≤ b * k
times a b k h = mul-le-mul_right k h

-- ---- products that code computes

pub index-small : (z : Sizes) → Shaped z → (z.n - 1) * z.l ≤ 2097152
index-small z h =
    let a : z.n - 1 ≤ 512 = omega arith in
    let p : (z.n - 1) * z.l ≤ 512 * 4096 = mul-le-mul a h.l_high in
    p

pub head_small : (z : Sizes) → Shaped z → z.n * z.l ≤ 2101248
head_small z h = mul-le-mul {n₂ = 513} {m₂ = 4096} h.n_high h.l_high

pub slot_small : (z : Sizes) (s : ℕ) → Slotted z s → (s - 1) * z.m ≤ 16777216
slot_small z s h =
    let a : s - 1 ≤ 4096 = omega arith in
    let b : z.m ≤ 4096 = omega arith in
    let p : (s - 1) * z.m ≤ 4096 * 4096 = mul-le-mul a b in
    p

pub bytes_small : (z : Sizes) → Ranged z → bytes_of z ≤ 4096000000
bytes_small z h =
    let p : (z.n + z.d) * z.l ≤ 1000000 * 4096 = mul-le-mul h.records h.shape.l_high in
    p

-- ---- places

-- "record 2 + ((s-1) x M) / L, rounded down, at place ((s-1) x M) mod L"
pub home-is : (z : Sizes) (s : ℕ) → start_of z (record_of z s) + place_of z s ≡ home_of z s
home-is z s =
    let x = (s - 1) * z.m in
    let e : 2 + x / z.l - 1 ≡ 1 + x / z.l = omega arith in
    rw (e, add-mul, one-mul) (omega (arith, div-add-mod' x z.l))

module _ (z : Sizes) (R : Shaped z) where
  -- the entries lie in the records 2 to N, one after the other
  pub home-end : (s : ℕ) → 1 ≤ s → s ≤ capacity_of z → home_of z s + z.m ≤ z.n * z.l
  home-end s h₁ h₂ =
      omega
      (arith, less s z.m h₁, times s (capacity_of z) z.m h₂, div-mul-le_self ((z.n - 1) * z.l) z.m, less z.n z.l (omega arith))

  pub home-next : (s t : ℕ) → 1 ≤ s → s < t → home_of z s + z.m ≤ home_of z t
  home-next s t h₁ h₂ = omega (arith, less s z.m h₁, times s (t - 1) z.m (omega arith))

  -- record 1 comes before the index
  pub head-long : 1024 ≤ z.n * z.l
  head-long = mul-le-mul {n₁ = 2} {m₁ = 512} R.n_low R.l_low

-- ---- in a file whose bootstrap is in order

module _ {f : List ℕ} {z : Sizes} (b : Booted f z) where
  pub head_in : z.n * z.l ≤ length f
  head_in = omega (arith, add-mul z.n z.d z.l, b.held)

  pub home-in : (s : ℕ) → 1 ≤ s → s ≤ capacity_of z → home_of z s + z.m ≤ length f
  home-in s low high = omega (arith, home-end z b.ranged.shape s low high, head_in)

  pub slotted : (s : ℕ) → 1 ≤ s → s ≤ capacity_of z → Slotted z s
  slotted s low high = record { shape = b.ranged.shape; low = low; high = high }
