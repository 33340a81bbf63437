-- Blank: its refusal, and the file that it leaves.
use Rattle.std.specs.Prelude.{Ok, Err}
use Prim.Native.Nat.{ℕ, ◌*◌, ◌≤◌}
use mathlib.Core.Path.{◌≡◌}
use mathlib.Core.Bool.{true, false}
use mathlib.Core.List.{List}
use native.Mathlib.Omega.{arith}
use borrow.Author.Tests.{leb-true}
use lib.ListN.{length}
use Rattle.lent.specs.Write.{write, pad}
use Rattle.lent.proofs.Lists.{all_true}
use Rattle.paper.specs.declared.sizes.Sizes.{Sizes}
use Rattle.paper.specs.declared.refusal.Refusal.TheVariants.{BadBlank}
use Rattle.paper.specs.Answers.{Taken}
use Rattle.paper.specs.Sizes.{boot_bytes, Shaped}
use Rattle.paper.specs.Store.{blank_tests, blank_sizes, blank_of, blank_file}
use Rattle.paper.proofs.Opening.{shaped-facts}
use Rattle.paper.proofs.Sizing.{head_small, head-long}
use Rattle.store.specs.Blank.{blank_fits}
use Rattle.writes.specs.Inside.{Narrow}

-- what fits
pub record Fitting (z : Sizes) (len : ℕ) : Type 0 where
  pub shape : Shaped z
  pub low : 32 ≤ z.n * z.l
  pub small : z.n * z.l ≤ 2101248
  pub within : z.n * z.l ≤ len

pub fitting : (len : ℕ) (z : Sizes) → blank_fits len z ≡ true → Fitting z len
unfolding blank_fits
fitting len z e =
    let t = all_true (blank_tests len z) e in
    let s = shaped-facts z t.0 in
    record { shape = s; low = omega (arith, head-long z s); small = head_small z s; within = leb-true (z.n * z.l) len t.1.0 }

module _ (n l m : ℕ) where
  pub narrow-blank : Shaped (blank_sizes n l m) → Narrow (blank_sizes n l m)
  narrow-blank h = record { n = omega arith; d = omega arith; l = omega arith; m = omega arith; u = omega arith; kind = omega arith }

  module _ (f g : List ℕ) (r : Taken) where
    pub blank-refused : blank_fits (length f) (blank_sizes n l m) ≡ false → r ≡ Err BadBlank → g ≡ f
        → (r ≡ blank_of f n l m) × (g ≡ blank_file f n l m)
    unfolding blank_of blank_file blank_fits
    blank-refused e p q = (rw e p, rw e q)

    pub blank-accepted : (b : List ℕ) → blank_fits (length f) (blank_sizes n l m) ≡ true → r ≡ Ok tt → b ≡ boot_bytes (blank_sizes n l m) → g ≡ write f 0 (pad (n * l) b)
        → (r ≡ blank_of f n l m) × (g ≡ blank_file f n l m)
    unfolding blank_of blank_file blank_fits
    blank-accepted b e p s q = (rw e p, rw (e, ← s) q)
