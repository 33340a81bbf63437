-- Two's complement: the integer that the library takes 16 bits for, and more bits for the same number.
use Rattle.std.proofs.Common.{◌≡◌, ℕ, suc, ◌+◌, ◌-◌, ◌<◌, Bool, true, false, cond, pos, negsuc, ltb, refl, ap, arith, w16, w32, to_z}
use mir.Val.{of_z, sel}
use Rattle.lent.specs.Number.{int16, widened}

pub signed_is : (v : ℕ) → to_z w16 v ≡ int16 v
unfolding int16
signed_is v = go (ltb v 32768)
  where
    go : (t : Bool) → sel t (pos v) (negsuc (65536 - suc v)) ≡ cond t (pos v) (negsuc (65535 - v))
    go true = refl
    go false = ap negsuc (omega arith)

pub wide_is : (v : ℕ) → v < 65536 → of_z w32 (to_z w16 v) ≡ widened v
unfolding widened
wide_is v h = go (ltb v 32768)
  where
    go : (t : Bool) → of_z w32 (sel t (pos v) (negsuc (65536 - suc v))) ≡ cond t v (v + 4294901760)
    go true = refl
    go false = omega arith
