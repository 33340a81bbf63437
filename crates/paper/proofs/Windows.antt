-- What a conversion rests on: the length of the file and its records 1 to N. So it may be lent a window in which nothing else was read.
use Rattle.std.specs.Prelude.{Ok, Err}
use Prim.Native.Nat.{ℕ, ◌+◌, ◌*◌, ◌≤◌}
use mathlib.Core.Path.{◌≡◌, refl, sym, ◌∙◌, ap}
use mathlib.Core.Bool.{not}
use mathlib.Core.List.{List, ◌∷◌}
use native.Mathlib.Omega.{arith}
use lib.ListN.{length}
use Rattle.lent.specs.Lists.{all}
use Rattle.lent.specs.Checks.{Check, fired, answer}
use Rattle.lent.specs.Part.{part, Alike}
use Rattle.lent.specs.Write.{write}
use Rattle.lent.proofs.Leasts.{least-same}
use Rattle.lent.proofs.Parts.{part_same, alike-within}
use Rattle.paper.specs.declared.sizes.Sizes.{Sizes}
use Rattle.paper.specs.declared.sizes.Run.{Run}
use Rattle.paper.specs.declared.refusal.Refusal.{Refusal}
use Rattle.paper.specs.Sizes.{sizes_of, capacity_of, home_of}
use Rattle.paper.specs.Index.{run_of, Sound}
use Rattle.paper.specs.Convert.{carried_at, entry_as, records_as, too-small, other_magic, narrow_tests, wide_run, form_checks, convert_checks, convert_of, converted_out}
use Rattle.paper.proofs.Sizing.{head-long, home-end}
use Rattle.paper.proofs.Forms.{position-same, one_same}
use Rattle.paper.proofs.Opening.{then-opens, sound-open}
use Rattle.paper.proofs.Frame.{laid_same, booted-same, run-same}
use Rattle.paper.proofs.Carrying.{entries-same}

module _ (f g : List ℕ) {z : Sizes} (S : Sound f z) (len : length g ≡ length f) (head : Alike f g 0 (z.n * z.l)) where
  entry-alike : (s : ℕ) → 1 ≤ s → s ≤ capacity_of z → Alike f g (home_of z s) (home_of z s + z.m)
  entry-alike s a b = alike-within f g (omega arith) (home-end z S.booted.ranged.shape s a b) head

  m₁ : 64 ≤ z.m
  m₁ = S.booted.ranged.shape.m_low

  runs : (s : ℕ) → 1 ≤ s → s ≤ capacity_of z → run_of g z s ≡ run_of f z s
  runs s a b = run-same f g z s (alike-within f g (omega arith) (omega (arith, m₁)) (entry-alike s a b))

  -- it opens alike
  pub window-sound : Sound g z
  window-sound =
      record {
        booted = booted-same f g len (alike-within f g (omega arith) (omega (arith, head-long z S.booted.ranged.shape)) head) S.booted;
        laid = laid_same S.booted.ranged.used runs S.laid;
      }

  -- what is refused
  module _ (s : ℕ) (a : 1 ≤ s) (b : s ≤ capacity_of z) where
    magic-same : other_magic g z s ≡ other_magic f z s
    unfolding other_magic
    magic-same = rw (runs s a b, one_same f g (home_of z s) (home_of z s + z.m) (entry-alike s a b) z.version (home_of z s) (omega arith) (omega (arith, m₁)))

    wide-same : wide_run (run_of g z) s ≡ wide_run (run_of f z) s
    unfolding wide_run
    wide-same = ap (λ (r : Run). not (all (narrow_tests r))) (runs s a b)

    -- and what is written
    entry-same : (v : ℕ) → entry_as v z.m (carried_at g z s) ≡ entry_as v z.m (carried_at f z s)
    entry-same v =
        let m : part (home_of z s + 8) (home_of z s + 60) g ≡ part (home_of z s + 8) (home_of z s + 60) f =
        part_same f g (home_of z s + 8) (home_of z s + 60) len (alike-within f g (omega arith) (omega (arith, m₁)) (entry-alike s a b)) in
        rw (runs s a b, position-same f g (home_of z s) (home_of z s + z.m) (entry-alike s a b) z.version (home_of z s) (omega arith) (omega (arith, m₁)), m)

  records-same : (v : ℕ) → records_as v z (carried_at g z) ≡ records_as v z (carried_at f z)
  unfolding records_as
  records-same v = rw (entries-same v z.m (carried_at g z) (carried_at f z) (capacity_of z) (λ s a b. entry-same s a b v))

  checks-same : (v : ℕ) (out : List ℕ) → fired (convert_checks v g out) ≡ fired (convert_checks v f out)
  checks-same v out =
      let own : List ℕ → Sizes → List (Check Refusal) = λ h y. too-small out y ∷ form_checks v h y in
      let u = S.booted.ranged.used in
      then-opens g (own g (sizes_of g)) (sound-open window-sound) ∙ ap (λ (y : Sizes). fired (own g y)) window-sound.booted.reads
      ∙ rw (
        least-same (other_magic g z) (other_magic f z) z.u (λ s a b. magic-same s a (omega arith)),
        least-same (wide_run (run_of g z)) (wide_run (run_of f z)) z.u (λ s a b. wide-same s a (omega arith)),
      ) refl
      ∙ ap (λ (y : Sizes). fired (own f y)) (sym S.booted.reads) ∙ sym (then-opens f (own f (sizes_of f)) (sound-open S))

  pub window-converts : (v : ℕ) (out : List ℕ) → (convert_of v g out ≡ convert_of v f out) × (converted_out v g out ≡ converted_out v f out)
  unfolding convert_of converted_out
  window-converts v out =
      let put : List ℕ → Sizes → List ℕ = λ h y. write out 0 (records_as v y (carried_at h y)) in (
        ap (answer Err (Ok tt)) (checks-same v out),
        ap (answer (λ (r : Refusal). out) (put g (sizes_of g))) (checks-same v out)
            ∙ ap (λ (x : List ℕ). answer (λ (r : Refusal). out) x (fired (convert_checks v f out)))
            (ap (put g) window-sound.booted.reads ∙ ap (write out 0) (records-same v) ∙ ap (put f) (sym S.booted.reads)),
      )
