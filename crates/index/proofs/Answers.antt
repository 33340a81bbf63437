-- What a judgement leaves behind: the row of the file's runs, and marks that show its records or say that they do not.
use Rattle.std.specs.Prelude.{Ok, Err}
use Prim.Native.Nat.{ℕ, ◌≤◌}
use mathlib.Core.Path.{◌≡◌, sym, ◌∙◌, subst}
use mathlib.Core.List.{List}
use native.Mathlib.Omega.{arith}
use lib.ListN.{set}
use Rattle.lent.proofs.Checks.{err≢ok}
use Rattle.marks.proofs.Marking.{unset}
use Rattle.paper.specs.declared.sizes.Sizes.{Sizes}
use Rattle.paper.specs.declared.refusal.Refusal.{Refusal}
use Rattle.paper.specs.Answers.{Opened}
use Rattle.paper.specs.Index.{run_of, boot_of, index_of, open_of, Booted}
use Rattle.paper.proofs.Opening.{open-refused, open-index, boot-sound, sound-boot, index_same}
use Rattle.entries.specs.Row.{Runs, Fits}
use Rattle.entries.proofs.Rows.{runs-low}
use Rattle.index.specs.Judging.{JudgedTo, Looked, Judged}

-- a pass that came to an end
module _ (f : List ℕ) (z : Sizes) (row : List ℕ) (i : ℕ) (j : JudgedTo f z row i) (e : z.u ≤ i) where
  pub fits_all : Fits z (run_of f z) z.u
  fits_all = let q : i ≡ z.u = omega (arith, j.most) in subst (Fits z (run_of f z)) q j.fits

  pub runs-all : Runs f z row z.u
  runs-all = runs-low j.runs z.u e

-- marks that met a doubt
pub looked-doubt : (f : List ℕ) (z : Sizes) (row ws : List ℕ) (r : Opened) → r ≡ index_of z (run_of f z) → Runs f z row z.u → Looked f z row (set ws 0 0) r
looked-doubt f z row ws r e h = record { is = e; runs = h; shows = λ m. absurd (unset ws m) }

-- ---- a file

pub booted : (f : List ℕ) (z : Sizes) {j : Opened} → j ≡ boot_of f → j ≡ Ok z → Booted f z
booted f z e o = boot-sound (sym e ∙ o)

pub index-open : (f : List ℕ) (z : Sizes) (r : Opened) → Booted f z → r ≡ index_of z (run_of f z) → r ≡ open_of f
index-open f z r b e = e ∙ sym (open-index f (sound-boot b))

-- the two returns of `judged`
pub judged-refused : (f row : List ℕ) (j : Opened) {r : Refusal} → j ≡ Err r → boot_of f ≡ Err r → Judged f row j
judged-refused f row j e h = record { is = e ∙ sym (open-refused f h); runs = λ z o. absurd (err≢ok (sym e ∙ o)) }

pub judged-row : (f row : List ℕ) (z : Sizes) (r : Opened) → Booted f z → Runs f z row z.u → r ≡ index_of z (run_of f z) → Judged f row r
judged-row f row z r b h e =
    record {
      is = index-open f z r b e;
      runs = λ y o. subst (λ (x : Sizes). Runs f x row x.u) (index_same z y (run_of f z) (sym e ∙ o)) h;
    }
