-- The comparison of a confirming step, from the calls that compare.
use Rattle.std.specs.Prelude.{Ok, Err}
use Prim.Native.Nat.{ℕ, ◌+◌, ◌*◌, ◌≤◌}
use mathlib.Core.Path.{◌≡◌, refl, sym, ◌∙◌, ap}
use mathlib.Core.Bool.{Bool, true, false, cond}
use mathlib.Core.List.{List, []}
use native.Mathlib.Omega.{arith}
use native.Mathlib.Nat.{zero-mul}
use lib.ListN.{length}
use Rattle.lent.specs.Lists.{also}
use Rattle.lent.specs.Part.{part}
use Rattle.lent.specs.Same.{same}
use Rattle.lent.specs.Write.{zeros, pad}
use Rattle.lent.proofs.Lists.{also-unit}
use Rattle.lent.proofs.Sames.{same_refl}
use Rattle.lent.proofs.Parts.{length_part, part_none}
use Rattle.paper.specs.declared.sizes.Sizes.{Sizes}
use Rattle.paper.specs.declared.refusal.Refusal.{Refusal}
use Rattle.paper.specs.declared.refusal.Refusal.TheVariants.{Differs}
use Rattle.paper.specs.Answers.{Opened, StepAnswer}
use Rattle.paper.specs.declared.job.Job.{Job}
use Rattle.paper.specs.Sizes.{start_of}
use Rattle.paper.specs.Index.{open_of, entry_at}
use Rattle.paper.specs.Store.{count_of, padded_of, entry_after}
use Rattle.paper.specs.Step.{rows_at, stands, confirmed, confirm_of}
use Rattle.steps.specs.Tests.{given_stands, old_gone}
use Rattle.steps.specs.Answers.{handed_on}
use Rattle.writes.proofs.Counts.{count-clear}

-- two tests and then a third are the three
then-third : (a b c : Bool) → also a (also b (also c true)) ≡ also (also a (also b true)) c
then-third true true c = also-unit c
then-third true false c = refl
then-third false b c = refl

module _ (f scan : List ℕ) (j : Job) (z : Sizes) where
  pub entry-differs : same (entry_at f z j.slot) (entry_after z j) ≡ false → false ≡ given_stands f scan j z
  unfolding given_stands
  entry-differs e = rw e

  pub records-compared : same (entry_at f z j.slot) (entry_after z j) ≡ true → j.saves ≡ true → (k : ℕ) (p : List ℕ) (r : Bool) → k ≡ count_of z j
      → p ≡ part (start_of z j.first) (start_of z j.first + k * z.l) f → r ≡ same p (pad (k * z.l) scan) → r ≡ given_stands f scan j z
  unfolding given_stands
  records-compared e s k p r c q h =
      let at = start_of z j.first in
      let d : padded_of z j scan ≡ pad (count_of z j * z.l) scan = ap (λ (b : Bool). pad (count_of z j * z.l) (cond b scan [])) s in
      rw (e, also-unit, d, ← c, ← q) h

  pub nothing-compared : same (entry_at f z j.slot) (entry_after z j) ≡ true → j.saves ≡ false → true ≡ given_stands f scan j z
  unfolding given_stands pad zeros
  nothing-compared e s =
      let at = start_of z j.first in
      let k : count_of z j * z.l ≡ 0 = ap (λ (n : ℕ). n * z.l) (sym (count-clear z j s)) ∙ zero-mul z.l in
      let p : part at (at + count_of z j * z.l) f ≡ [] = part_none at (at + count_of z j * z.l) f (omega arith) in
      let d : padded_of z j scan ≡ [] = ap (λ (b : Bool). pad (count_of z j * z.l) (cond b scan [])) s ∙ ap (λ (n : ℕ). pad n []) k in
      rw (e, also-unit, p, d) (sym (same_refl []))

  -- then the old run
  three : stands f scan j z ≡ also (given_stands f scan j z) (old_gone f j z)
  unfolding stands given_stands old_gone
  three = then-third (same (entry_at f z j.slot) (entry_after z j)) (same (rows_at f z j.first (count_of z j)) (padded_of z j scan)) (same (rows_at f z j.old j.many) (zeros (j.many * z.l)))

  pub given-differs : given_stands f scan j z ≡ false → false ≡ stands f scan j z
  given-differs e = sym (three ∙ ap (λ (t : Bool). also t (old_gone f j z)) e)

  pub given-stood : given_stands f scan j z ≡ true → (r : Bool) → r ≡ old_gone f j z → r ≡ stands f scan j z
  given-stood e r h = h ∙ sym (three ∙ ap (λ (t : Bool). also t (old_gone f j z)) e)

module _ (f : List ℕ) (j : Job) (z : Sizes) where
  pub no_old : j.many ≡ 0 → true ≡ old_gone f j z
  unfolding old_gone zeros
  no_old e =
      let at = start_of z j.old in
      let k : j.many * z.l ≡ 0 = ap (λ (n : ℕ). n * z.l) e ∙ zero-mul z.l in
      let p : part at (at + j.many * z.l) f ≡ [] = part_none at (at + j.many * z.l) f (omega arith) in
      rw (p, k) (sym (same_refl []))

  pub old-looked : start_of z j.old + j.many * z.l ≤ length f → (p : List ℕ) (r : Bool) → p ≡ rows_at f z j.old j.many
      → r ≡ same p (zeros (length p)) → r ≡ old_gone f j z
  unfolding old_gone
  old-looked w p r q h =
      let n : length p ≡ j.many * z.l = ap length q ∙ length_part (start_of z j.old) (start_of z j.old + j.many * z.l) f w ∙ omega arith in
      h ∙ ap (λ (k : ℕ). same p (zeros k)) n ∙ ap (λ (x : List ℕ). same x (zeros (j.many * z.l))) q

-- the file judged, and then the comparison
module _ (f scan : List ℕ) (j : Job) (o : Opened) (is : o ≡ open_of f) where
  pub hands_on : (r : Refusal) (x : StepAnswer) → o ≡ Err r → x ≡ handed_on o → x ≡ confirm_of f scan j (open_of f)
  hands_on r x q p = p ∙ ap handed_on q ∙ ap (confirm_of f scan j) (sym q ∙ is)

  pub not-standing : (z : Sizes) → o ≡ Ok z → stands f scan j z ≡ false → Err Differs ≡ confirm_of f scan j (open_of f)
  not-standing z q s = ap (λ (t : Bool). cond t (confirmed j) (Err Differs)) (sym s) ∙ ap (confirm_of f scan j) (sym q ∙ is)

  pub all-standing : (z : Sizes) (x : StepAnswer) → o ≡ Ok z → stands f scan j z ≡ true → x ≡ confirmed j → x ≡ confirm_of f scan j (open_of f)
  all-standing z x q s p = p ∙ ap (λ (t : Bool). cond t (confirmed j) (Err Differs)) (sym s) ∙ ap (confirm_of f scan j) (sym q ∙ is)
