-- 02, 2026-01: an old file is never changed.
use Rattle.std.specs.Prelude.{Err}
use Prim.Native.Nat.{ℕ, ◌≤◌}
use mathlib.Core.Path.{◌≡◌, refl, ◌∙◌, ap}
use mathlib.Core.Bool.{true, false}
use mathlib.Core.List.{List, [], ◌∷◌, ◌++◌}
use native.Mathlib.Omega.{arith}
use lib.Dec.{eqb}
use lib.ListN.{length}
use Rattle.lent.specs.Checks.{Check, check}
use Rattle.lent.proofs.Lists.{not_so}
use Rattle.lent.proofs.Checks.{judge-fires}
use Rattle.paper.specs.declared.refusal.Refusal.{Refusal}
use Rattle.paper.specs.declared.refusal.Refusal.TheVariants.{OldForm, NoEmptySlot}
use Rattle.paper.specs.Answers.{Begun, taken_in}
use Rattle.paper.specs.Sizes.{sizes_of, version_of}
use Rattle.paper.specs.Index.{change_checks}
use Rattle.paper.specs.Look.{no_slot, held_checks}
use Rattle.paper.specs.Store.{keep_slot, scan_checks, save_of, keep_of, clear_of}
use Rattle.paper.proofs.Opening.{change-old}
use Rattle.paper.proofs.Begins.{save-taken, keep_taken, clear-is-taken}
use Rattle.paper.proofs.Agreement.{disagreeing, answer-refused}
use Rattle.demands.specs.History.{Op, save, keep, clear, begin, takes, Cut, run, Done, after}
use Rattle.demands.specs.Old.{OldStays}
use Rattle.demands.proofs.Start.{accepts}

refused-old : (f : List ℕ) → 512 ≤ length f → version_of f ≡ 0 → (op : Op) → taken_in (begin f op) ≡ Err OldForm
unfolding save_of keep_of clear_of
refused-old f a v (save slot scan about) =
    let ds : List (Check Refusal) = no_slot (sizes_of f) slot ∷ scan_checks f scan in
    ap (λ (b : Begun). taken_in b) (judge-fires Err (change_checks f ++ ds) _ OldForm (change-old f ds a v))
refused-old f a v (keep scan about) =
    let ds : List (Check Refusal) = check (eqb (keep_slot f) 0) NoEmptySlot ∷ scan_checks f scan in
    ap (λ (b : Begun). taken_in b) (judge-fires Err (change_checks f ++ ds) _ OldForm (change-old f ds a v))
refused-old f a v (clear slot) =
    ap (λ (b : Begun). taken_in b) (judge-fires Err (change_checks f ++ held_checks f slot) _ OldForm (change-old f (held_checks f slot) a v))

-- what is accepted is not old
current-taken : (f : List ℕ) (op : Op) → takes f op ≡ true → version_of f ≡ 1
current-taken f (save slot scan about) e = (save-taken f slot scan about (accepts (save_of f slot scan about) e)).may.current
current-taken f (keep scan about) e = (keep_taken f scan about (accepts (keep_of f scan about) e)).may.current
current-taken f (clear slot) e = (clear-is-taken f slot (accepts (clear_of f slot) e)).may.current

run-stays : (f : List ℕ) → version_of f ≡ 0 → (op : Op) (cut : Cut) → run f op cut ≡ f
unfolding run
run-stays f v op cut =
    let n : takes f op ≡ false = not_so (λ e. omega (arith, current-taken f op e)) in
    rw n

history-stays : (f : List ℕ) → version_of f ≡ 0 → (os : List Done) → after f os ≡ f
history-stays f v [] = refl
history-stays f v (o ∷ os) = ap (λ (g : List ℕ). after g os) (run-stays f v o.op o.cut) ∙ history-stays f v os

pub old-stays : OldStays
old-stays =
    record {
      refused = refused-old;
      no_step = λ f scan j v. answer-refused f scan j (disagreeing f scan j (λ a. omega (arith, a.current)));
      stays = history-stays;
    }
