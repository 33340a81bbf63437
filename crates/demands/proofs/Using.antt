-- The used number: exact after what was confirmed, never too low after a cut.
use Rattle.std.specs.Prelude.{Ok}
use Prim.Native.Nat.{ℕ, ◌+◌, ◌≤◌}
use mathlib.Core.Path.{◌≡◌, refl, sym, ◌∙◌, ap, subst}
use mathlib.Core.Bool.{Bool, true, false, cond}
use mathlib.Core.List.{List, [], ◌∷◌, ◌++◌}
use native.Mathlib.Omega.{arith}
use borrow.Author.Tests.{eq-eqb, ne_eqb}
use lib.Dec.{eqb}
use Rattle.paper.specs.declared.sizes.Sizes.{Sizes}
use Rattle.paper.specs.Answers.{Begun}
use Rattle.paper.specs.declared.job.Step.TheVariants.{Cleared}
use Rattle.paper.specs.Sizes.{renewed, capacity_of}
use Rattle.paper.specs.Index.{run_of, Full, open_of}
use Rattle.paper.specs.Store.{highest, many_of, clear_of, job_in}
use Rattle.paper.specs.Step.{is_confirmed}
use Rattle.paper.proofs.Opening.{sound-open, full-holds, open-reads}
use Rattle.paper.proofs.Used.{highest-le, highest-full, highest-above, full-highest, highest-is}
use Rattle.paper.proofs.Ready.{file_at, last-sound}
use Rattle.paper.proofs.Begins.{ClearTaken, clear-is-taken, taken-is-clear}
use Rattle.demands.specs.History.{Op, clear, Whole, begin, scan_of, writes_by, slot_of, takes, State, state_after, answer_after, stepped, run, Done, after, held_at}
use Rattle.demands.specs.Used.{NoneAbove, Topmost, HighestExactly, Exact, UsedExact, NeverLower, ClearSteps, Clears}
use Rattle.demands.proofs.Start.{starts, accepts, steps-are}
use Rattle.demands.proofs.Histories.{history}
use Rattle.demands.proofs.Survived.{confirms-each, not_yet}

topmost : (f : List ℕ) (z : Sizes) → Topmost f z (highest f z)
topmost f z = record { slotted = highest-le f z; full = highest-full f z; above = highest-above f z }

pub highest-exactly : HighestExactly
highest-exactly f z k = (λ e. subst (Topmost f z) e (topmost f z), λ t. highest-is f z k t.slotted t.full t.above)

-- ---- U

-- after a history, and one operation more
after_more : (f : List ℕ) (os : List Done) (o : Done) → after f (os ++ (o ∷ [])) ≡ run (after f os) o.op o.cut
after_more f [] o = refl
after_more f (x ∷ os) o = after_more (run f x.op x.cut) os o

-- one operation, confirmed
exact_one : (f : List ℕ) (z : Sizes) → open_of f ≡ Ok z → (op : Op) → Whole op → takes f op ≡ true → (i : ℕ) → is_confirmed (answer_after f op i) ≡ true
    → Exact (run f op (stepped i))
unfolding run
exact_one f z o op w t i c =
    let B = starts f z o op w t in
    let e : (state_after f op i).file ≡ _ = ap (λ (s : State). s.file) (steps-are B.begins i) in
    let S = last-sound B.begins.ready i (omega (arith, B.change, not_yet f z o op w t i c)) in
    subst Exact (sym (ap (λ (b : Bool). cond b (state_after f op i).file f) t ∙ e))
    (let p = topmost (file_at f (scan_of op) (job_in (begin f op)) i) z in
    record { z = _; opens = sound-open S; topmost = record { slotted = p.slotted; full = p.full; above = p.above } })

pub used-exact : UsedExact
used-exact f z o os w op k t i c =
    let x = history os f z o w (held_at f z) (λ s a b. refl) in
    subst Exact (sym (after_more f os (record { op = op; cut = stepped i })))
    (exact_one (after f os) (renewed z x.d x.u x.c) (sound-open x.sound) op k t i c)

pub never-lower : NeverLower
never-lower f z o os w =
    let x = history os f z o w (held_at f z) (λ s a b. refl) in
    record { z = renewed z x.d x.u x.c; opens = sound-open x.sound; covers = λ s a b h. (full-holds x.sound.laid s a b h).high }

-- ---- the steps of a clear

module _ (f : List ℕ) (z : Sizes) (o : open_of f ≡ Ok z) (slot : ℕ) (t : takes f (clear slot) ≡ true) where
  taken : ClearTaken f slot
  taken = clear-is-taken f slot (accepts (clear_of f slot) t)

  full : Full (run_of f z slot)
  full = subst (λ (y : Sizes). Full (run_of f y slot)) (open-reads f o) taken.full

  slotted : slot ≤ capacity_of z
  slotted = subst (λ (y : Sizes). slot ≤ capacity_of y) (open-reads f o) taken.slotted.high

  is-highest : NoneAbove f z slot → eqb slot (highest f z) ≡ true
  is-highest n = eq-eqb slot (highest f z) (sym (highest-is f z slot slotted (λ h. full) n))

  slot_is : slot_of f (clear slot) ≡ slot
  slot_is = ap (λ (b : Begun). (job_in b).slot) (taken-is-clear f slot taken)

  confirmed-at : (b : Bool) → eqb slot (highest f z) ≡ b → (i : ℕ) → i ≡ 2 + cond b 1 0 + many_of (run_of f z slot) → answer_after f (clear slot) i ≡ Ok (Cleared 0 i)
  confirmed-at b e i h =
      let a = (confirms-each f z o (clear slot) tt t).confirms 0 in
      let q = ap (λ (s : ℕ). many_of (run_of f z s)) slot_is in
      let c = ap (λ (x : Bool). cond {A = ℕ} x 1 0) e in
      let k : writes_by f z (clear slot) ≡ i = omega arith in
      let l : writes_by f z (clear slot) + 0 ≡ i = omega arith in
      ap (answer_after f (clear slot)) (sym l) ∙ a ∙ ap (λ (n : ℕ). Ok (Cleared 0 n)) k

  clear-steps : ClearSteps f z slot
  clear-steps =
      record {
        third = λ n. (confirms-each f z o (clear slot) tt t).lower (is-highest n);
        fourth = λ n. confirmed-at true (is-highest n) _ (omega arith);
        other = λ s a b h. confirmed-at false (ne_eqb slot (highest f z) (λ e. omega (arith, full-highest f z s b h))) _ (omega arith);
      }

pub clears : Clears
clears f z o slot t = clear-steps f z o slot t
