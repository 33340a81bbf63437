-- What writes nothing leaves the file, and so its used number.
use Prim.Native.Nat.{ℕ}
use mathlib.Core.Path.{◌≡◌, refl, sym, ◌∙◌, ap, subst}
use mathlib.Core.Bool.{Bool, true, false, cond}
use mathlib.Core.List.{List, [], ◌∷◌, ◌++◌}
use native.Mathlib.Omega.{arith}
use Rattle.demands.specs.History.{takes, state_after, stepped, steps_of, run, Done, after}
use Rattle.demands.specs.Used.{Exact}
use Rattle.demands.specs.Idle.{Writeless, Idle, IdleLeaves, UsedStays}
use Rattle.demands.proofs.Using.{used-exact}

-- one operation
writeless-kept : (f : List ℕ) (o : Done) → Writeless f o → run f o.op o.cut ≡ f
unfolding run
writeless-kept f o w = go (takes f o.op) refl
  where
    go : (b : Bool) → takes f o.op ≡ b → cond b (state_after f o.op (steps_of o.cut)).file f ≡ f
    go true e =
        let n : steps_of o.cut ≡ 0 = omega (arith, w e) in
        ap (λ (i : ℕ). (state_after f o.op i).file) n
    go false e = refl

pub idle-leaves : IdleLeaves
idle-leaves f [] w = refl
idle-leaves f (o ∷ os) w = idle-leaves (run f o.op o.cut) os w.1 ∙ writeless-kept f o w.0

-- a history, and one operation more, and others after it
after-all : (f : List ℕ) (os : List Done) (o : Done) (rest : List Done)
    → after f (os ++ (o ∷ rest)) ≡ after (after f (os ++ (o ∷ []))) rest
after-all f [] o rest = refl
after-all f (x ∷ os) o rest = after-all (run f x.op x.cut) os o rest

after_one : (f : List ℕ) (os : List Done) (o : Done) → after f (os ++ (o ∷ [])) ≡ run (after f os) o.op o.cut
after_one f [] o = refl
after_one f (x ∷ os) o = after_one (run f x.op x.cut) os o

pub used-stays : UsedStays
used-stays f z o os w op k t i c rest d =
    let last : Done = record { op = op; cut = stepped i } in
    let e = after_one f os last in
    subst Exact (sym (after-all f os last rest ∙ idle-leaves (after f (os ++ (last ∷ []))) rest (subst (λ (g : List ℕ). Idle g rest) (sym e) d)))
    (used-exact f z o os w op k t i c)
