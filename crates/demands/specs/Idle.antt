-- U after a confirmed operation goes on to be exact, whatever is then refused, or begun and dropped before its first write.
use Rattle.std.specs.Prelude.{ℕ, ◌≡◌, true, List, [], ◌∷◌, ◌++◌, Ok}
use Rattle.paper.specs.declared.sizes.Sizes.{Sizes}
use Rattle.paper.specs.Index.{open_of}
use Rattle.paper.specs.Step.{is_confirmed}
use Rattle.demands.specs.History.{Op, Whole, takes, answer_after, stepped, steps_of, run, Done, Wholes, after}
use Rattle.demands.specs.Used.{Exact}

-- an operation that writes nothing: it is refused, or has no step. (The first step of an accepted one writes: `Confirms`.)
abbrev pub Writeless : List ℕ → Done → Type 0
Writeless f o = takes f o.op ≡ true → steps_of o.cut ≡ 0

-- each of these, one after the other
abbrev pub Idle : List ℕ → List Done → Type 0
Idle f [] = Unit
Idle f (o ∷ os) = Writeless f o × Idle (run f o.op o.cut) os

-- Such operations leave the file, every byte of it: for every file.
abbrev pub IdleLeaves : Type 0
IdleLeaves = (f : List ℕ) (os : List Done) → Idle f os → after f os ≡ f

-- After any history, whatever was cut in it, whose last operation that wrote anything was confirmed.
abbrev pub UsedStays : Type 0
UsedStays =
    (f : List ℕ) (z : Sizes) → open_of f ≡ Ok z → (os : List Done) → Wholes os → (op : Op) → Whole op → takes (after f os) op ≡ true → (i : ℕ)
    → is_confirmed (answer_after (after f os) op i) ≡ true
    → (rest : List Done) → Idle (run (after f os) op (stepped i)) rest → Exact (after f (os ++ (record { op = op; cut = stepped i } ∷ rest)))
