-- The two lengths as their rules leave them: a length, or none where the rule is broken.
use Rattle.std.specs.Prelude.{ℕ, ◌≤◌, ◌≡◌, Bool, true, cond, List, eqb, Some, None, Option}
use Rattle.paper.specs.Scan.{headlen, datalen, rule4, rule5}

-- rule 4, and HEADLEN
abbrev pub head_kept : List ℕ → ℕ → Option ℕ
head_kept s last = cond (rule4 s last) (Some (headlen s)) None

-- rule 5, and DATALEN
abbrev pub rest_kept : List ℕ → Option ℕ
rest_kept s = cond (rule5 s) (Some (datalen s)) None

-- rule 6, of the lengths' sum
abbrev pub fills : ℕ → ℕ → Bool → Bool
fills total size saving = cond saving (eqb total size) true

-- what rule 4 leaves for rule 5
pub record HeadIs (s : List ℕ) (head : ℕ) : Type 0 where
  pub is : headlen s ≡ head
  pub small : head ≤ 65536
