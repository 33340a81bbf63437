-- The laws of the two lengths as their rules leave them: a return of rules 4 and 5 each.
use Rattle.std.specs.Prelude.{Ok, Some, None}
use Prim.Native.Nat.{ℕ, ◌+◌, ◌*◌, ◌%◌, ◌≤◌}
use mathlib.Core.Path.{◌≡◌, refl, sym, ◌∙◌, ap}
use mathlib.Core.Bool.{Bool, true, false, cond}
use mathlib.Core.List.{List}
use native.Mathlib.Omega.{arith}
use lib.ListN.{length}
use Rattle.lent.specs.Number.{be64}
use Rattle.lent.proofs.Lists.{not_so}
use Rattle.whole.specs.Number.{up_to}
use Rattle.whole.specs.Length.{length_of}
use Rattle.whole.proofs.Laws.{is-whole, is-size, is-up-to, not-up-to}
use Rattle.paper.specs.Scan.{headlen, datalen, rule4, rule5, rule6, Rule4, Rule5}
use Rattle.paper.proofs.Rules.{rule4-facts, facts-rule4, rule5-facts, facts-rule5}
use Rattle.paper.specs.Answers.{Ruled}
use Rattle.scan.specs.Lengths.{head_kept, rest_kept, fills}

-- a length where the rule is kept, and none where it is broken
none : (t : Bool) (n : ℕ) → (t ≡ true → ⊥) → None ≡ cond t (Some n) None
none t n h = rw (not_so h)

some : (t : Bool) (n k : ℕ) → t ≡ true → n ≡ k → Some n ≡ cond t (Some k) None
some t n k h e = rw (h, e)

-- and back
some-kept : (t : Bool) (n k : ℕ) → cond t (Some k) None ≡ Some n → (t ≡ true) × (k ≡ n)
some-kept true n k e = (refl, cc)
some-kept false n k e = absurd (let z : ◌≡◌ {A = ℕ} 0 1 = cc in omega arith)

none_kept : (t : Bool) (k : ℕ) → cond t (Some k) None ≡ None → t ≡ false
none_kept true k e = absurd (let z : ◌≡◌ {A = ℕ} 0 1 = cc in omega arith)
none_kept false k e = refl

module _ (s : List ℕ) (last : ℕ) where
  pub no-head : (Rule4 s last → ⊥) → None ≡ head_kept s last
  no-head h = none (rule4 s last) (headlen s) (λ e. h (rule4-facts s last e))

  -- no whole number up to 65,536
  pub head-unread : up_to 65536 (length_of (be64 s 32)) ≡ None → None ≡ head_kept s last
  head-unread e = no-head (λ f. omega (arith, not-up-to (length_of (be64 s 32)) e (is-whole f.0), f.4))

  module _ (head : ℕ) (e : up_to 65536 (length_of (be64 s 32)) ≡ Some head) where
    pub head_read : (headlen s ≡ head) × (head ≤ 65536)
    head_read = let w = is-up-to e in (is-size w.0, w.1)

    pub yes-head : head % 8 ≡ 0 → 8 * last ≤ head → head ≤ length s → Some head ≡ head_kept s last
    yes-head a b c =
        let w = is-up-to e in
        let q = is-size w.0 in
        some (rule4 s last) head (headlen s) (facts-rule4 s last (w.0 ∙ ap Some (sym q), rw q a, omega arith, omega arith, omega arith)) (sym q)

  pub head-kept : (head : ℕ) → head_kept s last ≡ Some head → (rule4 s last ≡ true) × (headlen s ≡ head)
  head-kept head e = some-kept (rule4 s last) head (headlen s) e

  pub head-broken : head_kept s last ≡ None → rule4 s last ≡ false
  head-broken e = none_kept (rule4 s last) (headlen s) e

module _ (s : List ℕ) where
  pub no-rest : (Rule5 s → ⊥) → None ≡ rest_kept s
  no-rest h = none (rule5 s) (datalen s) (λ e. h (rule5-facts s e))

  pub rest-unread : up_to 65536 (length_of (be64 s 40)) ≡ None → None ≡ rest_kept s
  rest-unread e = no-rest (λ f. omega (arith, not-up-to (length_of (be64 s 40)) e (is-whole f.0), f.2))

  module _ (rest : ℕ) (e : up_to 65536 (length_of (be64 s 40)) ≡ Some rest) where
    pub rest_read : (datalen s ≡ rest) × (rest ≤ 65536)
    rest_read = let w = is-up-to e in (is-size w.0, w.1)

    pub yes-rest : rest % 4 ≡ 0 → headlen s + rest ≤ length s → Some rest ≡ rest_kept s
    yes-rest a b =
        let w = is-up-to e in
        let q = is-size w.0 in
        some (rule5 s) rest (datalen s) (facts-rule5 s (w.0 ∙ ap Some (sym q), rw q a, omega arith, omega arith)) (sym q)

  pub rest-kept : (rest : ℕ) → rest_kept s ≡ Some rest → (rule5 s ≡ true) × (datalen s ≡ rest)
  rest-kept rest e = some-kept (rule5 s) rest (datalen s) e

  pub rest-broken : rest_kept s ≡ None → rule5 s ≡ false
  rest-broken e = none_kept (rule5 s) (datalen s) e

-- rule 6 by the lengths that were read, and the answer by them
pub summed : (s : List ℕ) (saving : Bool) (head rest : ℕ) → headlen s ≡ head → datalen s ≡ rest → rule6 s saving ≡ fills (head + rest) (length s) saving
unfolding rule6
summed s saving head rest p q = rw (p, q)

pub kept-both : {a b c d : ℕ} → a ≡ b → c ≡ d → ◌≡◌ {A = Ruled} (Ok (a, c)) (Ok (b, d))
kept-both p q = cc
