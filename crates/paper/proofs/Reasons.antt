-- The reason in refusal 11: the least number of a rule that is broken, and 0 where none is.
use Rattle.std.specs.Prelude.{Ok, Err}
use Prim.Native.Nat.{ℕ, zero, suc, ◌-◌, ◌≤◌}
use mathlib.Core.Path.{◌≡◌, refl, sym, ◌∙◌, ap}
use mathlib.Core.Bool.{Bool, true, false, not}
use mathlib.Core.List.{List, [], ◌∷◌}
use native.Mathlib.Omega.{arith}
use lib.ListN.{length, get_or}
use borrow.Author.Tests.{not-false}
use Rattle.lent.specs.Checks.{check, judge}
use Rattle.lent.specs.Least.{least}
use Rattle.lent.proofs.Leasts.{none-least}
use Rattle.paper.specs.Scan.{classes_of, starts_of, headlen, datalen, rule1, rule2, rule3, rule4, rule5, rule6, ruled_of, last_of, Rule, Kept}
use Rattle.paper.specs.Store.{reason_of}
use Rattle.lent.proofs.Checks.{err≢ok}
use Rattle.paper.proofs.Rules.{rule1-facts, facts-rule1, rule2-facts, facts-rule2, rule3-facts, facts-rule3, rule4-facts, facts-rule4, rule5-facts, facts-rule5, rule6-facts, facts-rule6, keeps-all}

-- rule n of 1 to 6 as a test; no other number is broken
unfoldable pub rule_of : List ℕ → Bool → ℕ → Bool
rule_of s saving n =
    get_or
    (rule1 (length s) saving ∷ rule2 (classes_of s) ∷ rule3 (starts_of s) (classes_of s) ∷ rule4 s (last_of s) ∷ rule5 s ∷ rule6 s saving ∷ [])
    (n - 1) true

first : (a b c d e f : Bool) (head rest : ℕ)
    → reason_of (judge Err (check (not a) 1 ∷ check (not b) 2 ∷ check (not c) 3 ∷ check (not d) 4 ∷ check (not e) 5 ∷ check (not f) 6 ∷ []) (Ok (head, rest)))
    ≡ least (λ n. not (get_or (a ∷ b ∷ c ∷ d ∷ e ∷ f ∷ []) (n - 1) true)) 6
unfolding least
first false b c d e f head rest = refl
first true false c d e f head rest = refl
first true true false d e f head rest = refl
first true true true false e f head rest = refl
first true true true true false f head rest = refl
first true true true true true false head rest = refl
first true true true true true true head rest = refl

module _ (s : List ℕ) (saving : Bool) where
  -- test and rule, both ways
  pub rule-facts : (n : ℕ) → rule_of s saving n ≡ true → Rule s saving n
  unfolding rule_of
  rule-facts zero e = tt
  rule-facts (suc zero) e = rule1-facts (length s) saving e
  rule-facts (suc (suc zero)) e = rule2-facts (classes_of s) e
  rule-facts (suc (suc (suc zero))) e = rule3-facts (starts_of s) (classes_of s) e
  rule-facts (suc (suc (suc (suc zero)))) e = rule4-facts s (last_of s) e
  rule-facts (suc (suc (suc (suc (suc zero))))) e = rule5-facts s e
  rule-facts (suc (suc (suc (suc (suc (suc zero)))))) e = rule6-facts s saving e
  rule-facts (suc (suc (suc (suc (suc (suc (suc n))))))) e = tt

  pub facts-rule : (n : ℕ) → 1 ≤ n → n ≤ 6 → Rule s saving n → rule_of s saving n ≡ true
  unfolding rule_of
  facts-rule zero h g f = absurd (omega arith)
  facts-rule (suc zero) h g f = facts-rule1 (length s) saving f
  facts-rule (suc (suc zero)) h g f = facts-rule2 (classes_of s) f
  facts-rule (suc (suc (suc zero))) h g f = facts-rule3 (starts_of s) (classes_of s) f
  facts-rule (suc (suc (suc (suc zero)))) h g f = facts-rule4 s (last_of s) f
  facts-rule (suc (suc (suc (suc (suc zero))))) h g f = facts-rule5 s f
  facts-rule (suc (suc (suc (suc (suc (suc zero)))))) h g f = facts-rule6 s saving f
  facts-rule (suc (suc (suc (suc (suc (suc (suc n))))))) h g f = absurd (omega arith)

  pub reason-least : reason_of (ruled_of s saving) ≡ least (λ n. not (rule_of s saving n)) 6
  unfolding ruled_of rule_of
  reason-least =
      first (rule1 (length s) saving) (rule2 (classes_of s)) (rule3 (starts_of s) (classes_of s)) (rule4 s (last_of s)) (rule5 s) (rule6 s saving) (headlen s)
      (datalen s)

  pub no-reason : reason_of (ruled_of s saving) ≡ 0 → ruled_of s saving ≡ Ok (headlen s, datalen s)
  unfolding rule_of
  no-reason h =
      let n = (none-least {p = λ n. not (rule_of s saving n)} {n = 6} (sym reason-least ∙ h)).none in
      keeps-all s saving (not-false _ (n 1 (omega arith) (omega arith))) (not-false _ (n 2 (omega arith) (omega arith)))
      (not-false _ (n 3 (omega arith) (omega arith))) (not-false _ (n 4 (omega arith) (omega arith))) (not-false _ (n 5 (omega arith) (omega arith)))
      (not-false _ (n 6 (omega arith) (omega arith)))

  -- a reason is no 0
  pub some-reason : {n : ℕ} → ruled_of s saving ≡ Err n → 1 ≤ n
  some-reason {n = zero} e = absurd (err≢ok (sym e ∙ no-reason (ap reason_of e)))
  some-reason {n = suc n} e = omega arith

-- every rule, by its number
pub kept_rule : {s : List ℕ} {saving : Bool} {head rest : ℕ} → Kept s saving head rest → (n : ℕ) → Rule s saving n
kept_rule k zero = tt
kept_rule k (suc zero) = k.one
kept_rule k (suc (suc zero)) = k.two
kept_rule k (suc (suc (suc zero))) = k.three
kept_rule k (suc (suc (suc (suc zero)))) = k.four
kept_rule k (suc (suc (suc (suc (suc zero))))) = k.five
kept_rule k (suc (suc (suc (suc (suc (suc zero)))))) = k.six
kept_rule k (suc (suc (suc (suc (suc (suc (suc n))))))) = tt
