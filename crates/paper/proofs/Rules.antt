-- The laws of a scan's rules: what keeping them says in plain facts, both ways; which one is broken; and that they outlast a longer run.
use Rattle.std.specs.Prelude.{Ok, Err, Some}
use Prim.Native.Nat.{ℕ, zero, suc, ◌+◌, ◌-◌, ◌*◌, ◌≤◌, ◌<◌}
use mathlib.Core.Path.{◌≡◌, refl, sym, ◌∙◌, ap}
use mathlib.Core.Bool.{Bool, true, false}
use mathlib.Core.List.{List, ◌++◌}
use native.Mathlib.Omega.{arith}
use lib.Dec.{leb, eqb}
use lib.IntN.{ℤ, pos, negsuc}
use lib.Signed.{lt_z}
use lib.ListN.{length, get_or, length-append, get_or-append}
use borrow.Author.Tests.{lt-ltb, ltb-true, leb-true, le-leb, eqb-true, eq-eqb, not-false}
use Rattle.lent.specs.Number.{big, be16, be64, int16}
use Rattle.lent.specs.Part.{Alike}
use Rattle.lent.proofs.Lists.{true≢false, asked, answered, all_true, true-all, every-all, all-every, table_same}
use Rattle.lent.proofs.Checks.{clear-all, judged-ok}
use Rattle.lent.proofs.Numbers.{number_same}
use Rattle.whole.specs.Length.{length_of, size_of}
use Rattle.whole.proofs.Laws.{is-whole, whole_is}
use Rattle.paper.specs.Entry.{natural_of}
use Rattle.paper.specs.Scan.{classes_of, starts_of, word_of, headlen, datalen, rule1_tests, rule1, rule2_tests, rule2, rising, rule3_tests, rule3, rule4_tests, rule4, rule5_tests, rule5, rule6, rule_checks, ruled_of, last_of, Rule1, Rule2, Rule3, Rule4, Rule5, Rule6, Kept, Lengths}

-- ---- each rule in plain facts, both ways

pub rule1-facts : (size : ℕ) (saving : Bool) → rule1 size saving ≡ true → Rule1 size saving
unfolding rule1
rule1-facts size saving e =
    let a = all_true (rule1_tests size saving) e in
    (leb-true _ _ a.0, λ h. leb-true _ _ (asked saving (leb size 65536) a.1.0 h))

pub facts-rule1 : (size : ℕ) (saving : Bool) → Rule1 size saving → rule1 size saving ≡ true
unfolding rule1
facts-rule1 size saving f =
    true-all (rule1_tests size saving)
    (le-leb _ _ f.0, (answered saving (leb size 65536) (λ h. le-leb _ _ (f.1 h)), tt))

pub rule2-facts : (n : ℕ) → rule2 n ≡ true → Rule2 n
unfolding rule2
rule2-facts n e = let a = all_true (rule2_tests n) e in (leb-true _ _ a.0, leb-true _ _ a.1.0)

pub facts-rule2 : (n : ℕ) → Rule2 n → rule2 n ≡ true
unfolding rule2
facts-rule2 n f = true-all (rule2_tests n) (le-leb _ _ f.0, (le-leb _ _ f.1, tt))

-- a start after one that is not negative is not negative either, so rising integers are rising naturals
natural-less : (a b : ℤ) → lt_z a b ≡ true → 0 < natural_of a → natural_of a < natural_of b
natural-less (pos a) (pos b) e h = ltb-true a b e
natural-less (pos a) (negsuc b) e h = absurd (true≢false e refl)
natural-less (negsuc a) b e h = absurd (omega arith)

less-natural : (a b : ℤ) → natural_of a < natural_of b → lt_z a b ≡ true
less-natural (pos a) (pos b) h = lt-ltb a b h
less-natural (negsuc a) (pos b) h = refl
less-natural a (negsuc b) h = absurd (omega arith)

module _ (starts : List ℤ) (n : ℕ) where
  next-less : rising starts n ≡ true → (k : ℕ) → k + 1 < n → 0 < word_of starts k → word_of starts k < word_of starts (k + 1)
  unfolding rising
  next-less e k h low = natural-less (get_or starts k (pos 0)) (get_or starts (k + 1) (pos 0)) (every-all (n - 1) _ e k (omega arith)) low

  some_word : rising starts n ≡ true → word_of starts 0 ≡ 5 → (k : ℕ) → k < n → 0 < word_of starts k
  some_word e s zero h = omega arith
  some_word e s (suc k) h =
      let q : suc k ≡ k + 1 = omega arith in
      rw q (omega (arith, next-less e k (omega arith) (some_word e s k (omega arith))))

  pub rule3-facts : rule3 starts n ≡ true → Rule3 starts n
  unfolding rule3
  rule3-facts e =
      let a = all_true (rule3_tests starts n) e in
      let s = eqb-true _ _ a.0 in
      (s, leb-true _ _ a.1.0, λ k h. next-less a.1.1.0 k h (some_word a.1.1.0 s k (omega arith)))

  pub facts-rule3 : Rule3 starts n → rule3 starts n ≡ true
  unfolding rule3 rising
  facts-rule3 f =
      true-all (rule3_tests starts n) (
        eq-eqb _ _ f.0,
        (le-leb _ _ f.1, (all-every (n - 1) _ (λ k h. less-natural (get_or starts k (pos 0)) (get_or starts (k + 1) (pos 0)) (f.2 k (omega arith))), tt)),
      )

module _ (s : List ℕ) (last : ℕ) where
  pub rule4-facts : rule4 s last ≡ true → Rule4 s last
  unfolding rule4
  rule4-facts e =
      let a = all_true (rule4_tests s last) e in
      (whole_is _ a.0, eqb-true _ _ a.1.0, leb-true _ _ a.1.1.0, leb-true _ _ a.1.1.1.0, leb-true _ _ a.1.1.1.1.0)

  pub facts-rule4 : Rule4 s last → rule4 s last ≡ true
  unfolding rule4
  facts-rule4 f = true-all (rule4_tests s last) (is-whole f.0, (eq-eqb _ _ f.1, (le-leb _ _ f.2, (le-leb _ _ f.3, (le-leb _ _ f.4, tt)))))

module _ (s : List ℕ) where
  pub rule5-facts : rule5 s ≡ true → Rule5 s
  unfolding rule5
  rule5-facts e = let a = all_true (rule5_tests s) e in (whole_is _ a.0, eqb-true _ _ a.1.0, leb-true _ _ a.1.1.0, leb-true _ _ a.1.1.1.0)

  pub facts-rule5 : Rule5 s → rule5 s ≡ true
  unfolding rule5
  facts-rule5 f = true-all (rule5_tests s) (is-whole f.0, (eq-eqb _ _ f.1, (le-leb _ _ f.2, (le-leb _ _ f.3, tt))))

  pub rule6-facts : (saving : Bool) → rule6 s saving ≡ true → Rule6 s saving
  unfolding rule6
  rule6-facts saving e h = eqb-true _ _ (asked saving (eqb (headlen s + datalen s) (length s)) e h)

  pub facts-rule6 : (saving : Bool) → Rule6 s saving → rule6 s saving ≡ true
  unfolding rule6
  facts-rule6 saving f = answered saving (eqb (headlen s + datalen s) (length s)) (λ h. eq-eqb _ _ (f h))

-- ---- the rules in order

module _ (s : List ℕ) (saving : Bool) where
  -- "the number of the first one broken is the reason"
  pub breaks-1 : rule1 (length s) saving ≡ false → ruled_of s saving ≡ Err 1
  unfolding ruled_of
  breaks-1 e = rw e

  module _ (one : rule1 (length s) saving ≡ true) where
    pub breaks-2 : rule2 (classes_of s) ≡ false → ruled_of s saving ≡ Err 2
    unfolding ruled_of
    breaks-2 e = rw (one, e)

    module _ (two : rule2 (classes_of s) ≡ true) where
      pub breaks-3 : rule3 (starts_of s) (classes_of s) ≡ false → ruled_of s saving ≡ Err 3
      unfolding ruled_of
      breaks-3 e = rw (one, two, e)

      module _ (three : rule3 (starts_of s) (classes_of s) ≡ true) where
        pub breaks-4 : rule4 s (last_of s) ≡ false → ruled_of s saving ≡ Err 4
        unfolding ruled_of
        breaks-4 e = rw (one, two, three, e)

        module _ (four : rule4 s (last_of s) ≡ true) where
          pub breaks-5 : rule5 s ≡ false → ruled_of s saving ≡ Err 5
          unfolding ruled_of
          breaks-5 e = rw (one, two, three, four, e)

          module _ (five : rule5 s ≡ true) where
            pub breaks-6 : rule6 s saving ≡ false → ruled_of s saving ≡ Err 6
            unfolding ruled_of
            breaks-6 e = rw (one, two, three, four, five, e)

            pub keeps-all : rule6 s saving ≡ true → ruled_of s saving ≡ Ok (headlen s, datalen s)
            unfolding ruled_of
            keeps-all e = rw (one, two, three, four, five, e)

-- all of them, both ways
pub kept : {s : List ℕ} {saving : Bool} {head rest : ℕ} → ruled_of s saving ≡ Ok (head, rest) → Kept s saving head rest
unfolding ruled_of
kept {s} {saving} {head} {rest} e =
    let p = judged-ok (rule_checks s saving) (headlen s, datalen s) e in
    let c = clear-all (rule_checks s saving) p.0 in
    record {
      one = rule1-facts (length s) saving (not-false _ c.0);
      two = rule2-facts (classes_of s) (not-false _ c.1.0);
      three = rule3-facts (starts_of s) (classes_of s) (not-false _ c.1.1.0);
      four = rule4-facts s (last_of s) (not-false _ c.1.1.1.0);
      five = rule5-facts s (not-false _ c.1.1.1.1.0);
      six = rule6-facts s saving (not-false _ c.1.1.1.1.1.0);
      head_is = ap (λ (q : ℕ × ℕ). q.0) p.1;
      rest_is = ap (λ (q : ℕ × ℕ). q.1) p.1;
    }

pub keeps : {s : List ℕ} {saving : Bool} {head rest : ℕ} → Kept s saving head rest → ruled_of s saving ≡ Ok (head, rest)
keeps {s} {saving} k =
    keeps-all s saving (facts-rule1 (length s) saving k.one) (facts-rule2 (classes_of s) k.two) (facts-rule3 (starts_of s) (classes_of s) k.three)
    (facts-rule4 s (last_of s) k.four) (facts-rule5 s k.five) (facts-rule6 s saving k.six)
    ∙ rw (k.head_is, k.rest_is)

-- and of the lengths alone
pub keeps-lengths : {s : List ℕ} {saving : Bool} {head rest : ℕ} → ruled_of s saving ≡ Ok (head, rest) → Lengths s saving head rest
keeps-lengths {s} {saving} {head} {rest} e =
    let k = kept e in
    record {
      head_is = k.head_is;
      rest_is = k.rest_is;
      long = k.one.0;
      within = omega arith;
      head_small = omega arith;
      rest_small = omega arith;
      fills = λ h. omega (arith, k.six h);
      short = k.one.1;
    }

-- ---- the same first 48 bytes

module _ (s t : List ℕ) (same : Alike s t 0 48) where
  be16-same : (at : ℕ) → at ≤ 46 → be16 t at ≡ be16 s at
  be16-same at h = number_same big 2 s t 0 48 at same (omega arith) (omega arith)

  be64-same : (at : ℕ) → at ≤ 40 → be64 t at ≡ be64 s at
  be64-same at h = number_same big 8 s t 0 48 at same (omega arith) (omega arith)

  pub classes-same : classes_of t ≡ classes_of s
  unfolding classes_of
  classes-same = rw (be16-same 0 (omega arith))

  pub starts-same : starts_of t ≡ starts_of s
  unfolding starts_of
  starts-same = table_same 15 _ _ (λ k h. ap int16 (be16-same (2 + 2 * k) (omega arith)))

  -- what holds of one holds of the other when reading, as far as its length allows
  pub kept_same : {saving : Bool} {head rest : ℕ} → 256 ≤ length t → head + rest ≤ length t → Kept s saving head rest → Kept t false head rest
  kept_same {saving} {head} {rest} long within k =
      let a = k.four in
      let b = k.five in
      let h : length_of (be64 t 32) ≡ length_of (be64 s 32) = ap length_of (be64-same 32 (omega arith)) in
      let r : length_of (be64 t 40) ≡ length_of (be64 s 40) = ap length_of (be64-same 40 (omega arith)) in
      let hs : headlen t ≡ headlen s = ap size_of h in
      let rs : datalen t ≡ datalen s = ap size_of r in
      let l : last_of t ≡ last_of s = rw (classes-same, starts-same) in
      record {
        one = (long, λ q. absurd (true≢false q refl));
        two = rw classes-same k.two;
        three = rw (classes-same, starts-same) k.three;
        four = (h ∙ a.0 ∙ ap Some (sym hs), rw hs a.1, omega arith, omega arith, omega arith);
        five = (r ∙ b.0 ∙ ap Some (sym rs), rw rs b.1, omega arith, omega arith);
        six = λ q. absurd (true≢false q refl);
        head_is = hs ∙ k.head_is;
        rest_is = rs ∙ k.rest_is;
      }

  pub rules-same : (saving : Bool) {head rest : ℕ} → 256 ≤ length t → head + rest ≤ length t → ruled_of s saving ≡ Ok (head, rest) → ruled_of t false ≡ Ok (head, rest)
  rules-same saving long within e = keeps (kept_same long within (kept e))

-- rules that hold over a run hold over any longer run with that prefix, when reading
pub rules-longer : (s more : List ℕ) (saving : Bool) {head rest : ℕ} → ruled_of s saving ≡ Ok (head, rest) → ruled_of (s ++ more) false ≡ Ok (head, rest)
rules-longer s more saving {head} {rest} e =
    let k = keeps-lengths e in
    let l = length-append s more in
    rules-same s (s ++ more) (λ i lo hi. get_or-append s more 0 i (omega arith)) saving (omega arith) (omega arith) e
