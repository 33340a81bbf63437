-- `scan::rules::judge`: a law of the rules for each return, from the rules that are known to be kept so far.
use Rattle.std.proofs.Common.{◌≡◌, ℕ, ◌-◌, Bool, List, sym, ap, ◌∙◌, arith, Option, Err}
use lib.IntN.{ℤ}
use Rattle.lent.proofs.Checks.{passed-on}
use Rattle.lent.proofs.Results.{ok_or-some, ok_or-none}
use Rattle.paper.specs.Scan.{classes_of, starts_of, word_of, rule2, rule3, last_of}
use Rattle.paper.proofs.Rules.{rule1-facts, rule2-facts, rule4-facts, rule5-facts, breaks-1, breaks-2, breaks-3, breaks-4, breaks-5, breaks-6, keeps-all}
use Rattle.scan.proofs.Lengths.{summed, kept-both, head-kept, head-broken, rest-kept, rest-broken}
use Rattle.scan.specs.Lengths.{head_kept}
use Rattle.scan.proofs.rules.judge.Goals as goal

-- what a test or HEADLEN came to, of the run itself: the code asks what it has read of it
kept-2 : (s : List ℕ) (n : ℕ) {kept b : Bool} → kept ≡ rule2 n → n ≡ classes_of s → kept ≡ b → rule2 (classes_of s) ≡ b
kept-2 s n k p e = cc

kept-3 : (s : List ℕ) (a : List ℤ) (n : ℕ) {kept b : Bool} → kept ≡ rule3 a n → a ≡ starts_of s → n ≡ classes_of s → kept ≡ b
    → rule3 (starts_of s) (classes_of s) ≡ b
kept-3 s a n k p q e = cc

head-of : (s : List ℕ) (a : List ℤ) (n : ℕ) {last : ℕ} {h w : Option ℕ} → h ≡ head_kept s last → last ≡ word_of a (n - 1) → a ≡ starts_of s → n ≡ classes_of s
    → h ≡ w → head_kept s (last_of s) ≡ w
head-of s a n k l p q e = ap (head_kept s) (sym (l ∙ rw (p, q))) ∙ sym k ∙ e

pub returns-then-not-size_kept : goal.returns-then-not-size_kept
returns-then-not-size_kept c = sym (breaks-1 c.args.s.now _ (sym c.size_kept.ensures ∙ c.if-not-size_kept.true))

pub returns-then-not-count_kept : goal.returns-then-not-count_kept
returns-then-not-count_kept c = let s = c.args.s.now in sym (breaks-2 s _ (sym c.size_kept.ensures ∙ c.if-not-size_kept.false) (kept-2 s _ c.count_kept.ensures c.classes-n.ensures.is c.if-not-count_kept.true))

pub starts-starts-requires : goal.starts-starts-requires
starts-starts-requires c = omega (arith, (rule1-facts _ _ (sym c.size_kept.ensures ∙ c.if-not-size_kept.false)).0)

pub starts_kept-requires : goal.starts_kept-requires
starts_kept-requires c = (rule2-facts _ (sym c.count_kept.ensures ∙ c.if-not-count_kept.false)).1

pub returns-then-not-starts_kept : goal.returns-then-not-starts_kept
returns-then-not-starts_kept c =
    let s = c.args.s.now in
    sym
    (breaks-3 s _ (sym c.size_kept.ensures ∙ c.if-not-size_kept.false) (kept-2 s _ c.count_kept.ensures c.classes-n.ensures.is c.if-not-count_kept.false)
    (kept-3 s _ _ c.starts_kept.ensures c.starts-starts.ensures c.classes-n.ensures.is c.if-not-starts_kept.true))

pub overflow_sub-n : goal.overflow_sub-n
overflow_sub-n c = omega (arith, rule2-facts _ (sym c.count_kept.ensures ∙ c.if-not-count_kept.false))

pub word-requires : goal.word-requires
word-requires c = omega (arith, rule2-facts _ (sym c.count_kept.ensures ∙ c.if-not-count_kept.false))

pub returns-in_err-head : goal.returns-in_err-head
returns-in_err-head c =
    let s = c.args.s.now in
    let n = ok_or-none _ _ c.ok_or.ensures.value c.in_err-head.was in
    passed-on _ c.from_residual.ensures.1 ∙ ap Err n.1
    ∙ sym
    (breaks-4 s _ (sym c.size_kept.ensures ∙ c.if-not-size_kept.false) (kept-2 s _ c.count_kept.ensures c.classes-n.ensures.is c.if-not-count_kept.false)
    (kept-3 s _ _ c.starts_kept.ensures c.starts-starts.ensures c.classes-n.ensures.is c.if-not-starts_kept.false)
    (head-broken s _ (head-of s _ _ c.head_kept.ensures c.word.ensures.is c.starts-starts.ensures c.classes-n.ensures.is n.0)))

pub rest_kept-requires : goal.rest_kept-requires
rest_kept-requires c =
    let s = c.args.s.now in
    let f = head-kept s (last_of s) c.in_ok-head.head (head-of s _ _ c.head_kept.ensures c.word.ensures.is c.starts-starts.ensures c.classes-n.ensures.is (ok_or-some _ _ c.ok_or.ensures.value c.in_ok-head.was)) in
    record { is = f.1; small = omega (arith, f.1, rule4-facts _ _ f.0) }

pub returns-in_err-rest : goal.returns-in_err-rest
returns-in_err-rest c =
    let s = c.args.s.now in
    let f = head-kept s (last_of s) c.in_ok-head.head (head-of s _ _ c.head_kept.ensures c.word.ensures.is c.starts-starts.ensures c.classes-n.ensures.is (ok_or-some _ _ c.ok_or.ensures.value c.in_ok-head.was)) in
    let n = ok_or-none _ _ c.ok_or-2.ensures.value c.in_err-rest.was in
    passed-on _ c.from_residual-in_err-rest.ensures.1 ∙ ap Err n.1
    ∙ sym
    (breaks-5 s _ (sym c.size_kept.ensures ∙ c.if-not-size_kept.false) (kept-2 s _ c.count_kept.ensures c.classes-n.ensures.is c.if-not-count_kept.false)
    (kept-3 s _ _ c.starts_kept.ensures c.starts-starts.ensures c.classes-n.ensures.is c.if-not-starts_kept.false)
    f.0 (rest-broken s (sym c.rest_kept.ensures ∙ n.0)))

pub overflow_add-head : goal.overflow_add-head
overflow_add-head c =
    let s = c.args.s.now in
    let f = head-kept s (last_of s) c.in_ok-head.head (head-of s _ _ c.head_kept.ensures c.word.ensures.is c.starts-starts.ensures c.classes-n.ensures.is (ok_or-some _ _ c.ok_or.ensures.value c.in_ok-head.was)) in
    let r = rest-kept s c.in_ok-rest.rest (sym c.rest_kept.ensures ∙ ok_or-some _ _ c.ok_or-2.ensures.value c.in_ok-rest.was) in
    omega (arith, f.1, rule4-facts _ _ f.0, r.1, rule5-facts _ r.0)

pub returns-then-not-sum_kept : goal.returns-then-not-sum_kept
returns-then-not-sum_kept c =
    let s = c.args.s.now in
    let f = head-kept s (last_of s) c.in_ok-head.head (head-of s _ _ c.head_kept.ensures c.word.ensures.is c.starts-starts.ensures c.classes-n.ensures.is (ok_or-some _ _ c.ok_or.ensures.value c.in_ok-head.was)) in
    let r = rest-kept s c.in_ok-rest.rest (sym c.rest_kept.ensures ∙ ok_or-some _ _ c.ok_or-2.ensures.value c.in_ok-rest.was) in
    sym
    (breaks-6 s _ (sym c.size_kept.ensures ∙ c.if-not-size_kept.false) (kept-2 s _ c.count_kept.ensures c.classes-n.ensures.is c.if-not-count_kept.false)
    (kept-3 s _ _ c.starts_kept.ensures c.starts-starts.ensures c.classes-n.ensures.is c.if-not-starts_kept.false)
    f.0 r.0 (summed s _ _ _ f.1 r.1 ∙ sym c.sum_kept.ensures ∙ c.if-not-sum_kept.true))

pub returns : goal.returns
returns c =
    let s = c.args.s.now in
    let f = head-kept s (last_of s) c.in_ok-head.head (head-of s _ _ c.head_kept.ensures c.word.ensures.is c.starts-starts.ensures c.classes-n.ensures.is (ok_or-some _ _ c.ok_or.ensures.value c.in_ok-head.was)) in
    let r = rest-kept s c.in_ok-rest.rest (sym c.rest_kept.ensures ∙ ok_or-some _ _ c.ok_or-2.ensures.value c.in_ok-rest.was) in
    sym
    (keeps-all s _ (sym c.size_kept.ensures ∙ c.if-not-size_kept.false) (kept-2 s _ c.count_kept.ensures c.classes-n.ensures.is c.if-not-count_kept.false)
    (kept-3 s _ _ c.starts_kept.ensures c.starts-starts.ensures c.classes-n.ensures.is c.if-not-starts_kept.false)
    f.0 r.0 (summed s _ _ _ f.1 r.1 ∙ sym c.sum_kept.ensures ∙ c.if-not-sum_kept.false) ∙ kept-both f.1 r.1)
