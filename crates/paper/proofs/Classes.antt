-- Where the classes and the data of a scan that keeps the rules lie: no class is empty, all lie between byte 32 and HEADLEN; then the data.
use Rattle.std.specs.Prelude.{Ok, Err}
use Prim.Native.Nat.{ℕ, zero, suc, ◌+◌, ◌-◌, ◌*◌, ◌≤◌, ◌<◌}
use mathlib.Core.Path.{◌≡◌, refl, sym, ◌∙◌, ap, subst}
use mathlib.Core.Bool.{Bool, false}
use mathlib.Core.List.{List}
use native.Mathlib.Omega.{arith}
use lib.IntN.{ℤ, pos}
use mathlib.Core.Logic.{⊎_elim}
use lib.ListN.{take}
use lib.Seq.{length-take-le, get_or-take}
use borrow.Author.Tests.{le-leb, lt-leb, eq-eqb, ne_eqb}
use Rattle.lent.specs.Number.{be16, int16}
use Rattle.lent.proofs.Lists.{lt-or-ge, table_at}
use Rattle.paper.specs.declared.refusal.Refusal.TheVariants.{BadScan}
use Rattle.paper.specs.Entry.{natural_of}
use Rattle.paper.specs.Scan.{classes_of, starts_of, word_of, ruled_of, class_at, class_end, class_in, class_of, data_of, last_of, Kept}
use Rattle.paper.proofs.Rules.{kept, rules-same}

-- ---- the starts

module _ (s : List ℕ) {saving : Bool} {head rest : ℕ} (k : Kept s saving head rest) where
  pub start-later : (d i : ℕ) → i + d < classes_of s → word_of (starts_of s) i + d ≤ word_of (starts_of s) (i + d)
  start-later zero i h = let e : i + 0 ≡ i = omega arith in rw e (omega arith)
  start-later (suc d) i h =
      let e : i + suc d ≡ i + d + 1 = omega arith in
      let p = start-later d i (omega arith) in
      rw e (omega (arith, k.three.2 (i + d) (omega arith)))

  pub start-low : (i : ℕ) → i < classes_of s → 5 + i ≤ word_of (starts_of s) i
  start-low i h = let e : 0 + i ≡ i = omega arith in omega (arith, k.three.0, rw e at (start-later i 0 (omega arith)))

  -- so HEADLEN alone is as long as a scan must be
  pub last-long : 32 ≤ last_of s
  last-long =
      let n = k.two.0 in
      let e : 1 + (classes_of s - 2) ≡ classes_of s - 1 = omega arith in
      omega (arith, k.three.1, rw e at (start-later (classes_of s - 2) 1 (omega arith)))

  pub head-long : 256 ≤ head
  head-long = omega (arith, last-long, k.four.2, k.head_is)

  -- ---- the classes, number 1 to the count

  pub record Lies (number : ℕ) : Type 0 where
    pub from : 32 ≤ class_at (starts_of s) (number - 1)
    pub some : class_at (starts_of s) (number - 1) < class_end (starts_of s) (classes_of s) head number
    pub to : class_end (starts_of s) (classes_of s) head number ≤ head

  -- each class to the next one's start, the last one to HEADLEN
  pub class-next : (number : ℕ) → number < classes_of s → class_end (starts_of s) (classes_of s) head number ≡ class_at (starts_of s) number
  unfolding class_end
  class-next number h = rw (ne_eqb number (classes_of s) (λ e. omega arith))

  pub class-last : class_end (starts_of s) (classes_of s) head (classes_of s) ≡ head
  unfolding class_end
  class-last = rw (eq-eqb (classes_of s) (classes_of s) refl)

  pub class-lies : (number : ℕ) → 1 ≤ number → number ≤ classes_of s → Lies number
  unfolding class_at
  class-lies number lo hi = ⊎_elim before last (lt-or-ge number (classes_of s))
    where
      low : 5 + (number - 1) ≤ word_of (starts_of s) (number - 1)
      low = start-low (number - 1) (omega arith)

      before : number < classes_of s → Lies number
      before h =
          let a : number - 1 + 1 ≡ number = omega arith in
          let b : number + (classes_of s - 1 - number) ≡ classes_of s - 1 = omega arith in
          let l = low in
          let n = rw a at (k.three.2 (number - 1) (omega arith)) in
          let m = rw b at (start-later (classes_of s - 1 - number) number (omega arith)) in
          let e = class-next number h in
          record { from = omega arith; some = omega arith; to = omega (arith, k.four.2, k.head_is) }

      last : classes_of s ≤ number → Lies number
      last h =
          let e : classes_of s ≡ number = omega arith in
          let l = low in
          let q : class_end (starts_of s) (classes_of s) head number ≡ head = subst (λ (x : ℕ). class_end (starts_of s) (classes_of s) head x ≡ head) e class-last in
          let w : word_of (starts_of s) (number - 1) ≡ last_of s = ap (λ (x : ℕ). word_of (starts_of s) (x - 1)) (sym e) in
          record { from = omega arith; some = omega (arith, k.four.2, k.head_is); to = omega arith }

-- ---- a class by its number

module _ (starts : List ℤ) (n head number : ℕ) where
  pub class-here : 1 ≤ number → number ≤ n → class_in starts n head number ≡ Ok (class_at starts (number - 1), class_end starts n head number)
  unfolding class_in
  class-here a b = simp (le-leb 1 number a, le-leb number n b)

  pub class-above : n < number → class_in starts n head number ≡ Ok (0, 0)
  unfolding class_in
  class-above h = simp (le-leb 1 number (omega arith), lt-leb number n h)

pub class-below : (starts : List ℤ) (n head : ℕ) → class_in starts n head 0 ≡ Ok (0, 0)
unfolding class_in
class-below starts n head = refl

-- "then fifteen class starts (Integer*2 each)": start k stands at byte 2 k
pub start-at : (s : List ℕ) (k : ℕ) → 1 ≤ k → k ≤ 15 → word_of (starts_of s) (k - 1) ≡ natural_of (int16 (be16 s (2 * k)))
unfolding starts_of
start-at s k a b =
    let e : 2 + 2 * (k - 1) ≡ 2 * k = omega arith in
    ap natural_of (table_at 15 (λ i. int16 (be16 s (2 + 2 * i))) (k - 1) (pos 0) (omega arith)) ∙ ap (λ (x : ℕ). natural_of (int16 (be16 s x))) e

-- ---- what a class and the data answer

module _ (s : List ℕ) {head rest : ℕ} (e : ruled_of s false ≡ Ok (head, rest)) where
  pub class-in : (number : ℕ) → class_of s number ≡ class_in (starts_of s) (classes_of s) head number
  unfolding class_of
  class-in number = rw e

  pub data_is : data_of s ≡ Ok (head, head + rest)
  unfolding data_of
  data_is = rw e

-- "11 where rules 1 to 5 are broken"
module _ (s : List ℕ) {reason : ℕ} (e : ruled_of s false ≡ Err reason) where
  pub class-refused : (number : ℕ) → class_of s number ≡ Err (BadScan reason)
  unfolding class_of
  class-refused number = rw e

  pub data-refused : data_of s ≡ Err (BadScan reason)
  unfolding data_of
  data-refused = rw e

-- what a read answers, HEADLEN + DATALEN bytes, keeps the rules by itself
pub rules-taken : (s : List ℕ) (saving : Bool) {head rest : ℕ} → ruled_of s saving ≡ Ok (head, rest) → ruled_of (take (head + rest) s) false ≡ Ok (head, rest)
rules-taken s saving {head} {rest} e =
    let k = kept e in
    let l = length-take-le (head + rest) s (omega arith) in
    let h = head-long s k in
    rules-same s (take (head + rest) s) (λ i lo hi. get_or-take (head + rest) s i 0 (omega arith)) saving (omega arith) (omega arith) e
