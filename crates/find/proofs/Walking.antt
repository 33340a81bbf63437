-- The laws of the walk: what a turn finds, where it goes on, and what the two walks have when they end.
use Rattle.std.specs.Prelude.{Result, Ok, Err, Option, Some, None}
use Rattle.std.specs.Option.{is_some}
use Rattle.std.specs.Result.{result_ok}
use Prim.Native.Nat.{ℕ, zero, suc, ◌+◌, ◌-◌, ◌*◌, ◌≤◌, ◌<◌}
use mathlib.Core.Path.{◌≡◌, refl, sym, ◌∙◌, ap}
use mathlib.Core.Bool.{Bool, true, false, cond}
use mathlib.Core.List.{List, [], ◌∷◌, ◌++◌}
use mathlib.Core.Logic.{⊎_elim}
use native.Mathlib.Omega.{arith}
use native.Mathlib.Nat.{add-zero}
use native.Mathlib.Numerals.{add-one}
use mir.Val.{bool_byte}
use lib.Dec.{ltb}
use lib.IntN.{pos, negsuc}
use lib.ListN.{length, set, length-append}
use Rattle.lent.specs.Number.{big, be16, be64, int16}
use Rattle.lent.specs.Lists.{threes}
use Rattle.lent.specs.Least.{some_number}
use Rattle.lent.specs.Write.{write}
use Rattle.lent.proofs.Lists.{true≢false, lt-or-ge, length-threes, threes-append}
use Rattle.lent.proofs.Numbers.{number-part}
use Rattle.lent.proofs.Founds.{found}
use Rattle.lent.proofs.Writes.{write-nothing, write-next, length-write, stored}
use Rattle.paper.specs.declared.sizes.Sizes.{Sizes}
use Rattle.paper.specs.Answers.{Ruled}
use Rattle.paper.specs.Sizes.{start_of, bytes_of}
use Rattle.paper.specs.Index.{Booted}
use Rattle.paper.specs.Entry.{natural_of}
use Rattle.paper.specs.Scan.{classes_of, rule2, ruled_of, Rule2}
use Rattle.paper.specs.Store.{records_for}
use Rattle.paper.specs.Find.{Find, rest_from, takes, takes_at, find_from, find_of, find_lines}
use Rattle.paper.proofs.Sizing.{less, times, bytes_small}
use Rattle.paper.proofs.Rules.{facts-rule2, kept}
use Rattle.paper.proofs.Writes.{some-record}
use Rattle.paper.proofs.Finding.{find-from, from_past, from-broken, from_found, classes-none, takes-within, head-some}
use Rattle.find.specs.Walk.{one_if, after_of, finds_at, Counted, Filled}

-- ---- a turn

-- what a walk adds to its count
pub one-is : (k : Option ℕ) → bool_byte (is_some k) ≡ one_if k
one-is None = refl
one-is (Some k) = refl

-- it goes on, at least by what it found, and past the scan, which has a record
module _ (r t : ℕ) {k : Option ℕ} (e : k ≡ some_number t) where
  on : r + one_if k ≤ after_of r k
  on = rw e (go t)
    where
      go : (t : ℕ) → r + one_if (some_number t) ≤ after_of r (some_number t)
      go zero = omega arith
      go (suc t) = omega arith

  pub further : r < after_of r k
  further = rw e (go t)
    where
      go : (t : ℕ) → r < after_of r (some_number t)
      go zero = omega arith
      go (suc t) = omega arith

  pub no-further : (most : ℕ) → r ≤ most → t ≤ most + 1 - r → after_of r k ≤ most + 1
  no-further most h = rw e (go t)
    where
      go : (t : ℕ) → t ≤ most + 1 - r → after_of r (some_number t) ≤ most + 1
      go zero l = omega arith
      go (suc t) l = omega arith

module _ (f : List ℕ) (z : Sizes) (r : ℕ) where
  -- what is found from a record on is what is found there, and then what is found after it
  pub from_next : {k : Option ℕ} → k ≡ some_number (takes_at f z r) → r ≤ z.n + z.d → find_from f z r ≡ finds_at f z r k ++ find_from f z (after_of r k)
  from_next e h = rw e (go (takes_at f z r) refl)
    where
      go : (t : ℕ) → takes_at f z r ≡ t → find_from f z r ≡ finds_at f z r (some_number t) ++ find_from f z (after_of r (some_number t))
      go zero q = from-broken f z r h q
      go (suc t) q =
          let l : r + suc t - 1 ≡ r + t = omega arith in
          rw l (from_found f z r t h q)

  finds-one : (k : Option ℕ) → length (finds_at f z r k) ≡ one_if k
  finds-one None = refl
  finds-one (Some k) = refl

  pub lines_next : {k : Option ℕ} → k ≡ some_number (takes_at f z r) → r ≤ z.n + z.d → find_lines (find_from f z r) ≡ find_lines (finds_at f z r k) ++ find_lines (find_from f z (after_of r k))
  lines_next {k} e h =
      ap find_lines (from_next e h)
      ∙ threes-append (λ (x : Find). x.first) (λ (x : Find). x.last) (λ (x : Find). x.scan) (finds_at f z r k) (find_from f z (after_of r k))

-- ---- the rules over the run from a record on

-- what is handed on was kept
pub was-ok : {A E : Type 0} (x : Result A E) {a : A} → result_ok x ≡ Some a → x ≡ Ok a
was-ok (Ok b) e = cc
was-ok (Err n) e = absurd cc

module _ {f : List ℕ} {z : Sizes} (B : Booted f z) (r : ℕ) (low : 1 ≤ r) (high : r ≤ z.n + z.d) where
  -- the record lies in the data section, and its bytes' numbers are small
  pub record-in : start_of z r + z.l ≤ bytes_of z
  record-in = omega (arith, less r z.l low, times r (z.n + z.d) z.l high)

  pub start_small : start_of z r + z.l ≤ 4096000000
  start_small = omega (arith, record-in, bytes_small z B.ranged)

  pub after-few : {k : Option ℕ} → k ≡ some_number (takes_at f z r) → after_of r k ≤ 2000000
  after-few e = omega (arith, no-further r (takes_at f z r) e (z.n + z.d) high (takes-within f z r B low high), B.ranged.records)

  -- two bytes are enough to tell that there is no scan: a negative number of classes counts as 0
  classes-few : (v : ℕ) → rule2 v ≡ false → Rule2 (natural_of (int16 v)) → ⊥
  unfolding int16
  classes-few v e = go (ltb v 32768) refl
    where
      go : (t : Bool) → ltb v 32768 ≡ t → Rule2 (natural_of (cond t (pos v) (negsuc (65535 - v)))) → ⊥
      go true h q = true≢false (facts-rule2 v q) e
      go false h q = omega arith

  pub takes-classes : {n : ℕ} → n ≡ be16 f (start_of z r) → rule2 n ≡ false → None ≡ some_number (takes_at f z r)
  unfolding classes_of
  takes-classes {n} p e =
      let w : be16 (rest_from f z r) 0 ≡ n = number-part big 2 (start_of z r) (bytes_of z) f 0 (omega (arith, record-in, B.ranged.shape.l_low)) ∙ ap (be16 f) (add-zero (start_of z r)) ∙ sym p in
      ap some_number (sym (classes-none f z r (λ q. classes-few n e (rw w at q))))

  pub takes-broken : {j : Ruled} → j ≡ ruled_of (rest_from f z r) false → result_ok j ≡ None → None ≡ some_number (takes_at f z r)
  unfolding takes_at
  takes-broken {j} p e = ap some_number (go j e ∙ ap (takes z) p)
    where
      go : (x : Ruled) → result_ok x ≡ None → 0 ≡ takes z x
      go (Ok x) q = absurd cc
      go (Err n) q = refl

  -- a scan has a class, so it takes a record
  pub takes-kept : {head rest k : ℕ} → ruled_of (rest_from f z r) false ≡ Ok (head, rest) → k ≡ records_for z (head + rest) → Some k ≡ some_number (takes_at f z r)
  unfolding takes_at
  takes-kept {head} {rest} {k} e q =
      found k (omega (arith, q, some-record z.l (head + rest) (omega (arith, B.ranged.shape.l_low)) (omega (arith, head-some (kept e)))))
      ∙ ap some_number (q ∙ sym (ap (takes z) e))

  -- "class 1's third word", by its place in the file
  pub word-is : {w : ℕ} → w ≡ be64 f (start_of z r + 48) → w ≡ be64 (rest_from f z r) 48
  word-is e = e ∙ sym (number-part big 8 (start_of z r) (bytes_of z) f 48 (omega (arith, record-in, B.ranged.shape.l_low)))

-- ---- the walk that counts

module _ {f : List ℕ} {z : Sizes} where
  pub count-start : {r : ℕ} → r ≡ z.n + 1 → Counted f z 0 r
  count-start e = rw e (record { past = omega arith; within = omega arith; few = omega arith; rest = omega (arith, ap length (find-from f z)) })

  pub count_next : (B : Booted f z) {n m r x : ℕ} {k : Option ℕ} → Counted f z n r → r ≤ z.n + z.d → k ≡ some_number (takes_at f z r) → m ≡ n + one_if k → x ≡ after_of r k → Counted f z m x
  count_next B {n} {m} {r} {x} {k} c h e p q =
      let t = takes-within f z r B (omega (arith, c.past)) h in
      let l = ap length (from_next f z r e h) ∙ length-append (finds_at f z r k) (find_from f z (after_of r k)) in
      rw (p, q)
      (record {
        past = omega (arith, further r (takes_at f z r) e, c.past);
        within = no-further r (takes_at f z r) e (z.n + z.d) h t;
        few = omega (arith, on r (takes_at f z r) e, c.few);
        rest = omega (arith, l, finds-one f z r k, c.rest);
      })

  pub count-end : (B : Booted f z) {n r : ℕ} → Counted f z n r → z.n + z.d < r → (n ≡ length (find_of f z)) × (n ≤ 1000000)
  count-end B {n} {r} c h = (omega (arith, ap length (from_past f z r h), c.rest), omega (arith, c.few, c.within, B.ranged.records))

-- ---- what is put

module _ (f : List ℕ) (z : Sizes) (r : ℕ) where
  -- nothing where none is found, else three numbers
  pub put-none : (out : List ℕ) (at : ℕ) {k : Option ℕ} → k ≡ None → (at ≡ at + length (find_lines (finds_at f z r k))) × (out ≡ write out at (find_lines (finds_at f z r k)))
  unfolding threes
  put-none out at e = rw e (sym (add-zero at), sym (write-nothing out at))

  module _ {o : Option ℕ} {k : ℕ} (e : o ≡ Some k) where
    pub put-room : length (find_lines (finds_at f z r o)) ≡ 3
    unfolding threes
    put-room = rw e refl

    pub put_some : (out : List ℕ) (at w : ℕ) → at + 3 ≤ length out → w ≡ be64 (rest_from f z r) 48
        → set (set (set out at r) (at + 1) (r + k - 1)) (at + 2) w ≡ write out at (find_lines (finds_at f z r o))
    unfolding threes
    put_some out at w h p =
        let t : at + 2 ≡ suc (suc at) = omega arith in
        rw (e, p, add-one at, t) (stored (r ∷ (r + k - 1) ∷ be64 (rest_from f z r) 48 ∷ []) out at h)

-- ---- the walk that puts

lines_none : (xs : List Find) → length (find_lines xs) ≡ 0 → find_lines xs ≡ []
unfolding threes
lines_none [] e = refl
lines_none (x ∷ xs) e = absurd (omega arith)

module _ {f : List ℕ} {z : Sizes} {before : List ℕ} {end : ℕ} where
  pub fill_start : {n r : ℕ} → end ≡ 3 * n → n ≡ length (find_of f z) → end ≤ length before → r ≡ z.n + 1 → Filled f z before end before 0 r
  fill_start p q fits e =
      rw e
      (record {
        past = omega arith;
        within = omega arith;
        place = omega (arith, length-threes (λ (x : Find). x.first) (λ (x : Find). x.last) (λ (x : Find). x.scan) (find_from f z (z.n + 1)), ap length (find-from f z));
        fits = fits;
        as_long = refl;
        holds = ap (λ (xs : List Find). write before 0 (find_lines xs)) (sym (find-from f z));
      })

  module _ {after : List ℕ} {at r : ℕ} (F : Filled f z before end after at r) where
    -- while something is left to be found, a record is left to look at
    pub fill-within : at < end → r ≤ z.n + z.d
    unfolding threes
    fill-within h =
        ⊎_elim (λ (p : z.n + z.d < r). absurd (omega (arith, F.place, ap (λ (xs : List Find). length (find_lines xs)) (from_past f z r p)))) (λ (p : r ≤ z.n + z.d). p)
        (lt-or-ge (z.n + z.d) r)

    module _ (B : Booted f z) (h : at < end) {k : Option ℕ} (e : k ≡ some_number (takes_at f z r)) where
      -- what a turn puts, and what is then left, make up what was left
      length-next : length (find_lines (find_from f z r)) ≡ length (find_lines (finds_at f z r k)) + length (find_lines (find_from f z (after_of r k)))
      length-next =
          ap length (lines_next f z r e (fill-within h)) ∙ length-append (find_lines (finds_at f z r k)) (find_lines (find_from f z (after_of r k)))

      pub fill-room : at + length (find_lines (finds_at f z r k)) ≤ length after
      fill-room = omega (arith, length-next, F.place, F.fits, F.as_long)

      pub fill-next : {out : List ℕ} {to x : ℕ} → to ≡ at + length (find_lines (finds_at f z r k)) → out ≡ write after at (find_lines (finds_at f z r k)) → x ≡ after_of r k
          → Filled f z before end out to x
      fill-next p q w =
          let a = find_lines (finds_at f z r k) in
          let b = find_lines (find_from f z (after_of r k)) in
          let room = fill-room in
          rw (p, q, w)
          (record {
            past = omega (arith, further r (takes_at f z r) e, F.past);
            within = no-further r (takes_at f z r) e (z.n + z.d) (fill-within h) (takes-within f z r B (omega (arith, F.past)) (fill-within h));
            place = omega (arith, length-next, F.place);
            fits = F.fits;
            as_long = length-write after at a room ∙ F.as_long;
            holds = write-next after at a b (omega arith) ∙ ap (write after at) (sym (lines_next f z r e (fill-within h))) ∙ F.holds;
          })

    pub fill_end : end ≤ at → after ≡ write before 0 (find_lines (find_of f z))
    fill_end h =
        let e : find_lines (find_from f z r) ≡ [] = lines_none (find_from f z r) (omega (arith, F.place)) in
        sym (write-nothing after at) ∙ ap (write after at) (sym e) ∙ F.holds
