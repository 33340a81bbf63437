-- The laws of what is found: from a record on, with no word of turns; what it is to be found or passed over, in plain facts; and that a window on the file finds the same.
use Rattle.std.specs.Prelude.{Ok, Err}
use Prim.Native.Nat.{ℕ, zero, suc, ◌+◌, ◌-◌, ◌*◌, ◌/◌, ◌≤◌, ◌<◌}
use mathlib.Core.Path.{◌≡◌, refl, sym, ◌∙◌, ap}
use mathlib.Core.Bool.{Bool, false, cond}
use mathlib.Core.List.{List, [], ◌∷◌}
use mathlib.Core.Logic.{◌⊎◌, ⊎_elim}
use native.Mathlib.Decide.{le_ind}
use native.Mathlib.Nat.{div-lt_iff_lt-mul, suc-mul, add-mul}
use native.Mathlib.Omega.{arith}
use lib.Dec.{ltb}
use lib.ListN.{length}
use borrow.Author.Tests.{lt-ltb, le-ltb}
use Rattle.lent.specs.Number.{big, be16, be64, int16}
use Rattle.lent.specs.Checks.{Check, check, answer, judge}
use Rattle.lent.specs.Part.{Alike}
use Rattle.lent.specs.Write.{write, zeros}
use Rattle.lent.proofs.Lists.{lt-or-ge}
use Rattle.lent.proofs.Checks.{clear-append}
use Rattle.lent.proofs.Parts.{length-part-min, length_part, part_at, alike-within}
use Rattle.lent.proofs.Numbers.{number_same, number-part, number-zeros}
use Rattle.paper.specs.declared.sizes.Sizes.{Sizes}
use Rattle.paper.specs.declared.refusal.Refusal.{Refusal}
use Rattle.paper.specs.declared.refusal.Refusal.TheVariants.{TooSmall}
use Rattle.paper.specs.Answers.{Ruled}
use Rattle.paper.specs.Sizes.{sizes_of, start_of, bytes_of, boot_checks}
use Rattle.paper.specs.Index.{Booted}
use Rattle.paper.specs.Scan.{classes_of, ruled_of, Rule2, Kept}
use Rattle.paper.specs.Store.{records_for}
use Rattle.paper.specs.Gaps.{record_at}
use Rattle.paper.specs.Find.{rest_from, takes, takes_at, Find, find_at, go_on, find_turns, find_from, find_of, find_lines, find_checks, report_of, report_out}
use Rattle.paper.proofs.Sizing.{times}
use Rattle.paper.proofs.Writes.{some-record}
use Rattle.paper.proofs.Opening.{booted-clear}
use Rattle.paper.proofs.Rules.{kept, keeps-lengths, rules-same}
use Rattle.paper.proofs.Frame.{booted-same}

-- ---- from a record on

module _ (f : List ℕ) (z : Sizes) where
  go_same : (r k : ℕ) (g h : ℕ → List Find) → ((j : ℕ) → r < j → g j ≡ h j) → go_on f z r k g ≡ go_on f z r k h
  go_same r zero g h e = e (r + 1) (omega arith)
  go_same r (suc k) g h e = ap (λ (xs : List Find). find_at f z r (r + k) ∷ xs) (e (r + suc k) (omega arith))

  -- a turn more than there are records left changes nothing
  turn : (k r : ℕ) → z.n + z.d < r + k → find_turns f z (suc k) r ≡ find_turns f z k r
  unfolding find_turns
  turn zero r h = rw (lt-ltb (z.n + z.d) r (omega arith))
  turn (suc k) r h =
      ap (λ (xs : List Find). cond (ltb (z.n + z.d) r) [] xs)
      (go_same r (takes_at f z r) (λ j. find_turns f z (suc k) j) (λ j. find_turns f z k j) (λ j l. turn k j (omega arith)))

  turns : (k r : ℕ) → z.n + z.d < r + k → find_turns f z k r ≡ find_from f z r
  turns k r h =
      le_ind (λ (m : ℕ). find_turns f z m r ≡ find_from f z r) refl (λ m a e. turn m r (omega arith) ∙ e) k (omega arith)

  pub find-from : find_of f z ≡ find_from f z (z.n + 1)
  unfolding find_of
  find-from = refl

  pub from_past : (r : ℕ) → z.n + z.d < r → find_from f z r ≡ []
  unfolding find_turns
  from_past r h =
      let e : z.n + z.d + 1 - r ≡ 0 = omega arith in
      rw e

  from-here : (r : ℕ) → r ≤ z.n + z.d → find_from f z r ≡ go_on f z r (takes_at f z r) (find_from f z)
  unfolding find_turns
  from-here r h =
      let e : z.n + z.d + 1 - r ≡ suc (z.n + z.d - r) = omega arith in
      rw (e, le-ltb (z.n + z.d) r h)
      (go_same r (takes_at f z r) (λ j. find_turns f z (z.n + z.d - r) j) (find_from f z) (λ j l. turns (z.n + z.d - r) j (omega arith)))

  -- "where not, go to the next record"
  pub from-broken : (r : ℕ) → r ≤ z.n + z.d → takes_at f z r ≡ 0 → find_from f z r ≡ find_from f z (r + 1)
  from-broken r h e = from-here r h ∙ ap (λ (k : ℕ). go_on f z r k (find_from f z)) e

  -- "report .. and go on after the last"
  pub from_found : (r k : ℕ) → r ≤ z.n + z.d → takes_at f z r ≡ suc k → find_from f z r ≡ find_at f z r (r + k) ∷ find_from f z (r + suc k)
  from_found r k h e = from-here r h ∙ ap (λ (j : ℕ). go_on f z r j (find_from f z)) e

-- ---- what is found at a record

-- what ends within k records takes no more than k
pub no_more : (z : Sizes) (size k : ℕ) → 1 ≤ z.l → size ≤ k * z.l → records_for z size ≤ k
no_more z size k l h =
    let p : (size + (z.l - 1)) / z.l < suc k = (div-lt_iff_lt-mul l).1 (rw (suc-mul k z.l) (omega arith)) in
    omega arith

-- a scan has a class, so it has bytes
pub head-some : {s : List ℕ} {saving : Bool} {head rest : ℕ} → Kept s saving head rest → 1 ≤ head
head-some {s} k =
    let n : ℕ = classes_of s in
    let e : n - 2 + 1 ≡ n - 1 = omega (arith, k.two) in
    let w = k.three.2 (n - 2) (omega (arith, k.two)) in
    omega (arith, rw e at w, k.four, k.head_is)

-- record r begins a scan of so many records by rules 1 to 5
pub record Begins (f : List ℕ) (z : Sizes) (r many : ℕ) : Type 0 where
  pub head : ℕ
  pub rest : ℕ
  pub rules : ruled_of (rest_from f z r) false ≡ Ok (head, rest)
  pub records : records_for z (head + rest) ≡ many

module _ (f : List ℕ) (z : Sizes) (r : ℕ) where
  pub takes-facts : (k : ℕ) → takes_at f z r ≡ suc k → Begins f z r (suc k)
  unfolding takes_at
  takes-facts k e = go (ruled_of (rest_from f z r) false) refl e
    where
      go : (x : Ruled) → ruled_of (rest_from f z r) false ≡ x → takes z x ≡ suc k → Begins f z r (suc k)
      go (Ok (head, rest)) q t = record { head = head; rest = rest; rules = q; records = t }
      go (Err reason) q t = absurd (omega arith)

  pub facts-takes : (k : ℕ) → Begins f z r k → takes_at f z r ≡ k
  unfolding takes_at
  facts-takes k b = ap (takes z) b.rules ∙ b.records

  -- without 13 to 15 classes there is no scan
  pub classes-none : (Rule2 (classes_of (rest_from f z r)) → ⊥) → takes_at f z r ≡ 0
  classes-none h = go (takes_at f z r) refl
    where
      go : (k : ℕ) → takes_at f z r ≡ k → k ≡ 0
      go zero e = refl
      go (suc k) e = absurd (h (kept (takes-facts k e).rules).two)

  module _ (B : Booted f z) where
    -- 0 is said of no scan
    pub takes_none : takes_at f z r ≡ 0 → (head rest : ℕ) → ruled_of (rest_from f z r) false ≡ Ok (head, rest) → ⊥
    takes_none e head rest q =
        let t = facts-takes (records_for z (head + rest)) (record { head = head; rest = rest; rules = q; records = refl }) in
        omega (arith, some-record z.l (head + rest) (omega (arith, B.ranged.shape.l_low)) (omega (arith, head-some (kept q))))

    module _ (low : 1 ≤ r) (high : r ≤ z.n + z.d) where
      pub rest-long : length (rest_from f z r) ≡ (z.n + z.d + 1 - r) * z.l
      rest-long =
          let m : ℕ = z.n + z.d + 1 - r in
          let e : z.n + z.d ≡ r - 1 + m = omega arith in
          length_part (start_of z r) (bytes_of z) f B.held ∙ omega (arith, ap (λ (x : ℕ). x * z.l) e, add-mul (r - 1) m z.l)

      -- what is found ends within the data section
      pub takes-within : takes_at f z r ≤ z.n + z.d + 1 - r
      takes-within = go (takes_at f z r) refl
        where
          go : (k : ℕ) → takes_at f z r ≡ k → k ≤ z.n + z.d + 1 - r
          go zero e = omega arith
          go (suc k) e =
              let b = takes-facts k e in
              let q = keeps-lengths b.rules in
              let l = rest-long in
              omega
              (arith, b.records, no_more z (b.head + b.rest) (z.n + z.d + 1 - r) (omega (arith, B.ranged.shape.l_low)) (omega (arith, q.within)))

      -- a record of zeros begins no scan
      zeros-classes : record_at f z r ≡ zeros z.l → classes_of (rest_from f z r) ≡ 0
      unfolding classes_of int16
      zeros-classes h =
          let l = B.ranged.shape.l_low in
          let m = rest-long in
          let t = times 1 (z.n + z.d + 1 - r) z.l (omega arith) in
          let a = length_part (start_of z r) (bytes_of z) f B.held in
          let e : be16 (rest_from f z r) 0 ≡ 0 =
          number-part big 2 (start_of z r) (bytes_of z) f 0 (omega arith) ∙ sym (number-part big 2 (start_of z r) (start_of z r + z.l) f 0 (omega arith))
          ∙ ap (λ (s : List ℕ). be16 s 0) h ∙ number-zeros big 2 z.l 0 in
          rw e

      pub zeros-none : record_at f z r ≡ zeros z.l → takes_at f z r ≡ 0
      zeros-none h = classes-none (λ q. omega (arith, zeros-classes h))

-- ---- what is found in a window: memory in which only some bytes of the file were read

-- rules look at the first 48 bytes and at the length
some_same : (f g : List ℕ) (z : Sizes) (r k : ℕ) → length g ≡ length f → Alike (rest_from f z r) (rest_from g z r) 0 48 → takes_at f z r ≡ suc k → takes_at g z r ≡ suc k
some_same f g z r k len same e =
    let b = takes-facts f z r k e in
    let q = keeps-lengths b.rules in
    let l : length (rest_from g z r) ≡ length (rest_from f z r) =
    omega (arith, length-part-min (start_of z r) (bytes_of z) f, length-part-min (start_of z r) (bytes_of z) g) in
    let rules = rules-same (rest_from f z r) (rest_from g z r) same false (omega arith) (omega arith) b.rules in
    facts-takes g z r (suc k) (record { head = b.head; rest = b.rest; rules = rules; records = b.records })

-- so as many records are taken, none or some
takes_same : (f g : List ℕ) (z : Sizes) (r : ℕ) → length g ≡ length f → Alike (rest_from f z r) (rest_from g z r) 0 48 → takes_at g z r ≡ takes_at f z r
takes_same f g z r len same = go (takes_at f z r) (takes_at g z r) refl refl
  where
    go : (a b : ℕ) → takes_at f z r ≡ a → takes_at g z r ≡ b → b ≡ a
    go zero zero p q = refl
    go zero (suc k) p q = absurd (omega (arith, some_same g f z r k (sym len) (λ i lo hi. sym (same i lo hi)) q))
    go (suc k) b p q = sym q ∙ some_same f g z r k len same p

-- of record r both have the same first 56 bytes, or neither has 13 to 15 classes there
abbrev pub Windowed : List ℕ → List ℕ → Sizes → ℕ → Type 0
Windowed f g z r =
    Alike f g (start_of z r) (start_of z r + 56) ⊎ ((Rule2 (classes_of (rest_from f z r)) → ⊥) × (Rule2 (classes_of (rest_from g z r)) → ⊥))

module _ (f g : List ℕ) {z : Sizes} (B : Booted f z) (len : length g ≡ length f) (window : (r : ℕ) → z.n < r → r ≤ z.n + z.d → Windowed f g z r) where
  -- the bytes of a record, in the run that it begins
  rest-alike : (r : ℕ) → 1 ≤ r → r ≤ z.n + z.d → Alike f g (start_of z r) (start_of z r + 56) → Alike (rest_from f z r) (rest_from g z r) 0 56
  rest-alike r low high h i lo hi =
      let l = B.ranged.shape.l_low in
      let m = rest-long f z r B low high in
      let t = times 1 (z.n + z.d + 1 - r) z.l (omega arith) in
      let d : i < bytes_of z - start_of z r = omega (arith, length_part (start_of z r) (bytes_of z) f B.held) in
      part_at (start_of z r) (bytes_of z) g i d ∙ h (start_of z r + i) (omega arith) (omega arith) ∙ sym (part_at (start_of z r) (bytes_of z) f i d)

  -- the same is said at a record
  here-same : (r : ℕ) (from : ℕ → List Find) → z.n < r → r ≤ z.n + z.d → go_on g z r (takes_at g z r) from ≡ go_on f z r (takes_at f z r) from
  here-same r from low high =
      ⊎_elim
      (λ h.
      let s = rest-alike r (omega arith) high h in
      go (number_same big 8 (rest_from f z r) (rest_from g z r) 0 56 48 s (omega arith) (omega arith)) (takes_at g z r)
      ∙ ap (λ (k : ℕ). go_on f z r k from) (takes_same f g z r len (alike-within (rest_from f z r) (rest_from g z r) (omega arith) (omega arith) s)))
      (λ h. rw (classes-none f z r h.0, classes-none g z r h.1))
      (window r low high)
    where
      go : be64 (rest_from g z r) 48 ≡ be64 (rest_from f z r) 48 → (k : ℕ) → go_on g z r k from ≡ go_on f z r k from
      go e zero = refl
      go e (suc k) = ap (λ (x : ℕ). record { first = r; last = r + k; scan = x } ∷ from (r + suc k)) e

  -- and from a record on
  turns_same : (k r : ℕ) → z.n < r → find_turns g z k r ≡ find_turns f z k r
  unfolding find_turns
  turns_same zero r low = refl
  turns_same (suc k) r low =
      ⊎_elim (λ h. rw (lt-ltb (z.n + z.d) r h))
      (λ h.
      rw (le-ltb (z.n + z.d) r h)
      (here-same r (find_turns g z k) low h ∙ go_same f z r (takes_at f z r) (find_turns g z k) (find_turns f z k) (λ j l. turns_same k j (omega arith))))
      (lt-or-ge (z.n + z.d) r)

  -- the same is found
  pub window-found : find_of g z ≡ find_of f z
  window-found = find-from g z ∙ turns_same (z.n + z.d + 1 - (z.n + 1)) (z.n + 1) (omega arith) ∙ sym (find-from f z)

  module _ (head : Alike f g 0 32) (out : List ℕ) where
    -- whatever is made of what is found, where the bootstrap is in order
    judged-same : {A : Type 0} (refuse : Refusal → A) (put : List Find → A)
        → judge refuse (find_checks g out) (put (find_of g (sizes_of g))) ≡ judge refuse (find_checks f out) (put (find_of f (sizes_of f)))
    judged-same {A} refuse put =
        let room : List Find → List (Check Refusal) = λ xs. check (ltb (length out) (3 * length xs)) TooSmall ∷ [] in
        let own : List Find → A = λ xs. judge refuse (room xs) (put xs) in
        let by : (h : List ℕ) → Booted h z → judge refuse (find_checks h out) (put (find_of h (sizes_of h))) ≡ own (find_of h z) =
        λ h b.
        let xs : List Find = find_of h (sizes_of h) in
        ap (answer refuse (put xs)) (clear-append (boot_checks h) (room xs) (booted-clear b)) ∙ ap (λ (y : Sizes). own (find_of h y)) b.reads in
        by g (booted-same f g len head B) ∙ ap own window-found ∙ sym (by f B)

    -- and the search answers and writes the same
    pub window-finds : (report_of g out ≡ report_of f out) × (report_out g out ≡ report_out f out)
    unfolding report_of report_out
    window-finds = (judged-same Err (λ xs. Ok (length xs)), judged-same (λ r. out) (λ xs. write out 0 (find_lines xs)))
