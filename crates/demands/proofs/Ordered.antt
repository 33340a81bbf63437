-- Checks in a row against a row of facts: the check that fires is the first fact that does not hold, and none fires where all hold.
use Prim.Native.Nat.{ℕ, ◌+◌, ◌-◌, ◌≤◌, ◌<◌}
use mathlib.Core.Path.{◌≡◌, refl, sym, ◌∙◌, ap}
use mathlib.Core.Bool.{Bool, true, false}
use mathlib.Core.List.{List, [], ◌∷◌, ◌++◌}
use native.Mathlib.Omega.{arith}
use borrow.Author.Tests.{ltb-true, ltb-false, eqb-true, eqb-false, lt-ltb, not-true, not-false}
use lib.Dec.{ltb}
use lib.ListN.{length}
use Rattle.lent.specs.Checks.{Check, check, Fired, clear, fires, fired, answer, judge}
use Rattle.lent.specs.Least.{least}
use Rattle.lent.proofs.Lists.{true≢false, not_so, is-so}
use Rattle.lent.proofs.Leasts.{lowest-least, least-lowest, none-least, none-test}
use Rattle.lent.proofs.Checks.{clear≢fires, fires-same, fires-here, cons-clear}
use Rattle.paper.specs.declared.sizes.Sizes.{Sizes}
use Rattle.paper.specs.declared.sizes.Run.{Run}
use Rattle.paper.specs.declared.refusal.Refusal.{Refusal}
use Rattle.paper.specs.declared.refusal.Refusal.TheVariants.{TooShort}
use Rattle.paper.specs.Refusals.{Says, refuses}
use Rattle.paper.specs.Sizes.{sizes_of, capacity_of, bytes_of, size_checks, word_checks, boot_checks, Ranged}
use Rattle.paper.specs.Index.{run_of, shares, sharer, bad_at, above_at, shared_at, lowest, index_checks, open_checks, change_checks, Lies, Laid, Booted, Sound}
use Rattle.paper.proofs.Opening.{range-facts, facts-range, good-lies, lies-good, above_facts, facts_above, shared-facts, shares-common, common-shares, share-facts}
use Rattle.paper.proofs.Answers.{refusal-only, number-some}
use Rattle.demands.specs.Causes.{Row, end, asks, asks_each, only_if, amiss, passed, named, none, Given, Met, Shared, IndexRow, SizeRow, BootRow, WordRow, OpenRow, ChangeRow}
use Rattle.demands.specs.Truth.{Told}

-- the checks say what the row says
pub record Meets (cs : List (Check Refusal)) (row : Row) : Type 0 where
  pub fires-so : (r : Refusal) → fired cs ≡ fires r → Given row r
  pub so-fires : (r : Refusal) → Given row r → fired cs ≡ fires r
  pub clear-so : fired cs ≡ clear → Met row
  pub so-clear : Met row → fired cs ≡ clear

-- ---- one check, one fact

pub nothing : Meets [] end
nothing = record { fires-so = λ r e. clear≢fires clear r refl e; so-fires = λ r h. absurd h; clear-so = λ e. tt; so-clear = λ h. refl }

-- the test fires where the fact does not hold; what follows may lean on the fact
pub one : {t : Bool} {q : Refusal} {cs : List (Check Refusal)} {Good : Type 0} {row : Row} → (t ≡ true → Good → ⊥) → (t ≡ false → Good)
    → (Good → Meets cs row) → Meets (check t q ∷ cs) (asks Good q row)
one {t} {q} {cs} {Good} {row} bad good k =
    record {
      fires-so = λ r. fires-go r t refl;
      so-fires = so-go;
      clear-so = clear-go t refl;
      so-clear = λ h. cons-clear t q cs (quiet h.0) ((k h.0).so-clear h.1);
    }
  where
    quiet : Good → t ≡ false
    quiet g = not_so (λ e. bad e g)

    fires-go : (r : Refusal) (b : Bool) → t ≡ b → fired (check b q ∷ cs) ≡ fires r → Given (asks Good q row) r
    fires-go r true h e = amiss (bad h) (sym (fires-same (fires q) q r refl e))
    fires-go r false h e = passed (good h) ((k (good h)).fires-so r e)

    so-go : (r : Refusal) → Given (asks Good q row) r → fired (check t q ∷ cs) ≡ fires r
    so-go r (amiss n e) = fires-here t q cs (is-so (λ h. n (good h))) ∙ ap fires (sym e)
    so-go r (passed g x) = rw (quiet g) ((k g).so-fires r x)

    clear-go : (b : Bool) → t ≡ b → fired (check b q ∷ cs) ≡ clear → Met (asks Good q row)
    clear-go true h e = absurd (clear≢fires (fires q) q e refl)
    clear-go false h e = (good h, (k (good h)).clear-so e)

-- a test of a number that is to be no lower than another
pub at_least : {q : Refusal} {cs : List (Check Refusal)} {row : Row} (n low : ℕ) → (low ≤ n → Meets cs row) → Meets (check (ltb n low) q ∷ cs) (asks (low ≤ n) q row)
at_least n low k = one (λ t h. omega (arith, ltb-true n low t)) (ltb-false n low) k

-- a test of each number from 1 to n
pub each : {q : ℕ → Refusal} {cs : List (Check Refusal)} {Good : ℕ → Type 0} {row : Row} (p : ℕ → Bool) (n : ℕ)
    → ((s : ℕ) → 1 ≤ s → s ≤ n → p s ≡ true → Good s → ⊥) → ((s : ℕ) → 1 ≤ s → s ≤ n → p s ≡ false → Good s)
    → (((s : ℕ) → 1 ≤ s → s ≤ n → Good s) → Meets cs row) → Meets (lowest p n q ∷ cs) (asks_each Good n q row)
each {q} {cs} {Good} {row} p n bad good k =
    record {
      fires-so = λ r. fires-go r (ltb 0 (least p n)) refl;
      so-fires = so-go;
      clear-so = clear-go (ltb 0 (least p n)) refl;
      so-clear = λ h. cons-clear (ltb 0 (least p n)) (q (least p n)) cs (quiet h.0) ((k h.0).so-clear h.1);
    }
  where
    quiet : ((s : ℕ) → 1 ≤ s → s ≤ n → Good s) → ltb 0 (least p n) ≡ false
    quiet g = none-test p n (λ s a b e. bad s a b e (g s a b))

    all-good : ltb 0 (least p n) ≡ false → (s : ℕ) → 1 ≤ s → s ≤ n → Good s
    all-good h s a b = good s a b ((none-least {p = p} {n = n} (omega (arith, ltb-false 0 (least p n) h))).none s a b)

    fires-go : (r : Refusal) (t : Bool) → ltb 0 (least p n) ≡ t → fired (check t (q (least p n)) ∷ cs) ≡ fires r → Given (asks_each Good n q row) r
    fires-go r true h e =
        let l = lowest-least {p = p} {n = n} refl (ltb-true 0 (least p n) h) in
        named (least p n)
        (record {
          low = l.low;
          high = l.high;
          amiss = bad (least p n) l.low l.high l.takes;
          below = λ t a b. good t a (omega (arith, l.high)) (l.below t a b);
        })
        (sym (fires-same (fires (q (least p n))) (q (least p n)) r refl e))
    fires-go r false h e = none (all-good h) ((k (all-good h)).fires-so r e)

    so-go : (r : Refusal) → Given (asks_each Good n q row) r → fired (lowest p n q ∷ cs) ≡ fires r
    so-go r (named s l e) =
        let m : least p n ≡ s =
        least-lowest
        (record {
          low = l.low;
          high = l.high;
          takes = is-so (λ h. l.amiss (good s l.low l.high h));
          below = λ t a b. not_so (λ h. bad t a (omega (arith, l.high)) h (l.below t a b));
        }) in
        fires-here (ltb 0 (least p n)) (q (least p n)) cs (lt-ltb 0 (least p n) (omega (arith, l.low))) ∙ ap (λ (x : ℕ). fires (q x)) m ∙ ap fires (sym e)
    so-go r (none g x) = rw (quiet g) ((k g).so-fires r x)

    clear-go : (t : Bool) → ltb 0 (least p n) ≡ t → fired (check t (q (least p n)) ∷ cs) ≡ clear → Met (asks_each Good n q row)
    clear-go true h e = absurd (clear≢fires (fires (q (least p n))) (q (least p n)) e refl)
    clear-go false h e = (all-good h, (k (all-good h)).clear-so e)

-- what is asked for only where P holds: where it does, and where it does not
pub asked-so : {P : Type 0} {cs : List (Check Refusal)} {row : Row} → P → Meets cs row → Meets cs (only_if P row)
asked-so p m = record { fires-so = λ r e. (p, m.fires-so r e); so-fires = λ r h. m.so-fires r h.1; clear-so = λ e h. m.clear-so e; so-clear = λ h. m.so-clear (h p) }

pub not_asked : {P : Type 0} {row : Row} → (P → ⊥) → Meets [] (only_if P row)
not_asked n =
    record { fires-so = λ r e. absurd (clear≢fires clear r refl e); so-fires = λ r h. absurd (n h.0); clear-so = λ e h. absurd (n h); so-clear = λ h. refl }

-- ---- what a call that judges by such checks says

pub told : {A : Type 0} (says : A → Says) (refuse : Refusal → A) (a : A) {cs : List (Check Refusal)} {row : Row} → ((r : Refusal) → says (refuse r) ≡ refuses r)
    → (says a).number ≡ 0 → Meets cs row → Told (says (judge refuse cs a)) row
told says refuse a {cs} {row} denies grants m =
    record {
      refused_so = λ r e. m.fires-so r (which r (fired cs) e);
      so_refused = λ r h. ap (λ (x : Fired Refusal). says (answer refuse a x)) (m.so-fires r h) ∙ denies r;
      accepted_so = λ e. m.clear-so (quiet (fired cs) e);
      so_accepted = λ h. ap (λ (x : Fired Refusal). (says (answer refuse a x)).number) (m.so-clear h) ∙ grants;
    }
  where
    which : (r : Refusal) (x : Fired Refusal) → says (answer refuse a x) ≡ refuses r → x ≡ fires r
    which r clear e = absurd (number-some r (sym (ap (λ (s : Says). s.number) e) ∙ grants))
    which r (fires q) e = ap fires (refusal-only q r (sym (denies q) ∙ e))

    quiet : (x : Fired Refusal) → (says (answer refuse a x)).number ≡ 0 → x ≡ clear
    quiet clear e = refl
    quiet (fires r) e = absurd (number-some r (sym (ap (λ (s : Says). s.number) (denies r)) ∙ e))

-- ---- 6 to 8

module _ (z : Sizes) (run : ℕ → Run) where
  -- a record in common, of entries that lie
  shared-is : ((s : ℕ) → 1 ≤ s → s ≤ z.u → Lies z (run s)) → (s : ℕ) → 1 ≤ s → s ≤ z.u → shared_at run s ≡ true → Shared run s
  unfolding shared_at sharer
  shared-is lies s a b e =
      let p : ℕ → Bool = λ t. shares (run s) (run t) in
      let l = lowest-least {p = p} {n = s - 1} refl (ltb-true 0 (least p (s - 1)) e) in
      let o : ℕ = least p (s - 1) in
      let c = shares-common (run s) (run o) z (lies s a b) (lies o l.low (omega (arith, l.high))) (share-facts (run s) (run o) l.takes) in
      record {
        other = o;
        low = l.low;
        smaller = omega (arith, l.high, l.low);
        at = c.at;
        counted = omega (arith, c.past);
        here = (c.from-r, c.to-r);
        there = (c.from-t, c.to-t);
      }

  not-shared : (s : ℕ) → shared_at run s ≡ false → Shared run s → ⊥
  not-shared s e h =
      shared-facts run s e h.other h.low h.smaller (common-shares (run s) (run h.other) h.at h.counted h.here.0 h.here.1 h.there.0 h.there.1)

  -- what the facts of 6 to 8 come to
  laid : ((s : ℕ) → 1 ≤ s → s ≤ z.u → Lies z (run s)) → ((s : ℕ) → 1 ≤ s → s ≤ capacity_of z → z.u < s → (run s).first + (run s).last ≡ 0)
      → ((s : ℕ) → 1 ≤ s → s ≤ z.u → Shared run s → ⊥) → Laid z run
  laid lies over alone =
      record {
        inside = lies;
        above = λ s a b. over s (omega arith) b a;
        apart = λ s t r a b c d e f g h.
            alone t (omega arith) c (record { other = s; low = a; smaller = b; at = r; counted = omega arith; here = (g, h); there = (e, f) });
      }

  -- what follows may lean on the index as laid
  pub index-row : {ds : List (Check Refusal)} {row : Row} → (Laid z run → Meets ds row) → Meets (index_checks z run ++ ds) (IndexRow z run row)
  index-row k =
      each (bad_at z run) z.u (λ s a b t h. true≢false t (lies-good z run s h)) (λ s a b. good-lies z run s)
      (λ lies.
      each (above_at z run) (capacity_of z) (λ s a b t h. true≢false t (facts_above z run s h)) (λ s a b. above_facts z run s)
      (λ over.
      each (shared_at run) z.u (λ s a b t h. h (shared-is lies s a b t)) (λ s a b. not-shared s) (λ alone. k (laid lies over alone))))

-- ---- 1 to 8

pub size-row : (len : ℕ) (z : Sizes) {ds : List (Check Refusal)} {row : Row} → (z.version ≤ 1 → Ranged z → bytes_of z ≤ len → Meets ds row)
    → Meets (size_checks len z ++ ds) (SizeRow len z row)
size-row len z k =
    at_least 1 z.version
    (λ known.
    one (λ t h. true≢false (facts-range z h) (not-true _ t)) (λ t. range-facts z (not-false _ t)) (λ range. at_least len (bytes_of z) (k known range)))

boot-row : (f : List ℕ) {ds : List (Check Refusal)} {row : Row} → 512 ≤ length f → (Booted f (sizes_of f) → Meets ds row) → Meets (word_checks f ++ ds) (BootRow f row)
boot-row f long k =
    size-row (length f) (sizes_of f) (λ known range held. k (record { reads = refl; long = long; version = known; ranged = range; held = held }))

word_row : (f : List ℕ) {ds : List (Check Refusal)} {row : Row} → 512 ≤ length f → (Sound f (sizes_of f) → Meets ds row)
    → Meets ((word_checks f ++ index_checks (sizes_of f) (run_of f (sizes_of f))) ++ ds) (WordRow f row)
word_row f long k =
    boot-row f long (λ booted. index-row (sizes_of f) (run_of f (sizes_of f)) (λ laid. k (record { booted = booted; laid = laid })))

-- a call that asks for the bootstrap alone
pub look-row : (f : List ℕ) {ds : List (Check Refusal)} {row : Row} → Meets ds row → Meets (boot_checks f ++ ds) (asks (512 ≤ length f) TooShort (BootRow f row))
look-row f k = at_least (length f) 512 (λ long. boot-row f long (λ booted. k))

pub open_row : (f : List ℕ) {ds : List (Check Refusal)} {row : Row} → (Sound f (sizes_of f) → Meets ds row) → Meets (open_checks f ++ ds) (OpenRow f row)
open_row f k = at_least (length f) 512 (λ long. word_row f long k)

pub change-row : (f : List ℕ) {ds : List (Check Refusal)} {row : Row} → (Sound f (sizes_of f) → Meets ds row) → Meets (change_checks f ++ ds) (ChangeRow f row)
change-row f k = at_least (length f) 512 (λ long. one (λ t h. h (eqb-true _ _ t)) (λ t. eqb-false _ _ t) (λ new. word_row f long k))
