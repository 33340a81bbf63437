-- A file opens exactly where it is sound: what each test of the sizes and of the index says in plain facts, both ways, and what follows for the judgements.
use Rattle.std.specs.Prelude.{Ok, Err}
use Prim.Native.Nat.{ℕ, ◌+◌, ◌-◌, ◌*◌, ◌≤◌, ◌<◌, max}
use mathlib.Core.Path.{◌≡◌, refl, sym, ◌∙◌, ap, subst}
use mathlib.Core.Bool.{true, false, not}
use mathlib.Core.List.{List, ◌∷◌, ◌++◌, Memᴰ}
use mathlib.Core.Logic.{◌≢◌, ⊎_elim}
use native.Mathlib.Omega.{arith}
use native.Mathlib.Nat.{mul-le-mul_right}
use lib.Dec.{ltb, eqb}
use lib.ListN.{length}
use borrow.Author.Tests.{ltb-true, ltb-false, leb-true, eqb-true, eqb-false, lt-ltb, le-ltb, le-leb, eq-eqb, ne_eqb, not-true, not-false}
use Rattle.lent.specs.Lists.{those}
use Rattle.lent.specs.Checks.{Check, clear, fires, fired, answer, judge}
use Rattle.lent.proofs.Lists.{All, all_true, true-all, true≢false, not_so, either, lt-or-ge, those-mem, mem-those, those-more}
use Rattle.lent.proofs.Leasts.{least-none, none-least, none-test, test-none}
use Rattle.lent.proofs.Checks.{Clear, clear-cons, cons-clear, clear-all, all-clear, clear-append, fires-append, append-clear, judge-clear, judge-fires, judged-ok, judged-err, judge-append}
use Rattle.paper.specs.declared.sizes.Sizes.{Sizes}
use Rattle.paper.specs.declared.sizes.Run.{Run}
use Rattle.paper.specs.declared.refusal.Refusal.{Refusal}
use Rattle.paper.specs.declared.refusal.Refusal.TheVariants.{TooShort, OldForm}
use Rattle.paper.specs.Answers.{Opened}
use Rattle.paper.specs.Sizes.{sizes_of, version_of, capacity_of, start_of, shape_tests, shaped, count_tests, in_range, too-short, old_form, word_checks, boot_checks, change_boot, Shaped, Ranged}
use Rattle.paper.specs.Index.{run_of, empty, Full, data_tests, in_data, bad_tests, bad_at, above_tests, above_at, share_tests, shares, sharer, shared_at, index_checks, open_checks, change_checks, boot_of, index_of, open_of, change_boot_of, change_of, slots_of, Lies, Laid, Booted, Sound, Changeable}

-- ---- the sizes

pub shaped-facts : (z : Sizes) → shaped z ≡ true → Shaped z
unfolding shaped
shaped-facts z h = let t : All (shape_tests z) = all_true (shape_tests z) h in omega (arith, leb-true, eqb-true)

pub facts-shaped : (z : Sizes) → Shaped z → shaped z ≡ true
unfolding shaped
facts-shaped z h = true-all (shape_tests z) (omega (arith, le-leb, eq-eqb))

pub range-facts : (z : Sizes) → in_range z ≡ true → Ranged z
unfolding in_range
range-facts z h =
    let t : All (shaped z ∷ count_tests z) = all_true (shaped z ∷ count_tests z) h in
    record { shape = shaped-facts z t.0; records = leb-true _ _ t.1.0; used = leb-true _ _ t.1.1.0; known = leb-true _ _ t.1.1.1.0 }

pub facts-range : (z : Sizes) → Ranged z → in_range z ≡ true
unfolding in_range
facts-range z h = true-all (shaped z ∷ count_tests z) (facts-shaped z h.shape, omega (arith, le-leb))

-- ---- an entry

module _ (r : Run) where
  pub empty-facts : empty r ≡ true → r.first + r.last ≡ 0
  unfolding empty
  empty-facts h = eqb-true _ _ h

  pub facts-empty : r.first + r.last ≡ 0 → empty r ≡ true
  unfolding empty
  facts-empty h = eq-eqb _ _ h

  pub full-facts : empty r ≡ false → Full r
  unfolding empty
  full-facts h = ⊎_elim (λ (a : Full r). a) (λ (a : r.first + r.last ≤ 0). absurd (eqb-false (r.first + r.last) 0 h (omega arith))) (lt-or-ge 0 (r.first + r.last))

  pub facts-full : Full r → empty r ≡ false
  unfolding empty
  facts-full h = ne_eqb (r.first + r.last) 0 (λ e. omega arith)

-- what `in_data z r` says
pub record InData (z : Sizes) (r : Run) : Type 0 where
  pub low : z.n < r.first
  pub order : r.first ≤ r.last
  pub high : r.last ≤ z.n + z.d

module _ (z : Sizes) (r : Run) where
  pub data-facts : in_data z r ≡ true → InData z r
  unfolding in_data
  data-facts h = let t : All (data_tests z r) = all_true (data_tests z r) h in omega (arith, ltb-true, leb-true)

  pub facts-data : InData z r → in_data z r ≡ true
  unfolding in_data
  facts-data h = true-all (data_tests z r) (omega (arith, lt-ltb, le-leb))

  -- empty or in range
  pub empty-lies : r.first + r.last ≡ 0 → Lies z r
  empty-lies h = record { low = λ k. absurd (omega arith); order = λ k. absurd (omega arith); high = omega arith }

  pub data-lies : InData z r → Lies z r
  data-lies h = record { low = λ k. h.low; order = λ k. h.order; high = h.high }

  pub lies-data : Lies z r → Full r → InData z r
  lies-data h k = record { low = h.low k; order = h.order k; high = h.high }

module _ (z : Sizes) (run : ℕ → Run) (s : ℕ) where
  -- neither empty nor in range
  pub good-lies : bad_at z run s ≡ false → Lies z (run s)
  unfolding bad_at
  good-lies h =
      ⊎_elim (λ (a : empty (run s) ≡ true). empty-lies z (run s) (empty-facts (run s) a))
      (λ (a : empty (run s) ≡ false).
      ⊎_elim (λ (b : in_data z (run s) ≡ true). data-lies z (run s) (data-facts z (run s) b))
      (λ (b : in_data z (run s) ≡ false). absurd (true≢false (true-all (bad_tests z (run s)) (ap not a, (ap not b, tt))) h))
      (either (in_data z (run s))))
      (either (empty (run s)))

  pub lies-good : Lies z (run s) → bad_at z run s ≡ false
  unfolding bad_at
  lies-good h =
      not_so (λ e.
      let t = all_true (bad_tests z (run s)) e in
      true≢false (facts-data z (run s) (lies-data z (run s) h (full-facts (run s) (not-true _ t.0)))) (not-true _ t.1.0))

  -- an entry above U is empty
  pub above_facts : above_at z run s ≡ false → z.u < s → (run s).first + (run s).last ≡ 0
  unfolding above_at
  above_facts h l =
      ⊎_elim (λ (a : empty (run s) ≡ true). empty-facts (run s) a)
      (λ (a : empty (run s) ≡ false). absurd (true≢false (true-all (above_tests z run s) (lt-ltb _ _ l, (ap not a, tt))) h))
      (either (empty (run s)))

  pub facts_above : (z.u < s → (run s).first + (run s).last ≡ 0) → above_at z run s ≡ false
  unfolding above_at
  facts_above h =
      not_so (λ e.
      let t = all_true (above_tests z run s) e in
      true≢false (facts-empty (run s) (h (ltb-true _ _ t.0))) (not-true _ t.1.0))

-- ---- two entries that share a record

-- what `shares r t` says
pub record Shares (r t : Run) : Type 0 where
  pub left : 1 ≤ r.last
  pub right : 1 ≤ t.last
  pub before : r.first ≤ t.last
  pub after : t.first ≤ r.last

-- a record past N that is in both
pub record Common (z : Sizes) (r t : Run) : Type 0 where
  pub at : ℕ
  pub past : z.n < at
  pub from-r : r.first ≤ at
  pub to-r : at ≤ r.last
  pub from-t : t.first ≤ at
  pub to-t : at ≤ t.last

module _ (r t : Run) where
  pub share-facts : shares r t ≡ true → Shares r t
  unfolding shares
  share-facts h = let k : All (share_tests r t) = all_true (share_tests r t) h in omega (arith, leb-true)

  pub facts-share : Shares r t → shares r t ≡ true
  unfolding shares
  facts-share h = true-all (share_tests r t) (omega (arith, le-leb))

  pub common-shares : (x : ℕ) → 1 ≤ x → r.first ≤ x → x ≤ r.last → t.first ≤ x → x ≤ t.last → Shares r t
  common-shares x low a b c d = omega arith

  -- the greater of the two firsts
  pub shares-common : (z : Sizes) → Lies z r → Lies z t → Shares r t → Common z r t
  shares-common z h k s =
      let a = lies-data z r h (omega arith) in
      let b = lies-data z t k (omega arith) in
      record {
        at = max r.first t.first;
        past = omega arith;
        from-r = omega arith;
        to-r = omega arith;
        from-t = omega arith;
        to-t = omega arith;
      }

pub sharer-none : (run : ℕ → Run) (r : Run) (n : ℕ) → sharer run r n ≡ 0 → (t : ℕ) → 1 ≤ t → t ≤ n → Shares r (run t) → ⊥
unfolding sharer
sharer-none run r n e t a b h = true≢false (facts-share r (run t) h) ((none-least e).none t a b)

pub none-sharer : (run : ℕ → Run) (r : Run) (n : ℕ) → ((t : ℕ) → 1 ≤ t → t ≤ n → Shares r (run t) → ⊥) → sharer run r n ≡ 0
unfolding sharer
none-sharer run r n h = least-none (record { none = λ t a b. not_so (λ e. h t a b (share-facts r (run t) e)) })

module _ (run : ℕ → Run) (s : ℕ) where
  pub shared-facts : shared_at run s ≡ false → (t : ℕ) → 1 ≤ t → t < s → Shares (run s) (run t) → ⊥
  unfolding shared_at
  shared-facts e t a b = sharer-none run (run s) (s - 1) (omega (arith, ltb-false 0 (sharer run (run s) (s - 1)) e)) t a (omega arith)

  pub facts-shared : ((t : ℕ) → 1 ≤ t → t < s → Shares (run s) (run t) → ⊥) → shared_at run s ≡ false
  unfolding shared_at
  facts-shared h =
      le-ltb 0 (sharer run (run s) (s - 1)) (omega (arith, none-sharer run (run s) (s - 1) (λ t a b. h t a (omega arith))))

  pub empty-apart : (run s).first + (run s).last ≡ 0 → shared_at run s ≡ false
  empty-apart e = facts-shared (λ t a b h. omega arith)

-- ---- the judgements: of the bootstrap

-- a judgement that opens has come through its checks, and one that refuses was refused by them
module _ (cs : List (Check Refusal)) (y : Sizes) where
  pub opens-clear : (z : Sizes) → judge Err cs (Ok y) ≡ Ok z → (fired cs ≡ clear) × (y ≡ z)
  opens-clear z e = judged-ok cs y e

  pub refused-fires : (r : Refusal) → judge Err cs (Ok y) ≡ Err r → fired cs ≡ fires r
  refused-fires r e = judged-err cs y e

  -- and what checks after these come to
  refused-then : {r : Refusal} (ds : List (Check Refusal)) → judge Err cs (Ok y) ≡ Err r → fired (cs ++ ds) ≡ fires r
  refused-then {r} ds e = fires-append cs ds r (refused-fires r e)

  opens-then : {z : Sizes} (ds : List (Check Refusal)) → judge Err cs (Ok y) ≡ Ok z → fired (cs ++ ds) ≡ fired ds
  opens-then {z} ds e = clear-append cs ds (opens-clear z e).0

boot-facts : (f : List ℕ) → Clear (boot_checks f) → Booted f (sizes_of f)
boot-facts f c =
    record {
      reads = refl;
      long = ltb-false _ _ c.0;
      version = ltb-false _ _ c.1.0;
      ranged = range-facts (sizes_of f) (not-false _ c.1.1.0);
      held = ltb-false _ _ c.1.1.1.0;
    }

facts-boot : (f : List ℕ) → Booted f (sizes_of f) → Clear (boot_checks f)
facts-boot f b = (
  le-ltb _ _ b.long,
  (le-ltb _ _ b.version, (ap not (facts-range (sizes_of f) b.ranged), (le-ltb _ _ b.held, tt))),
)

module _ {f : List ℕ} {z : Sizes} where
  pub boot-sound : boot_of f ≡ Ok z → Booted f z
  unfolding boot_of
  boot-sound e =
      let p = opens-clear (boot_checks f) (sizes_of f) z e in
      subst (λ (y : Sizes). Booted f y) p.1 (boot-facts f (clear-all (boot_checks f) p.0))

  pub booted-clear : Booted f z → fired (boot_checks f) ≡ clear
  booted-clear b = all-clear (boot_checks f) (facts-boot f (subst (λ (y : Sizes). Booted f y) (sym b.reads) b))

  pub sound-boot : Booted f z → boot_of f ≡ Ok z
  unfolding boot_of
  sound-boot b = judge-clear Err (boot_checks f) (Ok (sizes_of f)) (booted-clear b) ∙ ap Ok b.reads

pub boot-fires : (f : List ℕ) {r : Refusal} → boot_of f ≡ Err r → fired (boot_checks f) ≡ fires r
unfolding boot_of
boot-fires f {r} e = refused-fires (boot_checks f) (sizes_of f) r e

-- ---- of an index

module _ {z : Sizes} {run : ℕ → Run} where
  clear-laid : Clear (index_checks z run) → Laid z run
  clear-laid c =
      record {
        inside = inside;
        above = λ s a b. above_facts z run s (not_so (test-none (above_at z run) _ c.1.0 s (omega arith) (omega arith))) a;
        apart = λ s t r a b d n h i j k.
            shared-facts run t (not_so (test-none (shared_at run) z.u c.1.1.0 t (omega arith) d)) s a b
            (common-shares (run t) (run s) r (omega arith) j k h i);
      }
    where
      inside : (s : ℕ) → 1 ≤ s → s ≤ z.u → Lies z (run s)
      inside s a b = good-lies z run s (not_so (test-none (bad_at z run) z.u c.0 s a b))

  laid-clear : Laid z run → Clear (index_checks z run)
  laid-clear h = (
    none-test (bad_at z run) z.u (λ s a b e. true≢false e (lies-good z run s (h.inside s a b))),
    (
      none-test (above_at z run) _ (λ s a b e. true≢false e (facts_above z run s (λ l. h.above s l (omega arith)))),
      (none-test (shared_at run) z.u (λ t a b e. true≢false e (facts-shared run t (apart t a b))), tt),
    ),
  )
    where
      apart : (t : ℕ) → 1 ≤ t → t ≤ z.u → (s : ℕ) → 1 ≤ s → s < t → Shares (run t) (run s) → ⊥
      apart t a b s c d k =
          let x = shares-common (run t) (run s) z (h.inside t a b) (h.inside s c (omega arith)) k in
          h.apart s t x.at c d b x.past x.from-t x.to-t x.from-r x.to-r

  pub index-laid : index_of z run ≡ Ok z → Laid z run
  unfolding index_of
  index-laid e = clear-laid (clear-all (index_checks z run) (opens-clear (index_checks z run) z z e).0)

  pub laid-index : Laid z run → index_of z run ≡ Ok z
  unfolding index_of
  laid-index h = judge-clear Err (index_checks z run) (Ok z) (all-clear (index_checks z run) (laid-clear h))

-- an index opens with the sizes that it was judged with
pub index_same : (y z : Sizes) (run : ℕ → Run) → index_of y run ≡ Ok z → y ≡ z
unfolding index_of
index_same y z run e = (opens-clear (index_checks y run) y z e).1

-- ---- of a file: the two in a row

-- whatever is asked of the bootstrap
module _ (f : List ℕ) (bs : List (Check Refusal)) where
  abbrev whole : Opened
  whole = judge Err (bs ++ index_checks (sizes_of f) (run_of f (sizes_of f))) (Ok (sizes_of f))

  both : whole ≡ judge Err bs (index_of (sizes_of f) (run_of f (sizes_of f)))
  unfolding index_of
  both = judge-append Err bs (index_checks (sizes_of f) (run_of f (sizes_of f))) (Ok (sizes_of f))

  both-refused : {r : Refusal} → judge Err bs (Ok (sizes_of f)) ≡ Err r → whole ≡ Err r
  both-refused {r} e = both ∙ judge-fires Err bs _ r (refused-fires bs (sizes_of f) r e)

  both-index : {z : Sizes} → judge Err bs (Ok (sizes_of f)) ≡ Ok z → whole ≡ index_of z (run_of f z)
  both-index {z} e =
      let p = opens-clear bs (sizes_of f) z e in
      both ∙ judge-clear Err bs _ p.0 ∙ subst (λ (y : Sizes). index_of (sizes_of f) (run_of f (sizes_of f)) ≡ index_of y (run_of f y)) p.1 refl

pub open-refused : (f : List ℕ) {r : Refusal} → boot_of f ≡ Err r → open_of f ≡ Err r
unfolding boot_of open_of
open-refused f e = both-refused f (boot_checks f) e

pub open-index : (f : List ℕ) {z : Sizes} → boot_of f ≡ Ok z → open_of f ≡ index_of z (run_of f z)
unfolding boot_of open_of
open-index f e = both-index f (boot_checks f) e

-- what the checks of a file came to
module _ (f : List ℕ) where
  pub open-clear : {z : Sizes} → open_of f ≡ Ok z → fired (open_checks f) ≡ clear
  unfolding open_of
  open-clear {z} e = (opens-clear (open_checks f) (sizes_of f) z e).0

  pub open-reads : {z : Sizes} → open_of f ≡ Ok z → sizes_of f ≡ z
  unfolding open_of
  open-reads {z} e = (opens-clear (open_checks f) (sizes_of f) z e).1

  pub clear-open : fired (open_checks f) ≡ clear → open_of f ≡ Ok (sizes_of f)
  unfolding open_of
  clear-open e = judge-clear Err (open_checks f) (Ok (sizes_of f)) e

  pub open-fires : {r : Refusal} → open_of f ≡ Err r → fired (open_checks f) ≡ fires r
  unfolding open_of
  open-fires {r} e = refused-fires (open_checks f) (sizes_of f) r e

  -- a call that has checks of its own after these
  pub then-refused : {r : Refusal} (ds : List (Check Refusal)) → open_of f ≡ Err r → fired (open_checks f ++ ds) ≡ fires r
  unfolding open_of
  then-refused ds e = refused-then (open_checks f) (sizes_of f) ds e

  pub then-opens : {z : Sizes} (ds : List (Check Refusal)) → open_of f ≡ Ok z → fired (open_checks f ++ ds) ≡ fired ds
  unfolding open_of
  then-opens ds e = opens-then (open_checks f) (sizes_of f) ds e

  pub then-clear : (ds : List (Check Refusal)) → fired (open_checks f ++ ds) ≡ clear → (open_of f ≡ Ok (sizes_of f)) × (fired ds ≡ clear)
  then-clear ds e = let p = append-clear (open_checks f) ds e in (clear-open p.0, p.1)

module _ {f : List ℕ} {z : Sizes} where
  pub open-sound : open_of f ≡ Ok z → Sound f z
  open-sound e =
      let c = append-clear (boot_checks f) (index_checks (sizes_of f) (run_of f (sizes_of f))) (open-clear f e) in
      subst (λ (y : Sizes). Sound f y) (open-reads f e)
      (record { booted = boot-facts f (clear-all (boot_checks f) c.0); laid = clear-laid (clear-all (index_checks (sizes_of f) (run_of f (sizes_of f))) c.1) })

  pub sound-open : Sound f z → open_of f ≡ Ok z
  sound-open s = open-index f (sound-boot s.booted) ∙ laid-index s.laid

-- ---- may be changed

module _ (f : List ℕ) where
  -- what both ask after 1 and 2
  abbrev rest_checks : List (Check Refusal)
  rest_checks = word_checks f ++ index_checks (sizes_of f) (run_of f (sizes_of f))

  -- an old file is refused with 2, once it is long enough to tell
  pub change-old : (ds : List (Check Refusal)) → 512 ≤ length f → version_of f ≡ 0 → fired (change_checks f ++ ds) ≡ fires OldForm
  change-old ds a v = rw (le-ltb _ _ a, eq-eqb _ _ v)

  -- of any other file a change asks what a look asks
  change-other : (cs : List (Check Refusal)) → (512 ≤ length f → version_of f ≡ 0 → ⊥) → fired (too-short f ∷ old_form f ∷ cs) ≡ fired (too-short f ∷ cs)
  change-other cs h =
      ⊎_elim (λ (a : length f < 512). rw (lt-ltb _ _ a)) (λ (a : 512 ≤ length f). rw (le-ltb _ _ a, ne_eqb (version_of f) 0 (h a))) (lt-or-ge (length f) 512)

  pub change-look : (ds : List (Check Refusal)) → (512 ≤ length f → version_of f ≡ 0 → ⊥) → fired (change_checks f ++ ds) ≡ fired (open_checks f ++ ds)
  change-look ds h = change-other (rest_checks ++ ds) h

  -- so that it is judged as for a look, and its bootstrap too
  pub old-boot : 512 ≤ length f → version_of f ≡ 0 → change_boot_of f ≡ Err OldForm
  unfolding change_boot_of
  old-boot a v = judge-fires Err (change_boot f) (Ok (sizes_of f)) OldForm (rw (le-ltb _ _ a, eq-eqb _ _ v))

  pub other_boot : (512 ≤ length f → version_of f ≡ 0 → ⊥) → change_boot_of f ≡ boot_of f
  unfolding change_boot_of boot_of
  other_boot h = ap (answer Err (Ok (sizes_of f))) (change-other (word_checks f) h)

  pub old-file : 512 ≤ length f → version_of f ≡ 0 → change_of f ≡ Err OldForm
  unfolding change_of
  old-file a v = judge-fires Err (change_checks f) (Ok (sizes_of f)) OldForm (rw (le-ltb _ _ a, eq-eqb _ _ v))

  pub other-file : (512 ≤ length f → version_of f ≡ 0 → ⊥) → change_of f ≡ open_of f
  unfolding change_of open_of
  other-file h = ap (answer Err (Ok (sizes_of f))) (change-other rest_checks h)

  -- what the judgement came to
  pub change-reads : {z : Sizes} → change_of f ≡ Ok z → sizes_of f ≡ z
  unfolding change_of
  change-reads {z} e = (opens-clear (change_checks f) (sizes_of f) z e).1

  pub change-then-refused : {r : Refusal} (ds : List (Check Refusal)) → change_of f ≡ Err r → fired (change_checks f ++ ds) ≡ fires r
  unfolding change_of
  change-then-refused ds e = refused-then (change_checks f) (sizes_of f) ds e

  pub change-then-opens : {z : Sizes} (ds : List (Check Refusal)) → change_of f ≡ Ok z → fired (change_checks f ++ ds) ≡ fired ds
  unfolding change_of
  change-then-opens ds e = opens-then (change_checks f) (sizes_of f) ds e

  pub change-refused : {r : Refusal} → change_boot_of f ≡ Err r → change_of f ≡ Err r
  unfolding change_boot_of change_of
  change-refused e = both-refused f (change_boot f) e

  pub change-index : {z : Sizes} → change_boot_of f ≡ Ok z → change_of f ≡ index_of z (run_of f z)
  unfolding change_boot_of change_of
  change-index e = both-index f (change_boot f) e

  -- it may be changed where it opens and is not old
  change-clear : (cs : List (Check Refusal)) → fired (too-short f ∷ old_form f ∷ cs) ≡ clear → (fired (too-short f ∷ cs) ≡ clear) × (version_of f ≢ 0)
  change-clear cs e =
      let p = clear-cons (ltb (length f) 512) TooShort (old_form f ∷ cs) e in
      let q = clear-cons (eqb (version_of f) 0) OldForm cs p.1 in
      (cons-clear (ltb (length f) 512) TooShort cs p.0 q.1, eqb-false _ _ q.0)

  pub boot-changes : {z : Sizes} → change_boot_of f ≡ Ok z → Booted f z
  unfolding change_boot_of
  boot-changes {z} e =
      let p = opens-clear (change_boot f) (sizes_of f) z e in
      subst (λ (y : Sizes). Booted f y) p.1 (boot-facts f (clear-all (boot_checks f) (change-clear (word_checks f) p.0).0))

  -- the bootstrap alone
  pub change-booted : fired (change_boot f) ≡ clear → Booted f (sizes_of f) × (version_of f ≡ 1)
  change-booted e =
      let p = change-clear (word_checks f) e in
      let b = boot-facts f (clear-all (boot_checks f) p.0) in
      (b, omega (arith, b.version, p.1))

  pub booted-change : {z : Sizes} → Booted f z → version_of f ≡ 1 → fired (change_boot f) ≡ clear
  booted-change b v = change-other (word_checks f) (λ a e. omega arith) ∙ booted-clear b

  pub change-sound : {z : Sizes} → change_of f ≡ Ok z → Sound f z
  unfolding change_of
  change-sound {z} e =
      let p = opens-clear (change_checks f) (sizes_of f) z e in
      subst (λ (y : Sizes). Sound f y) p.1 (open-sound (clear-open f (change-clear rest_checks p.0).0))

  pub may-change : (ds : List (Check Refusal)) → fired (change_checks f ++ ds) ≡ clear → Changeable f (sizes_of f) × (fired ds ≡ clear)
  may-change ds e =
      let p = change-clear (rest_checks ++ ds) e in
      let q = then-clear f ds p.0 in
      let s = open-sound q.0 in
      (record { sound = s; current = omega (arith, s.booted.version, p.1) }, q.1)

  pub change-may : (ds : List (Check Refusal)) → Changeable f (sizes_of f) → fired (change_checks f ++ ds) ≡ fired ds
  change-may ds c = change-look ds (λ a v. omega (arith, c.current)) ∙ then-opens f ds (sound-open c.sound)

-- ---- up to U and up to capacity

-- slot s has a scan
pub record Holds (z : Sizes) (run : ℕ → Run) (s : ℕ) : Type 0 where
  pub low : 1 ≤ s
  pub high : s ≤ z.u
  pub full : Full (run s)

module _ (z : Sizes) (run : ℕ → Run) where
  pub slots-holds : (s : ℕ) → Memᴰ s (slots_of z run) → Holds z run s
  unfolding slots_of
  slots-holds s m =
      let t = those-mem (λ (s : ℕ). not (empty (run s))) z.u s m in
      record { low = t.low; high = t.high; full = full-facts (run s) (not-true _ t.takes) }

  pub holds-slots : (s : ℕ) → Holds z run s → Memᴰ s (slots_of z run)
  unfolding slots_of
  holds-slots s h = mem-those (λ (s : ℕ). not (empty (run s))) z.u s (record { low = h.low; high = h.high; takes = ap not (facts-full (run s) h.full) })

-- what is known of the entries up to U holds of all
module _ {z : Sizes} {run : ℕ → Run} (L : Laid z run) where
  pub slots-all : z.u ≤ capacity_of z → slots_of z run ≡ those (λ s. not (empty (run s))) (capacity_of z)
  unfolding slots_of
  slots-all h = those-more (λ s. not (empty (run s))) z.u (capacity_of z) h (λ s a b. ap not (facts-empty (run s) (L.above s a b)))

  pub full-holds : (s : ℕ) → 1 ≤ s → s ≤ capacity_of z → Full (run s) → Holds z run s
  full-holds s a b f = ⊎_elim (λ (h : z.u < s). absurd (omega (arith, L.above s h b))) (λ (h : s ≤ z.u). record { low = a; high = h; full = f }) (lt-or-ge z.u s)

  pub inside-all : (s : ℕ) → 1 ≤ s → s ≤ capacity_of z → Lies z (run s)
  inside-all s a b = ⊎_elim (λ (h : z.u < s). empty-lies z (run s) (L.above s h b)) (λ (h : s ≤ z.u). L.inside s a h) (lt-or-ge z.u s)

  apart-less : (s t r : ℕ) → 1 ≤ s → s < t → t ≤ capacity_of z → z.n < r → (run s).first ≤ r → r ≤ (run s).last → (run t).first ≤ r → r ≤ (run t).last → ⊥
  apart-less s t r h i j n a b c d =
      ⊎_elim (λ (k : z.u < t). omega (arith, L.above t k j)) (λ (k : t ≤ z.u). L.apart s t r h i k n a b c d) (lt-or-ge z.u t)

  pub apart-all : (s t r : ℕ) → 1 ≤ s → s ≤ capacity_of z → 1 ≤ t → t ≤ capacity_of z → s ≢ t → z.n < r → (run s).first ≤ r → r ≤ (run s).last
      → (run t).first ≤ r → r ≤ (run t).last → ⊥
  apart-all s t r s₁ s₂ t₁ t₂ e n a b c d =
      ⊎_elim (λ (h : s < t). apart-less s t r s₁ h t₂ n a b c d)
      (λ (h : t ≤ s). ⊎_elim (λ (k : t < s). apart-less t s r t₁ k s₂ n c d a b) (λ (k : s ≤ t). e (omega arith)) (lt-or-ge t s)) (lt-or-ge s t)

-- ---- where the records of an entry lie in the file

module _ {f : List ℕ} {z : Sizes} (b : Booted f z) {r : Run} (h : Lies z r) where
  pub lies-end : r.last * z.l ≤ length f
  lies-end = omega (arith, mul-le-mul_right z.l h.high, b.held)

  -- past bootstrap and index
  pub lies-past : (i : ℕ) → start_of z r.first ≤ i → i < r.last * z.l → z.n * z.l ≤ i
  lies-past i lo hi =
      ⊎_elim (λ (k : Full r). omega (arith, mul-le-mul_right {m = z.n} {n = r.first - 1} z.l (omega (arith, h.low k))))
      (λ (k : r.first + r.last ≤ 0). let e : r.last ≡ 0 = omega arith in absurd (omega (arith, ap (λ (x : ℕ). x * z.l) e)))
      (lt-or-ge 0 (r.first + r.last))
