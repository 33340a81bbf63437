-- Demand 2, of what list, show, read, class and data answer.
use Rattle.std.specs.Prelude.{Ok, Err}
use Prim.Native.Nat.{ℕ, ◌+◌, ◌-◌, ◌*◌, ◌/◌, ◌≤◌, ◌<◌}
use mathlib.Core.Path.{◌≡◌, refl, sym, ◌∙◌, ap, subst}
use mathlib.Core.Bool.{true, false}
use mathlib.Core.List.{List, [], ◌∷◌, ◌++◌}
use native.Mathlib.Omega.{arith}
use native.Mathlib.Nat.{le-div_iff_mul-le, div-lt_iff_lt-mul}
use borrow.Author.Tests.{ltb-false, not-false}
use lib.Dec.{ltb}
use lib.ListN.{length, take, drop, get_or}
use lib.Seq.{take-take}
use Rattle.lent.specs.Number.{be16}
use Rattle.lent.specs.Lists.{threes}
use Rattle.lent.specs.Checks.{Check, check, judge}
use Rattle.lent.specs.Part.{part}
use Rattle.lent.specs.Write.{write}
use Rattle.lent.proofs.Checks.{append-clear, clear-all, judge-clear, judge-passed, judged-ok, err≢ok, ok-same}
use Rattle.lent.proofs.Parts.{length_part}
use Rattle.lent.proofs.Lists.{length-threes}
use Rattle.lent.proofs.Writes.{length-write, write-after, threes-in}
use Rattle.paper.specs.declared.sizes.Sizes.{Sizes}
use Rattle.paper.specs.declared.sizes.Run.{Run}
use Rattle.paper.specs.declared.refusal.Refusal.{Refusal}
use Rattle.paper.specs.declared.refusal.Refusal.TheVariants.{TooSmall}
use Rattle.paper.specs.Answers.{Ruled, Span}
use Rattle.paper.specs.Sizes.{sizes_of, version_of, word_at, home_of, start_of}
use Rattle.paper.specs.Index.{run_of, shown_of, open_checks, Lies, Sound}
use Rattle.paper.specs.Scan.{classes_of, starts_of, headlen, datalen, class_at, class_end, ruled_of, of_ruled, class_of, data_of, Rule, Kept}
use Rattle.paper.specs.Look.{list_of, listed_of, listed_out, slot_checks, other_scan, read_checks, show_of, read_in, read_of}
use Rattle.paper.specs.Entry.{version_one}
use Rattle.paper.proofs.Sizing.{home-is, less, times}
use Rattle.paper.proofs.Forms.{one-facts}
use Rattle.paper.proofs.Opening.{open-sound, full-holds, lies-end}
use Rattle.paper.proofs.Rules.{kept, keeps-lengths}
use Rattle.paper.proofs.Reasons.{kept_rule}
use Rattle.paper.proofs.Begins.{SlotTaken, slot-is-taken}
use Rattle.paper.proofs.Classes.{class-lies, class-next, class-last, class-here, class-below, class-above, start-at, class-in, data_is, rules-taken}
use Rattle.demands.specs.Reads.{first_at, last_at, ListLines, Shown, ShowRecords, Read, ReadScan, Tiled, ClassesTile, DataTile}

-- by record and place, or by the byte
module _ (f : List ℕ) (z : Sizes) (s : ℕ) where
  first-is : first_at f z s ≡ (run_of f z s).first
  first-is = ap (λ (x : ℕ). word_at z.version f x 0) (home-is z s)

  last-is : last_at f z s ≡ (run_of f z s).last
  last-is = ap (λ (x : ℕ). word_at z.version f x 1) (home-is z s)

-- ---- list

-- three numbers for each element, after checks and then 17: what a call that reports them answers and leaves
module _ {A : Type 0} (a b c : A → ℕ) (d : A) (cs : List (Check Refusal)) (xs : List A) (out : List ℕ) where
  abbrev report_checks : List (Check Refusal)
  report_checks = cs ++ (check (ltb (length out) (3 * length xs)) TooSmall ∷ [])

  abbrev left : List ℕ
  left = judge (λ (r : Refusal). out) report_checks (write out 0 (threes a b c xs))

  pub record Reported (n : ℕ) : Type 0 where
    pub count : n ≡ length xs
    pub one : (i : ℕ) → i < n → get_or left (3 * i) 0 ≡ a (get_or xs i d)
    pub two : (i : ℕ) → i < n → get_or left (3 * i + 1) 0 ≡ b (get_or xs i d)
    pub three : (i : ℕ) → i < n → get_or left (3 * i + 2) 0 ≡ c (get_or xs i d)
    pub beyond : (i : ℕ) → 3 * n ≤ i → get_or left i 0 ≡ get_or out i 0
    pub as_long : length left ≡ length out

  pub reported : (n : ℕ) → judge Err report_checks (Ok (length xs)) ≡ Ok n → Reported n
  reported n e =
      let ls : List ℕ = threes a b c xs in
      let p = judged-ok report_checks (length xs) e in
      let k : n ≡ length xs = sym p.1 in
      let own : List (Check Refusal) = check (ltb (length out) (3 * length xs)) TooSmall ∷ [] in
      let q = (clear-all own (append-clear cs own p.0).1).0 in
      let l = length-threes a b c xs in
      let fits : length ls ≤ length out = omega (arith, ltb-false (length out) (3 * length xs) q) in
      let w : left ≡ write out 0 ls = judge-clear (λ (r : Refusal). out) report_checks (write out 0 ls) p.0 in
      record {
        count = k;
        one = λ i h. rw w (threes-in a b c xs d out i (omega arith)).0;
        two = λ i h. rw w (threes-in a b c xs d out i (omega arith)).1;
        three = λ i h. rw w (threes-in a b c xs d out i (omega arith)).2;
        beyond = λ i h. rw w (write-after out 0 ls (omega arith) i (omega arith));
        as_long = rw w (length-write out 0 ls (omega arith));
      }

pub list-lines : ListLines
unfolding listed_of listed_out
list-lines f out n e =
    let z : Sizes = sizes_of f in
    let r = reported (λ s. s) (λ s. (run_of f z s).first) (λ s. (run_of f z s).last) 0 (open_checks f) (list_of f) out n e in
    record {
      count = r.count;
      slot = r.one;
      first = λ i h. r.two i h ∙ sym (first-is f z (get_or (list_of f) i 0));
      last = λ i h. r.three i h ∙ sym (last-is f z (get_or (list_of f) i 0));
      beyond = r.beyond;
      as_long = r.as_long;
    }

-- ---- show

-- the bytes of records a to b, of k bytes each
records-only : (k a b i : ℕ) → 0 < k → 1 ≤ a → (a - 1) * k ≤ i → i < b * k → (a ≤ i / k + 1) × (i / k + 1 ≤ b)
records-only k a b i pos one lo hi = (omega (arith, (le-div_iff_mul-le {k = k} {x = a - 1} {y = i} pos).1 lo), omega (arith, (div-lt_iff_lt-mul {k = k} {x = i} {y = b} pos).1 hi))

records-each : (k a b i : ℕ) → 0 < k → a ≤ i / k + 1 → i / k + 1 ≤ b → ((a - 1) * k ≤ i) × (i < b * k)
records-each k a b i pos lo hi =
    ((le-div_iff_mul-le {k = k} {x = a - 1} {y = i} pos).0 (omega arith), (div-lt_iff_lt-mul {k = k} {x = i} {y = b} pos).0 (omega arith))

module _ (f : List ℕ) (s : ℕ) (T : SlotTaken f s) where
  abbrev z : Sizes
  z = sizes_of f

  abbrev r : Run
  r = run_of f z s

  S : Sound f z
  S = open-sound T.opens

  lies : Lies z r
  lies = S.laid.inside s T.slotted.low (full-holds S.laid s T.slotted.low T.slotted.high T.full).high

  pub shown-is : Shown f (sizes_of f) s (start_of (sizes_of f) (run_of f (sizes_of f) s).first) ((run_of f (sizes_of f) s).last * (sizes_of f).l)
  shown-is =
      let k : 0 < z.l = omega (arith, S.booted.ranged.shape.l_low) in
      let a : 1 ≤ r.first = omega (arith, lies.low T.full) in
      record {
        only = λ i lo hi. rw (first-is f z s, last-is f z s) (records-only z.l r.first r.last i k a lo hi);
        each = λ i lo hi.
            records-each z.l r.first r.last i k (omega (arith, lo, first-is f z s)) (omega (arith, hi, last-is f z s));
        some = omega (arith, less r.first z.l a, times r.first r.last z.l (lies.order T.full));
        within = lies-end S.booted lies;
      }

pub show-records : ShowRecords
unfolding show_of
show-records f s from to e =
    let p = judged-ok (slot_checks f s) (start_of (sizes_of f) (run_of f (sizes_of f) s).first, (run_of f (sizes_of f) s).last * (sizes_of f).l) e in
    subst (λ (x : ℕ × ℕ). Shown f (sizes_of f) s x.0 x.1) p.1 (shown-is f s (slot-is-taken f s p.0))

-- ---- read

-- a part of a scan is given only where the rules are kept
ruled-part : (s : List ℕ) (k : ℕ → ℕ → Span) (a b : ℕ) → of_ruled k (ruled_of s false) ≡ Ok (a, b) → (ruled_of s false ≡ Ok (headlen s, datalen s)) × (k (headlen s) (datalen s) ≡ Ok (a, b))
ruled-part s k a b e = go (ruled_of s false) refl e
  where
    go : (x : Ruled) → ruled_of s false ≡ x → of_ruled k x ≡ Ok (a, b) → (ruled_of s false ≡ Ok (headlen s, datalen s)) × (k (headlen s) (datalen s) ≡ Ok (a, b))
    go (Ok (head, rest)) p e = let l = keeps-lengths p in rw (l.head_is, l.rest_is) (p, e)
    go (Err n) p e = absurd (err≢ok e)

-- the first k bytes of a part
front-part : (a b k : ℕ) (f : List ℕ) → k ≤ b - a → take k (part a b f) ≡ part a (a + k) f
front-part a b k f h = let e : a + k - a ≡ k = omega arith in rw e (take-take k (b - a) (drop a f) h)

pub read-scan : ReadScan
unfolding read_of show_of
read-scan f s from to e =
    let z : Sizes = sizes_of f in
    let a : ℕ = start_of z (run_of f z s).first in
    let b : ℕ = (run_of f z s).last * z.l in
    let p = judge-passed Err (read_checks f s) (read_in a (ruled_of (shown_of f z s) false)) (Ok (from, to)) (λ r. err≢ok) e in
    let q = ruled-part (shown_of f z s) (λ head rest. Ok (a, a + (head + rest))) from to p.1 in
    let c = append-clear (slot_checks f s) (other_scan f s ∷ []) p.0 in
    let h : Shown f z s a b = shown-is f s (slot-is-taken f s c.0) in
    let m : version_one (version_of f) f (home_of z s) ≡ true = not-false _ (clear-all (other_scan f s ∷ []) c.1).0 in
    subst (λ (x : ℕ × ℕ). Read f s x.0 x.1) (ok-same q.1)
    (record {
      end = b;
      shows = judge-clear Err (slot_checks f s) (Ok (a, b)) c.0;
      version-one = λ v. ap (λ (x : ℕ). be16 f (x + 4)) (home-is z s) ∙ one-facts (version_of f) f (home_of z s) m v;
      keeps = kept_rule (kept q.0);
      so_many = refl;
      within = omega (arith, (keeps-lengths q.0).within, length_part a b f h.within, h.some);
      alone = λ n.
          subst (λ (s : List ℕ). Rule s false n)
          (front-part a b (headlen (shown_of f z s) + datalen (shown_of f z s)) f (omega (arith, (keeps-lengths q.0).within, length_part a b f h.within)))
          (kept_rule (kept (rules-taken (shown_of f z s) false q.0)) n);
    })

-- ---- class and data

tiled : (s : List ℕ) → ruled_of s false ≡ Ok (headlen s, datalen s) → Tiled s
unfolding class_at
tiled s e =
    let k : Kept s false (headlen s) (datalen s) = kept e in
    let n : ℕ = classes_of s in
    let in_count = k.two in
    record {
      from = λ i. class_at (starts_of s) (i - 1);
      to = λ i. class_end (starts_of s) n (headlen s) i;
      class = λ i a b. class-in s e i ∙ class-here (starts_of s) n (headlen s) i a b;
      some = λ i a b. (class-lies s k i a b).some;
      starts = λ i a b. omega (arith, start-at s i a (omega arith), (class-lies s k i a b).from);
      first = omega (arith, k.three.0);
      next = λ i a b. class-next s k i b ∙ ap (λ (x : ℕ). class_at (starts_of s) x) (omega arith);
      last = class-last s k;
      rest = data_is s e;
      within = (keeps-lengths e).within;
      below = class-in s e 0 ∙ class-below (starts_of s) n (headlen s);
      above = λ i h. class-in s e i ∙ class-above (starts_of s) n (headlen s) i h;
    }

pub classes-tile : ClassesTile
unfolding class_of
classes-tile s k from to e = tiled s (ruled-part s _ from to e).0

pub data-tile : DataTile
unfolding data_of
data-tile s from to e = tiled s (ruled-part s _ from to e).0
