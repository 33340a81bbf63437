-- 2026-06: what is found by the rules alone, and that it is what the index lists where nothing else is left.
use Rattle.std.specs.Prelude.{Ok}
use Prim.Native.Nat.{ℕ, zero, suc, ◌+◌, ◌-◌, ◌*◌, ◌≤◌, ◌<◌}
use mathlib.Core.Path.{◌≡◌, refl, sym, ◌∙◌, ap, subst}
use mathlib.Core.Bool.{false}
use mathlib.Core.List.Memᴰ
use mathlib.Core.List.{List, [], ◌∷◌, map, Memᴰ}
use mathlib.Core.Logic.{◌≢◌, ⊎_elim}
use native.Mathlib.Omega.{arith}
use Rattle.lent.specs.Number.{big, be64}
use Rattle.lent.specs.Part.{part}
use Rattle.lent.specs.Least.{least}
use Rattle.lent.proofs.Lists.{lt-or-ge, same_or, true≢false}
use Rattle.lent.proofs.Leasts.{none-least, lowest-least}
use Rattle.lent.proofs.Parts.{length_part, part_join}
use Rattle.lent.proofs.Numbers.{number-part}
use Rattle.paper.specs.declared.sizes.Sizes.{Sizes}
use Rattle.paper.specs.declared.sizes.Run.{Run}
use Rattle.paper.specs.Sizes.{sizes_of, start_of, bytes_of, boot_checks}
use Rattle.paper.specs.Index.{run_of, shown_of, shares, Booted, Sound}
use Rattle.paper.specs.Scan.{headlen, datalen, ruled_of}
use Rattle.paper.specs.Look.{list_of}
use Rattle.paper.specs.Store.{run_from, many_of}
use Rattle.paper.specs.Gaps.{InGap, GapsZero}
use Rattle.paper.specs.Find.{Find, rest_from, takes_at, find_at, find_of, report_of, report_out, find_from}
use Rattle.paper.proofs.Sizing.{times}
use Rattle.paper.proofs.Opening.{InData, lies-data, share-facts, facts-share, common-shares, boot-sound, sound-boot, open-sound, Holds, full-holds, apart-all}
use Rattle.paper.proofs.Rules.{kept, keeps, keeps-lengths, rules-longer}
use Rattle.paper.proofs.Reasons.{kept_rule}
use Rattle.paper.proofs.Finding.{find-from, from_past, from-broken, from_found, takes-facts, facts-takes, takes_none, takes-within, zeros-none}
use Rattle.demands.specs.Find.{Obeys, Right, InOrder, FindsRight, Fills, slot_find, FindsListed, FindLines}
use Rattle.demands.proofs.Reading.{reported}
use Rattle.demands.proofs.Telling.{list-exactly}

-- what holds past the top, and of a record wherever it holds of all after it, holds of every record
pub down : (P : ℕ → Type 0) (top : ℕ) → ((r : ℕ) → top < r → P r) → ((r : ℕ) → r ≤ top → ((j : ℕ) → r < j → P j) → P r) → (m r : ℕ) → top < r + m → P r
down P top past here zero r h = past r (omega arith)
down P top past here (suc m) r h =
    ⊎_elim (λ (l : top < r). past r l) (λ (l : r ≤ top). here r l (λ j k. down P top past here m j (omega arith))) (lt-or-ge top r)

-- a run that obeys every rule is judged to keep them
obeys-keeps : (s : List ℕ) → Obeys s → ruled_of s false ≡ Ok (headlen s, datalen s)
obeys-keeps s h = keeps (record { one = h 1; two = h 2; three = h 3; four = h 4; five = h 5; six = h 6; head_is = refl; rest_is = refl })

-- ---- what is found

module _ (f : List ℕ) (z : Sizes) (B : Booted f z) where
  -- what is known of the finds from record r on
  record Known (r : ℕ) (xs : List Find) : Type 0 where
    right : (x : Find) → Memᴰ x xs → Right f z x
    order : (last : ℕ) → last < r → InOrder last xs
    none_missed : (q : ℕ) → r ≤ q → q ≤ z.n + z.d → ((x : Find) → Memᴰ x xs → x.first ≤ q → q ≤ x.last → ⊥) → Obeys (rest_from f z q) → ⊥

  -- past the last data record there is none
  known_past : (r : ℕ) → z.n + z.d < r → Known r (find_from f z r)
  known_past r h =
      subst (Known r) (sym (from_past f z r h))
      (record { right = λ x m. absurd (Memᴰ.not-nil m); order = λ last l. tt; none_missed = λ q a b c o. omega arith })

  -- a record that begins no scan is passed over
  known-broken : (r : ℕ) (xs : List Find) → takes_at f z r ≡ 0 → Known (r + 1) xs → Known r xs
  known-broken r xs e k =
      record {
        right = k.right;
        order = λ last l. k.order last (omega arith);
        none_missed = λ q a b c o.
            ⊎_elim (λ (l : r < q). k.none_missed q (omega arith) b c o)
            (λ (l : q ≤ r). let i : q ≡ r = omega arith in takes_none f z r B e _ _ (obeys-keeps (rest_from f z r) (subst (λ (x : ℕ). Obeys (rest_from f z x)) i o)))
            (lt-or-ge r q);
      }

  module _ (r k : ℕ) (low : z.n < r) (high : r ≤ z.n + z.d) (e : takes_at f z r ≡ suc k) where
    -- a record that begins a scan is found as that scan says
    find-right : Right f z (find_at f z r (r + k))
    find-right =
        let b = takes-facts f z r k e in
        let q = keeps-lengths b.rules in
        record {
          past = low;
          within = omega (arith, takes-within f z r B (omega arith) high);
          obeys = kept_rule (kept b.rules);
          ends = rw (q.head_is, q.rest_is) (omega (arith, b.records));
          number = number-part big 8 (start_of z r) (bytes_of z) f 48 (omega (arith, q.long, length_part (start_of z r) (bytes_of z) f B.held));
        }

    -- and the others come after it
    known-found : (xs : List Find) → Known (r + suc k) xs → Known r (find_at f z r (r + k) ∷ xs)
    known-found xs h =
        record {
          right = λ x m. ⊎_elim (λ (q : x ≡ find_at f z r (r + k)). subst (Right f z) (sym q) find-right) (h.right x) (Memᴰ.cases_cons m);
          order = λ last l. (l, omega arith, h.order (r + k) (omega arith));
          none_missed = λ q a b c o.
              ⊎_elim (λ (l : q < r + suc k). c (find_at f z r (r + k)) (Memᴰ.head refl) a (omega arith))
              (λ (l : r + suc k ≤ q). h.none_missed q l b (λ x m. c x (Memᴰ.tail m)) o) (lt-or-ge q (r + suc k));
        }

  -- one or the other
  known-here : (r : ℕ) → z.n < r → r ≤ z.n + z.d → ((j : ℕ) → r < j → Known j (find_from f z j)) → Known r (find_from f z r)
  known-here r low high next = go (takes_at f z r) refl
    where
      go : (k : ℕ) → takes_at f z r ≡ k → Known r (find_from f z r)
      go zero e = subst (Known r) (sym (from-broken f z r high e)) (known-broken r (find_from f z (r + 1)) e (next (r + 1) (omega arith)))
      go (suc k) e = subst (Known r) (sym (from_found f z r k high e)) (known-found r k low high e (find_from f z (r + suc k)) (next (r + suc k) (omega arith)))

  -- of all the finds
  known : Known (z.n + 1) (find_of f z)
  known =
      subst (Known (z.n + 1)) (sym (find-from f z))
      (down (λ (r : ℕ). z.n < r → Known r (find_from f z r)) (z.n + z.d) (λ r h low. known_past r h)
      (λ r high next low. known-here r low high (λ j l. next j l (omega arith))) z.d (z.n + 1) (omega arith) (omega arith))

-- the finds are right and in order, and none is missed, whatever the index holds
pub finds-right : FindsRight
finds-right f z o =
    let k = known f z (boot-sound o) in
    record { right = k.right; order = k.order z.n (omega arith); none_missed = λ r a b. k.none_missed r (omega arith) b }

-- ---- and what is listed

module _ (f : List ℕ) (z : Sizes) (S : Sound f z) (G : GapsZero f z) (A : (s : ℕ) → Holds z (run_of f z) s → Fills f z s) where
  abbrev run : ℕ → Run
  run s = run_of f z s

  -- a slot with a scan has its records in the data section
  lies : (s : ℕ) → Holds z run s → InData z (run s)
  lies s h = lies-data z (run s) (S.laid.inside s h.low h.high) h.full

  -- two slots with a record in common are one
  one : (s t r : ℕ) → Holds z run s → Holds z run t → (run s).first ≤ r → r ≤ (run s).last → (run t).first ≤ r → r ≤ (run t).last → s ≡ t
  one s t r h k a b c d =
      let u = S.booted.ranged.used in
      ⊎_elim (λ (e : s ≡ t). e)
      (λ (e : s ≢ t). absurd (apart-all S.laid s t r h.low (omega (arith, h.high)) k.low (omega (arith, k.high)) e (omega (arith, (lies s h).low)) a b c d))
      (same_or s t)

  module _ (s : ℕ) (h : Holds z run s) where
    -- its scan keeps the rules, and its bytes lie before the end of the data section
    slot-rules : ruled_of (shown_of f z s) false ≡ Ok (headlen (shown_of f z s), datalen (shown_of f z s))
    slot-rules = obeys-keeps (shown_of f z s) (A s h).obeys

    slot-ends : (start_of z (run s).first ≤ (run s).last * z.l) × ((run s).last * z.l ≤ bytes_of z)
    slot-ends =
        let x = lies s h in
        (times ((run s).first - 1) (run s).last z.l (omega arith), times (run s).last (z.n + z.d) z.l x.high)

    -- the first record of a slot begins a scan of as many records as it has
    slot-takes : takes_at f z (run s).first ≡ many_of (run s)
    slot-takes =
        facts-takes f z (run s).first (many_of (run s))
        (record {
          head = headlen (shown_of f z s);
          rest = datalen (shown_of f z s);
          rules = subst (λ (t : List ℕ). ruled_of t false ≡ Ok (headlen (shown_of f z s), datalen (shown_of f z s)))
              (part_join (start_of z (run s).first) ((run s).last * z.l) (bytes_of z) f slot-ends.0 slot-ends.1 S.booted.held)
              (rules-longer (shown_of f z s) (part ((run s).last * z.l) (bytes_of z) f) false slot-rules);
          records = (A s h).exactly;
        })

    -- so that it is what is found there
    from-slot : find_from f z (run s).first ≡ slot_find f z s ∷ find_from f z ((run s).last + 1)
    from-slot =
        let x = lies s h in
        let a : ℕ = start_of z (run s).first in
        let b : ℕ = (run s).last * z.l in
        let k : ℕ = (run s).last - (run s).first in
        let l : 56 ≤ b - a = omega (arith, (keeps-lengths slot-rules).long, length_part a b f (omega (arith, slot-ends.1, S.booted.held))) in
        let i : (run s).first + k ≡ (run s).last = omega arith in
        let j : (run s).first + suc k ≡ (run s).last + 1 = omega arith in
        let c : be64 (rest_from f z (run s).first) 48 ≡ be64 (shown_of f z s) 48 =
        number-part big 8 a (bytes_of z) f 48 (omega (arith, slot-ends.1)) ∙ sym (number-part big 8 a b f 48 l) in
        from_found f z (run s).first k (omega arith) (omega (arith, slot-takes)) ∙ cc

  -- no scan that begins before record r reaches it
  abbrev Between : ℕ → Type 0
  Between r = (s : ℕ) → Holds z run s → (run s).first < r → (run s).last < r

  -- the finds from record r on are those of the slots that begin there or later
  record Runs (r : ℕ) : Type 0 where
    slots : List ℕ
    only : (s : ℕ) → Memᴰ s slots → Holds z run s
    each : (s : ℕ) → Holds z run s → r ≤ (run s).first → Memᴰ s slots
    found : find_from f z r ≡ map (slot_find f z) slots

  -- past the last data record no slot begins
  runs_past : (r : ℕ) → z.n + z.d < r → Runs r
  runs_past r h =
      record {
        slots = [];
        only = λ s m. absurd (Memᴰ.not-nil m);
        each = λ s k l. absurd (let x = lies s k in omega arith);
        found = from_past f z r h;
      }

  -- a record in a gap is zeros and is passed over
  runs-gap : (r : ℕ) → InGap f z r → (Between (r + 1) → Runs (r + 1)) → Runs r
  runs-gap r g next =
      let k =
      next (λ s h l.
      ⊎_elim (λ (a : (run s).last < r). omega arith) (λ (a : r ≤ (run s).last). absurd (g.unlisted s h.low h.high (omega arith) a)) (lt-or-ge (run s).last r)) in
      record {
        slots = k.slots;
        only = k.only;
        each = λ s h l.
            ⊎_elim (λ (a : r < (run s).first). k.each s h (omega arith))
            (λ (a : (run s).first ≤ r). absurd (g.unlisted s h.low h.high a (omega (arith, (lies s h).order)))) (lt-or-ge r (run s).first);
        found = from-broken f z r g.within (zeros-none f z r S.booted (omega (arith, g.past)) g.within (G.zero r g)) ∙ k.found;
      }

  -- a slot's first record is where it is found, and the search goes on after its last
  runs-slot : (s : ℕ) → Holds z run s → (Between ((run s).last + 1) → Runs ((run s).last + 1)) → Runs (run s).first
  runs-slot s h next =
      let x = lies s h in
      let k =
      next (λ t j l.
      ⊎_elim (λ (a : (run s).last < (run t).last). omega (arith, ap (λ (y : ℕ). (run y).last) (one s t (run s).last h j x.order (omega arith) (omega arith) (omega arith))))
      (λ (a : (run t).last ≤ (run s).last). omega arith) (lt-or-ge (run s).last (run t).last)) in
      record {
        slots = s ∷ k.slots;
        only = λ t m. ⊎_elim (λ (e : t ≡ s). subst (Holds z run) (sym e) h) (k.only t) (Memᴰ.cases_cons m);
        each = λ t j l.
            ⊎_elim (λ (a : (run s).last < (run t).first). Memᴰ.tail (k.each t j (omega arith)))
            (λ (a : (run t).first ≤ (run s).last). Memᴰ.head (one t s (run t).first j h (omega arith) (lies t j).order l a)) (lt-or-ge (run s).last (run t).first);
        found = from-slot s h ∙ ap (λ (xs : List Find). slot_find f z s ∷ xs) k.found;
      }

  -- a record that no scan before reaches is in a gap or is a slot's first
  runs_here : (r : ℕ) → z.n < r → r ≤ z.n + z.d → Between r → ((j : ℕ) → r < j → Between j → Runs j) → Runs r
  runs_here r low high b next = go (least (λ s. shares (run_from r 1) (run s)) z.u) refl
    where
      go : (k : ℕ) → least (λ s. shares (run_from r 1) (run s)) z.u ≡ k → Runs r
      go zero e =
          let gap : InGap f z r =
          record {
            past = low;
            within = high;
            unlisted = λ s c d x y.
                true≢false (facts-share (run_from r 1) (run s) (common-shares (run_from r 1) (run s) r (omega arith) (omega arith) (omega arith) x y)) ((none-least e).none s c d);
          } in
          runs-gap r gap (next (r + 1) (omega arith))
      go (suc k) e =
          let l = lowest-least e (omega arith) in
          let x = share-facts (run_from r 1) (run (suc k)) l.takes in
          let h : Holds z run (suc k) = record { low = l.low; high = l.high; full = omega (arith, x.right) } in
          let q : (run (suc k)).first ≡ r =
          ⊎_elim (λ (a : (run (suc k)).first < r). absurd (omega (arith, b (suc k) h a, x.before))) (λ (a : r ≤ (run (suc k)).first). omega (arith, x.after)) (lt-or-ge (run (suc k)).first r) in
          subst Runs q (runs-slot (suc k) h (next ((run (suc k)).last + 1) (omega (arith, x.before))))

  -- of all the slots
  runs : Runs (z.n + 1)
  runs =
      down (λ (r : ℕ). z.n < r → Between r → Runs r) (z.n + z.d) (λ r h low b. runs_past r h)
      (λ r high next low b. runs_here r low high b (λ j l. next j l (omega arith))) z.d (z.n + 1) (omega arith) (omega arith)
      (λ s h l. absurd (omega (arith, (lies s h).low)))

-- the finds are the runs of the slots listed
pub finds-listed : FindsListed
finds-listed f z o G A =
    let S = open-sound o in
    let E = list-exactly f z o in
    let mem : (s : ℕ) → Holds z (run_of f z) s → Memᴰ s (list_of f) = λ s h. E.each s h.low (omega (arith, h.high, S.booted.ranged.used)) h.full in
    let k = runs f z S G (λ s h. A s (mem s h)) in
    let e : find_of f z ≡ map (slot_find f z) k.slots = find-from f z ∙ k.found in
    record {
      slots = k.slots;
      only = λ s m. mem s (k.only s m);
      each = λ s m.
          let x = E.only s m in
          let h = full-holds S.laid s x.0 x.1 x.2 in
          k.each s h (omega (arith, (S.laid.inside s h.low h.high).low h.full));
      order = subst (InOrder z.n) e (finds-right f z (sound-boot S.booted)).order;
      found = e;
    }

-- ---- what is reported

-- three numbers for each find, as for each scan that is listed
pub find-lines : FindLines
unfolding report_of report_out
find-lines f out n e =
    let r : (d : Find) → _ = λ d. reported (λ x. x.first) (λ x. x.last) (λ x. x.scan) d (boot_checks f) (find_of f (sizes_of f)) out n e in
    let none : Find = record { first = 0; last = 0; scan = 0 } in
    record {
      count = (r none).count;
      first = λ i d. (r d).one i;
      last = λ i d. (r d).two i;
      number = λ i d. (r d).three i;
      beyond = (r none).beyond;
      as_long = (r none).as_long;
    }
