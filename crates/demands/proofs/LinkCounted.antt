-- 2026-07: of a link that was begun, the bytes that count are the first N x L, or the first 32, or none; no other leaves a trace in link or row.
use Rattle.std.specs.Prelude.{Err}
use Prim.Native.Nat.{ℕ, ◌+◌, ◌-◌, ◌*◌, ◌≤◌, ◌<◌, min, max}
use mathlib.Core.Path.{◌≡◌, refl, sym, ◌∙◌, ap, subst}
use mathlib.Core.Bool.{Bool, true, false, not, cond}
use mathlib.Core.List.{List, [], ◌∷◌, ◌++◌, append-nil}
use mathlib.Core.Logic.{⊎_elim}
use native.Mathlib.Omega.{arith}
use native.Mathlib.Nat.{sub-eq-zero_of_le, le_trans, add-mul}
use borrow.Author.Tests.{ltb-false, lt-ltb, le-ltb, not-false}
use lib.ListN.{length, take, drop, get_or, length-take, length-drop, replicate, take-append-drop, get_or-eq_default}
use lib.Seq.{take_all, get_or-take, length-take-le}
use Rattle.lent.specs.Checks.{Fired, clear, fires, fired, answer}
use Rattle.lent.specs.Write.{write, zeros}
use Rattle.lent.proofs.Lists.{lt-or-ge}
use Rattle.lent.proofs.Checks.{clear≢fires, clear-all, all-clear, judge-clear}
use Rattle.lent.proofs.Writes.{get_or-zeros, length-write, write-after, write-in, write-all}
use Rattle.paper.specs.declared.sizes.Sizes.{Sizes}
use Rattle.paper.specs.declared.refusal.Refusal.{Refusal}
use Rattle.paper.specs.declared.link.Link.{Link}
use Rattle.paper.specs.Sizes.{sizes_of, capacity_of, bytes_of, in_range, shaped, size_checks, boot_checks}
use Rattle.paper.specs.Index.{boot_of, Booted}
use Rattle.paper.specs.Link.{fresh_link, link_in, head_of, boot_after, index_end, headed, body_of, took_link, took_row, elements_of, row_after}
use Rattle.paper.proofs.Sizing.{head-long}
use Rattle.paper.proofs.Forms.{sizes-same}
use Rattle.paper.proofs.Opening.{range-facts, facts-range, boot-sound, booted-clear, boot-fires}
use Rattle.paper.proofs.Linking.{begin-long, elements-most, row-after-none, row-after-past, head_short, head-min, ends-new, took-still, took-row-still, took-uncut, took-row-uncut, took-row-length}
use Rattle.demands.specs.Causes.{end, Met, SizeRow}
use Rattle.demands.specs.Link.{State, begun, taking, after, joined, Comes}
use Rattle.demands.specs.LinkCounts.{Unbroken, index_length, LinkCounts, Holds, LinkHolds, LinkTraces, LinkRowStays, LinkFile}
use Rattle.demands.proofs.Linked.{link-so-far}

-- ---- where the index ends

module _ (len : ℕ) (z : Sizes) where
  ends-met : Met (SizeRow len z end) → index_end len z ≡ z.n * z.l
  unfolding index_end
  ends-met g =
      judge-clear (λ (r : Refusal). 0) (size_checks len z) (z.n * z.l)
      (all-clear (size_checks len z) (le-ltb 1 z.version g.0, (ap not (facts-range z g.1.0), (le-ltb len (bytes_of z) g.1.1.0, tt))))

  ends-broken : (Met (SizeRow len z end) → ⊥) → index_end len z ≡ 0
  unfolding index_end
  ends-broken broken = go (fired (size_checks len z)) refl
    where
      go : (x : Fired Refusal) → fired (size_checks len z) ≡ x → answer (λ (r : Refusal). 0) (z.n * z.l) x ≡ 0
      go clear e =
          let c = clear-all (size_checks len z) e in
          absurd (broken (ltb-false 1 z.version c.0, (range-facts z (not-false (in_range z) c.1.0), (ltb-false len (bytes_of z) c.1.1.0, tt))))
      go (fires r) e = refl

  -- it is longer than the bootstrap, and within the length
  met-long : Met (SizeRow len z end) → (1024 ≤ z.n * z.l) × (512 ≤ len)
  met-long g = let l = head-long z g.1.0.shape in (l, omega (arith, g.1.1.0, add-mul z.n z.d z.l))

-- ---- bytes that came

module _ (len : ℕ) (b : List ℕ) where
  abbrev fresh : Link
  fresh = fresh_link len

  -- how many count, by the place where the index ends
  came-by : {e : ℕ} → 512 ≤ len → (headed fresh b).ends ≡ e → (took_link fresh b).came ≡ min (max 32 e) (length b)
  unfolding took_link
  came-by h i =
      let l = length-take ((headed fresh b).ends - (headed fresh b).came) (drop (head_of fresh b) b) in
      omega (arith, head-min fresh b h, length-drop (head_of fresh b) b)

  ends-kept : (took_link fresh b).ends ≡ (headed fresh b).ends
  unfolding took_link
  ends-kept = refl

  ends-early : 512 ≤ len → length b < 32 → (headed fresh b).ends ≡ 0
  ends-early h l = ends-new fresh b (omega arith) refl ∙ rw (lt-ltb (headed fresh b).came 32 (omega (arith, head-min fresh b h)))

  boot-sizes : 512 ≤ len → 32 ≤ length b → sizes_of (boot_after fresh b) ≡ sizes_of b
  boot-sizes h l =
      let n : head_of fresh b ≡ 32 = omega (arith, head-min fresh b h) in
      let e : boot_after fresh b ≡ take 32 b =
      ap (λ (n : ℕ). write (replicate 32 0) 0 (take n b)) n ∙ write-all (replicate 32 0) (take 32 b) (omega (arith, length-take-le 32 b l)) in
      ap sizes_of e ∙ sizes-same b (take 32 b) (λ i lo hi. get_or-take 32 b i 0 hi)

  ends-late : 512 ≤ len → 32 ≤ length b → (headed fresh b).ends ≡ index_end len (sizes_of b)
  ends-late h l =
      ends-new fresh b (omega arith) refl
      ∙ rw (le-ltb (headed fresh b).came 32 (omega (arith, head-min fresh b h))) (ap (index_end len) (boot-sizes h l))

  came-short : len < 512 → (took_link fresh b).came ≡ 0
  came-short h = ap (λ (k : Link). k.came) (took-still fresh b (head_short fresh b h) refl)

  came-index : Unbroken len b → (took_link fresh b).came ≡ min (index_length b) (length b)
  came-index g =
      let z : Sizes = sizes_of b in
      let l = met-long len z g in
      ⊎_elim (λ (i : length b < 32). came-by l.1 (ends-early l.1 i) ∙ omega (arith, l.0))
      (λ (i : 32 ≤ length b). came-by l.1 (ends-late l.1 i ∙ ends-met len z g) ∙ omega (arith, l.0)) (lt-or-ge (length b) 32)

  came-broken : 512 ≤ len → (Unbroken len b → ⊥) → (took_link fresh b).came ≡ min 32 (length b)
  came-broken h g =
      ⊎_elim (λ (i : length b < 32). came-by h (ends-early h i))
      (λ (i : 32 ≤ length b). came-by h (ends-late h i ∙ ends-broken len (sizes_of b) g)) (lt-or-ge (length b) 32)

pub link-counts : LinkCounts
link-counts len row ps enough =
    let e = ap (λ (k : Link). k.came) (link-so-far len row ps enough).link in
    record {
      short = λ h. e ∙ came-short len (joined ps) h;
      index = λ g. e ∙ came-index len (joined ps) g;
      broken = λ h g. e ∙ came-broken len (joined ps) h g;
    }

-- ---- the link's fields

zero-at : (i : ℕ) → ◌≡◌ {A = ℕ} (get_or (replicate 32 0) i 0) 0
unfolding zeros
zero-at i = get_or-zeros 32 i

module _ (len : ℕ) (b : List ℕ) where
  abbrev none : Link
  none = fresh_link len

  -- the bytes that go into it
  abbrev front : List ℕ
  front = take (head_of none b) b

  front_long : 512 ≤ len → length front ≡ min 32 (length b)
  front_long h = omega (arith, length-take (head_of none b) b, head-min none b h)

  boot-is : (took_link none b).boot ≡ write (replicate 32 0) 0 front
  unfolding took_link
  boot-is = refl

  boot-in : 512 ≤ len → (i : ℕ) → i < 32 → get_or (write (replicate 32 0) 0 front) i 0 ≡ get_or b i 0
  boot-in h i l =
      ⊎_elim
      (λ (j : i < length b).
      let e : i ≡ 0 + i = omega arith in
      ap (λ (n : ℕ). get_or (write (replicate 32 0) 0 front) n 0) e ∙ write-in (replicate 32 0) 0 front (omega arith) i (omega (arith, front_long h))
      ∙ get_or-take (head_of none b) b i 0 (omega (arith, head-min none b h)))
      (λ (j : length b ≤ i).
      write-after (replicate 32 0) 0 front (omega arith) i (omega (arith, front_long h)) ∙ zero-at i ∙ sym (get_or-eq_default b 0 j))
      (lt-or-ge i (length b))

  link-none : len < 512 → took_link none b ≡ none
  link-none h = took-still none b (head_short none b h) refl

  boot-made : length (took_link none b).boot ≡ 32
  boot-made =
      ⊎_elim (λ (h : len < 512). ap (λ (k : Link). length k.boot) (link-none h))
      (λ (h : 512 ≤ len). ap length boot-is ∙ length-write (replicate 32 0) 0 front (omega (arith, front_long h))) (lt-or-ge len 512)

  ends-none : (32 ≤ length b → Unbroken len b → ⊥) → (took_link none b).ends ≡ 0
  ends-none g =
      ⊎_elim (λ (h : len < 512). ap (λ (k : Link). k.ends) (link-none h))
      (λ (h : 512 ≤ len).
      ends-kept len b
      ∙ ⊎_elim (λ (l : length b < 32). ends-early len b h l) (λ (l : 32 ≤ length b). ends-late len b h l ∙ ends-broken len (sizes_of b) (g l))
      (lt-or-ge (length b) 32))
      (lt-or-ge len 512)

  ends-index : 32 ≤ length b → Unbroken len b → (took_link none b).ends ≡ index_length b
  ends-index l g = ends-kept len b ∙ ends-late len b (met-long len (sizes_of b) g).1 l ∙ ends-met len (sizes_of b) g

  holds : Holds len b (took_link none b)
  unfolding took_link
  holds =
      record {
        span = refl;
        made = boot-made;
        boot = λ h i l. ap (λ (x : List ℕ). get_or x i 0) boot-is ∙ boot-in h i l;
        no_boot = λ h i. ap (λ (k : Link). get_or k.boot i 0) (link-none h) ∙ zero-at i;
        ends = ends-index;
        no_end = ends-none;
      }

pub link-holds : LinkHolds
link-holds len row ps enough = subst (Holds len (joined ps)) (sym (link-so-far len row ps enough).link) (holds len (joined ps))

-- ---- bytes that leave no trace

-- those behind p, where all that counts has come
module _ (len : ℕ) (p q : List ℕ) (begins : 512 ≤ len → 32 ≤ (took_link (fresh_link len) p).came)
    (over : (took_link (fresh_link len) p).ends ≤ (took_link (fresh_link len) p).came) where
  abbrev held : Link
  held = took_link (fresh_link len) p

  held-head : head_of held q ≡ 0
  unfolding took_link
  held-head =
      ⊎_elim (λ (h : len < 512). head_short held q h) (λ (h : 512 ≤ len). omega (arith, head-min held q h, begins h)) (lt-or-ge len 512)

  held-over : take (held.ends - held.came) q ≡ []
  held-over = rw (sub-eq-zero_of_le over)

  held_link : took_link (fresh_link len) (p ++ q) ≡ held
  held_link = sym (took-uncut (fresh_link len) p q refl) ∙ took-still held q held-head held-over

  held-row : (row : List ℕ) → 8192 ≤ length row → took_row (fresh_link len) (p ++ q) row ≡ took_row (fresh_link len) p row
  held-row row h =
      sym (took-row-uncut (fresh_link len) p q row refl h)
      ∙ took-row-still held q held-head held-over (took_row (fresh_link len) p row) (omega (arith, took-row-length (fresh_link len) p row h))

-- those behind the first n, of which the bootstrap and all that counts are
module _ (len : ℕ) (b : List ℕ) (n : ℕ) (head : 32 ≤ n) (index : index_end len (sizes_of b) ≤ n) (many : n < length b) where
  abbrev first : List ℕ
  first = take n b

  first-long : length first ≡ n
  first-long = length-take-le n b (omega arith)

  first-sizes : sizes_of first ≡ sizes_of b
  first-sizes = sizes-same b first (λ i lo hi. get_or-take n b i 0 (omega arith))

  first_ends : 512 ≤ len → (headed (fresh_link len) first).ends ≡ index_end len (sizes_of b)
  first_ends h = ends-late len first h (omega (arith, first-long)) ∙ ap (index_end len) first-sizes

  first-begins : 512 ≤ len → 32 ≤ (took_link (fresh_link len) first).came
  first-begins h = omega (arith, came-by len first h (first_ends h), first-long)

  first-over : (took_link (fresh_link len) first).ends ≤ (took_link (fresh_link len) first).came
  first-over =
      ⊎_elim (λ (h : len < 512). omega (arith, ap (λ (k : Link). k.ends) (took-still (fresh_link len) first (head_short (fresh_link len) first h) refl)))
      (λ (h : 512 ≤ len). omega (arith, came-by len first h (first_ends h), first-long, kept-ends h)) (lt-or-ge len 512)
    where
      kept-ends : 512 ≤ len → (took_link (fresh_link len) first).ends ≡ index_end len (sizes_of b)
      kept-ends h = ends-kept len first ∙ first_ends h

module _ (len : ℕ) (b : List ℕ) (n : ℕ) (head : 32 ≤ n) (index : 32 ≤ length b → index_end len (sizes_of b) ≤ n) where
  -- whatever rests on a run of bytes and is left as it was by bytes behind these
  to-first : {A : Type 0} (of : List ℕ → A) → ((many : n < length b) → of (take n b ++ drop n b) ≡ of (take n b)) → of b ≡ of (take n b)
  to-first of over =
      ⊎_elim (λ (h : n < length b). ap of (sym (take-append-drop n b)) ∙ over h) (λ (h : length b ≤ n). ap of (sym (take_all n b h))) (lt-or-ge n (length b))

  first-link : took_link (fresh_link len) b ≡ took_link (fresh_link len) (take n b)
  first-link =
      to-first (took_link (fresh_link len))
      (λ many. held_link len (take n b) (drop n b) (first-begins len b n head (index (omega arith)) many) (first-over len b n head (index (omega arith)) many))

  first-row : (row : List ℕ) → 8192 ≤ length row → took_row (fresh_link len) b row ≡ took_row (fresh_link len) (take n b) row
  first-row row h =
      to-first (λ x. took_row (fresh_link len) x row)
      (λ many. held-row len (take n b) (drop n b) (first-begins len b n head (index (omega arith)) many) (first-over len b n head (index (omega arith)) many) row h)

-- two states whose links and rows are the same
state-same : (s t : State) → s.link ≡ t.link → s.row ≡ t.row → s ≡ t
state-same s t e i =
    ap (λ (k : Link). record { link = k; row = s.row }) e ∙ ap (λ (r : List ℕ). record { link = t.link; row = r }) i

module _ (len : ℕ) (row : List ℕ) (enough : 8192 ≤ length row) where
  -- the state after one piece
  taken-link : (p : List ℕ) → (taking (begun len row) p).link ≡ took_link (fresh_link len) p
  unfolding after joined
  taken-link p = rw append-nil at (link-so-far len row (p ∷ []) enough).link

  taken-row : (p : List ℕ) → (taking (begun len row) p).row ≡ took_row (fresh_link len) p row
  unfolding after joined
  taken-row p = rw append-nil at (link-so-far len row (p ∷ []) enough).row

  begun-link : (begun len row).link ≡ fresh_link len
  begun-link = ap (link_in (fresh_link 0)) (begin-long len row enough)

  module _ (ps : List (List ℕ)) where
    -- the state after any pieces is that of their first n bytes
    first-state : (n : ℕ) → 32 ≤ n → (32 ≤ length (joined ps) → index_end len (sizes_of (joined ps)) ≤ n) → after (begun len row) ps ≡ taking (begun len row) (take n (joined ps))
    first-state n h i =
        let t = link-so-far len row ps enough in
        let p : List ℕ = take n (joined ps) in
        state-same (after (begun len row) ps) (taking (begun len row) p) (t.link ∙ first-link len (joined ps) n h i ∙ sym (taken-link p))
        (t.row ∙ first-row len (joined ps) n h i row enough ∙ sym (taken-row p))

    short-state : len < 512 → after (begun len row) ps ≡ begun len row
    short-state h =
        let t = link-so-far len row ps enough in
        let o = head_short (fresh_link len) (joined ps) h in
        state-same (after (begun len row) ps) (begun len row) (t.link ∙ took-still (fresh_link len) (joined ps) o refl ∙ sym begun-link)
        (t.row ∙ took-row-still (fresh_link len) (joined ps) o refl row enough)

pub link-traces : LinkTraces
link-traces len row ps enough =
    let z : Sizes = sizes_of (joined ps) in
    record {
      short = short-state len row enough ps;
      index = λ g. first-state len row enough ps (index_length (joined ps)) (omega (arith, (met-long len z g).0)) (λ l. omega (arith, ends-met len z g));
      broken = λ g. first-state len row enough ps 32 (omega arith) (λ l. omega (arith, ends-broken len z g));
    }

-- ---- the row

elements-two : (z : Sizes) → elements_of z ≤ 2 * capacity_of z
unfolding elements_of
elements-two z = go (shaped z)
  where
    go : (t : Bool) → cond t (2 * capacity_of z) 0 ≤ 2 * capacity_of z
    go true = omega arith
    go false = omega arith

no_bytes : (xs : List ℕ) → length xs ≤ 0 → xs ≡ []
no_bytes [] h = refl
no_bytes (x ∷ xs) h = absurd (omega arith)

row-past-late : (len : ℕ) (b row : List ℕ) → sizes_of (boot_after (fresh_link len) b) ≡ sizes_of b
    → (i : ℕ) → 2 * capacity_of (sizes_of b) ≤ i → get_or (took_row (fresh_link len) b row) i 0 ≡ get_or row i 0
unfolding took_row
row-past-late len b row e i l =
    let y : Sizes = sizes_of (boot_after (fresh_link len) b) in
    let c : capacity_of y ≡ capacity_of (sizes_of b) = ap capacity_of e in
    row-after-past y (headed (fresh_link len) b).came (body_of (fresh_link len) b) row i (omega (arith, elements-two y))

module _ (len : ℕ) (b row : List ℕ) (enough : 8192 ≤ length row) where
  -- only bytes behind the first 32 reach it
  row-still : (took_link (fresh_link len) b).came ≤ head_of (fresh_link len) b → took_row (fresh_link len) b row ≡ row
  unfolding took_link took_row
  row-still h =
      let z : Sizes = sizes_of (boot_after (fresh_link len) b) in
      let c : ℕ = (headed (fresh_link len) b).came in
      ap (λ (xs : List ℕ). row_after z c xs row) (no_bytes (body_of (fresh_link len) b) (omega arith))
      ∙ row-after-none z c row (le_trans (elements-most z) enough)

  row-short : len < 512 → took_row (fresh_link len) b row ≡ row
  row-short h = row-still (omega (arith, came-short len b h))

  row-broken : (Unbroken len b → ⊥) → took_row (fresh_link len) b row ≡ row
  row-broken g =
      ⊎_elim row-short (λ (h : 512 ≤ len). row-still (omega (arith, came-broken len b h g, head-min (fresh_link len) b h))) (lt-or-ge len 512)

  row-early : length b ≤ 32 → took_row (fresh_link len) b row ≡ row
  row-early l =
      ⊎_elim row-short (λ (h : 512 ≤ len). row-still (omega (arith, came-by len b h refl, head-min (fresh_link len) b h))) (lt-or-ge len 512)

  row-past : (i : ℕ) → 2 * capacity_of (sizes_of b) ≤ i → get_or (took_row (fresh_link len) b row) i 0 ≡ get_or row i 0
  row-past i l =
      ⊎_elim (λ (h : len < 512). ap (λ (r : List ℕ). get_or r i 0) (row-short h))
      (λ (h : 512 ≤ len).
      ⊎_elim (λ (j : length b < 32). ap (λ (r : List ℕ). get_or r i 0) (row-early (omega arith))) (λ (j : 32 ≤ length b). late h j) (lt-or-ge (length b) 32))
      (lt-or-ge len 512)
    where
      late : 512 ≤ len → 32 ≤ length b → get_or (took_row (fresh_link len) b row) i 0 ≡ get_or row i 0
      late h j = row-past-late len b row (boot-sizes len b h j) i l

pub link-row-stays : LinkRowStays
link-row-stays len row ps enough =
    let b : List ℕ = joined ps in
    let e = (link-so-far len row ps enough).row in
    record {
      short = λ h. e ∙ row-short len b row enough h;
      early = λ l. e ∙ row-early len b row enough l;
      broken = λ g. e ∙ row-broken len b row enough g;
      past = λ i l. ap (λ (r : List ℕ). get_or r i 0) e ∙ row-past len b row enough i l;
    }

-- ---- a file whose bytes come

module _ (f row : List ℕ) (ps : List (List ℕ)) (enough : 8192 ≤ length row) (comes : Comes f (joined ps)) where
  abbrev bytes : List ℕ
  bytes = joined ps

  abbrev reached : State
  reached = after (begun (length f) row) ps

  came-is : reached.link.came ≡ (took_link (fresh_link (length f)) bytes).came
  came-is = ap (λ (k : Link). k.came) (link-so-far (length f) row ps enough).link

  row_is : reached.row ≡ took_row (fresh_link (length f)) bytes row
  row_is = (link-so-far (length f) row ps enough).row

  sizes-come : 512 ≤ length f → 32 ≤ length bytes → sizes_of bytes ≡ sizes_of f
  sizes-come h l = sizes-same f bytes (λ i lo hi. comes i (omega arith) (omega arith))

  -- its bootstrap breaks nothing
  module _ {z : Sizes} (B : Booted f z) where
    sizes-are : 32 ≤ length bytes → sizes_of bytes ≡ z
    sizes-are l = sizes-come B.long l ∙ B.reads

    file-met : Met (SizeRow (length f) z end)
    file-met = (subst (λ (y : Sizes). y.version ≤ 1) B.reads B.version, (B.ranged, (B.held, tt)))

    file-long : 1024 ≤ z.n * z.l
    file-long = head-long z B.ranged.shape

    file-end : 32 ≤ length bytes → index_end (length f) (sizes_of bytes) ≡ z.n * z.l
    file-end l = ap (index_end (length f)) (sizes-are l) ∙ ends-met (length f) z file-met

    file-index : reached.link.came ≡ min (z.n * z.l) (length bytes)
    file-index =
        came-is
        ∙ ⊎_elim (λ (l : length bytes < 32). came-by (length f) bytes B.long (ends-early (length f) bytes B.long l) ∙ omega (arith, file-long))
        (λ (l : 32 ≤ length bytes). came-by (length f) bytes B.long (ends-late (length f) bytes B.long l ∙ file-end l) ∙ omega (arith, file-long))
        (lt-or-ge (length bytes) 32)

    file-first : reached ≡ taking (begun (length f) row) (take (z.n * z.l) bytes)
    file-first = first-state (length f) row enough ps (z.n * z.l) (omega (arith, file-long)) (λ l. omega (arith, file-end l))

    file-past : (i : ℕ) → 2 * capacity_of z ≤ i → get_or reached.row i 0 ≡ get_or row i 0
    file-past i h =
        ap (λ (r : List ℕ). get_or r i 0) row_is
        ∙ ⊎_elim (λ (l : length bytes < 32). ap (λ (r : List ℕ). get_or r i 0) (row-early (length f) bytes row enough (omega arith)))
        (λ (l : 32 ≤ length bytes). row-past (length f) bytes row enough i (omega (arith, ap capacity_of (sizes-are l)))) (lt-or-ge (length bytes) 32)

  -- its bootstrap is refused
  module _ {r : Refusal} (e : boot_of f ≡ Err r) where
    file-broken : 512 ≤ length f → 32 ≤ length bytes → Unbroken (length f) bytes → ⊥
    file-broken h l g =
        let m : Met (SizeRow (length f) (sizes_of f) end) = subst (λ (y : Sizes). Met (SizeRow (length f) y end)) (sizes-come h l) g in
        let B : Booted f (sizes_of f) = record { reads = refl; long = h; version = m.0; ranged = m.1.0; held = m.1.1.0 } in
        clear≢fires (fired (boot_checks f)) r (booted-clear B) (boot-fires f e)

    file-few : reached.link.came ≤ 32
    file-few =
        ⊎_elim (λ (h : length f < 512). omega (arith, came-is, came-short (length f) bytes h))
        (λ (h : 512 ≤ length f).
        ⊎_elim (λ (l : length bytes < 32). omega (arith, came-is, came-by (length f) bytes h (ends-early (length f) bytes h l)))
        (λ (l : 32 ≤ length bytes). omega (arith, came-is, came-broken (length f) bytes h (file-broken h l))) (lt-or-ge (length bytes) 32))
        (lt-or-ge (length f) 512)

    file-stays : reached.row ≡ row
    file-stays =
        row_is
        ∙ ⊎_elim (λ (h : length f < 512). row-short (length f) bytes row enough h)
        (λ (h : 512 ≤ length f).
        ⊎_elim (λ (l : length bytes < 32). row-early (length f) bytes row enough (omega arith))
        (λ (l : 32 ≤ length bytes). row-broken (length f) bytes row enough (file-broken h l)) (lt-or-ge (length bytes) 32))
        (lt-or-ge (length f) 512)

pub link-file : LinkFile
link-file f row ps enough comes =
    record {
      index = λ z o. file-index f row ps enough comes (boot-sound o);
      first = λ z o. file-first f row ps enough comes (boot-sound o);
      past = λ z o. file-past f row ps enough comes (boot-sound o);
      few = λ r e. file-few f row ps enough comes e;
      stays = λ r e. file-stays f row ps enough comes e;
    }
