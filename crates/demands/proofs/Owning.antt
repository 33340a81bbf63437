-- 2026-06: the files that this store makes meet the premises of the search.
use Rattle.std.specs.Prelude.{Ok}
use Prim.Native.Nat.{ℕ, ◌+◌, ◌-◌, ◌*◌, ◌/◌, ◌≤◌, ◌<◌}
use mathlib.Core.Path.{◌≡◌, refl, sym, ◌∙◌, ap, subst}
use mathlib.Core.Bool.{Bool, true, false, cond}
use mathlib.Core.List.Memᴰ
use mathlib.Core.List.{List, [], ◌∷◌, Memᴰ}
use mathlib.Core.Logic.{⊎_elim}
use native.Mathlib.Omega.{arith}
use native.Mathlib.Nat.{add-mul}
use lib.Dec.{leb, eqb}
use lib.ListN.{length}
use Rattle.lent.specs.Write.{zeros, pad}
use Rattle.lent.proofs.Lists.{lt-or-ge, also-true}
use Rattle.lent.proofs.Parts.{length_part}
use Rattle.lent.proofs.Writes.{length-pad}
use Rattle.paper.specs.declared.sizes.Sizes.{Sizes}
use Rattle.paper.specs.declared.sizes.Run.{Run}
use Rattle.paper.specs.Sizes.{sizes_of, renewed, capacity_of, start_of}
use Rattle.paper.specs.Index.{run_of, Full, shown_of, open_of, Sound}
use Rattle.paper.specs.Scan.{headlen, datalen, ruled_of}
use Rattle.paper.specs.Store.{blank_sizes, blank_file, records_for, many_of, save_of, keep_of}
use Rattle.paper.specs.Gaps.{gaps_of}
use Rattle.paper.proofs.Sizing.{times}
use Rattle.paper.proofs.Opening.{open-sound, open-reads, inside-all, lies-end}
use Rattle.paper.proofs.Writes.{enough}
use Rattle.paper.proofs.Rules.{kept, keeps-lengths, rules-longer}
use Rattle.paper.proofs.Reasons.{kept_rule}
use Rattle.paper.proofs.Begins.{save-taken, keep_taken}
use Rattle.demands.specs.History.{Op, save, keep, clear, records_of, slot_of, takes, Cut, steps_of, run, reached, Held, held_at, given, Holding, put, change, Done, Wholes, after, holds}
use Rattle.demands.specs.Gaps.{Finished}
use Rattle.demands.specs.Find.{Obeys, Fills, AllFill}
use Rattle.demands.specs.Ours.{FillsStay, BlankFills, FoundStays, OurFilesAreFound}
use Rattle.demands.proofs.Start.{accepts}
use Rattle.demands.proofs.Survived.{power-cut}
use Rattle.demands.proofs.Telling.{list-exactly}
use Rattle.demands.proofs.Zeroing.{gaps-exactly, gaps-stay}
use Rattle.demands.proofs.Finding.{finds-listed}
use Rattle.demands.proofs.Losing.{finds-lost}
use Rattle.demands.proofs.Filled.{blank-opens}

-- ---- a blank file

pub blank-fills : BlankFills
blank-fills f n l m e =
    let none = (blank-opens f n l m e).1 in (
      record { zero = λ r g. absurd (let a = g.past in let b = g.within in omega arith) },
      λ s h. absurd (Memᴰ.not-nil (subst (λ (xs : List ℕ). Memᴰ s xs) none h)),
    )

-- ---- bytes that fill their records

-- they obey the rules, and are as many as the records of L bytes have that HEADLEN + DATALEN take
record Fill (l : ℕ) (bytes : List ℕ) : Type 0 where
  obeys : Obeys bytes
  exactly : length bytes ≡ (headlen bytes + datalen bytes + (l - 1)) / l * l

-- of a slot that has bytes
abbrev Filled : ℕ → List ℕ → Type 0
Filled l bytes = 0 < length bytes → Fill l bytes

-- a scan that obeys the rules for saving, padded to whole records
pad-fills : (l : ℕ) (scan : List ℕ) → 1 ≤ l → ruled_of scan true ≡ Ok (headlen scan, datalen scan) → Fill l (pad ((length scan + (l - 1)) / l * l) scan)
unfolding pad
pad-fills l scan l₁ e =
    let n : ℕ = (length scan + (l - 1)) / l * l in
    let k = kept (rules-longer scan (zeros (n - length scan)) true e) in
    let q : headlen (pad n scan) + datalen (pad n scan) ≡ length scan = omega (arith, k.head_is, k.rest_is, (keeps-lengths e).fills refl) in
    record {
      obeys = kept_rule k;
      exactly = length-pad n scan (enough l (length scan) l₁) ∙ ap (λ (x : ℕ). (x + (l - 1)) / l * l) (sym q);
    }

-- what an accepted operation gives its slot
given-fills : (f : List ℕ) (op : Op) → 1 ≤ (sizes_of f).l → takes f op ≡ true → Filled (sizes_of f).l (given f (sizes_of f) op).records
given-fills f (save slot scan about) l e h =
    pad-fills (sizes_of f).l scan l (save-taken f slot scan about (accepts (save_of f slot scan about) e)).placed.keeps
given-fills f (keep scan about) l e h = pad-fills (sizes_of f).l scan l (keep_taken f scan about (accepts (keep_of f scan about) e)).placed.keeps
given-fills f (clear slot) l e h = absurd (omega arith)

-- ---- a slot that fills its records, by its bytes

-- as many records where they have as many bytes
same-many : (a b l : ℕ) → 1 ≤ l → a * l ≡ b * l → a ≡ b
same-many a b l l₁ e =
    ⊎_elim (λ (h : a < b). absurd (omega (arith, add-mul a 1 l, times (a + 1) b l (omega arith))))
    (λ (h : b ≤ a).
    ⊎_elim (λ (k : b < a). absurd (omega (arith, add-mul b 1 l, times (b + 1) a l (omega arith)))) (λ (k : a ≤ b). omega arith) (lt-or-ge b a))
    (lt-or-ge a b)

module _ {g : List ℕ} {y : Sizes} (S : Sound g y) (s : ℕ) (low : 1 ≤ s) (high : s ≤ capacity_of y) where
  abbrev r : Run
  r = run_of g y s

  l₁ : 1 ≤ y.l
  l₁ = omega (arith, S.booted.ranged.shape.l_low)

  -- the bytes of a slot are those of its records
  shown-long : length (shown_of g y s) ≡ r.last * y.l - start_of y r.first
  shown-long = length_part (start_of y r.first) (r.last * y.l) g (lies-end S.booted (inside-all S.laid s low high))

  -- a slot that shows bytes is not empty
  shown-full : 0 < length (shown_of g y s) → Full r
  shown-full h =
      ⊎_elim (λ (k : Full r). k)
      (λ (k : r.first + r.last ≤ 0).
      let e : r.last ≡ 0 = omega arith in
      absurd (omega (arith, shown-long, ap (λ (x : ℕ). x * y.l) e)))
      (lt-or-ge 0 (r.first + r.last))

  module _ (full : Full r) where
    many-some : 1 ≤ many_of r
    many-some = let h = inside-all S.laid s low high in omega (arith, h.low full, h.order full)

    many-long : length (shown_of g y s) ≡ many_of r * y.l
    many-long =
        let h = inside-all S.laid s low high in
        let e : r.last ≡ r.first - 1 + many_of r = omega (arith, h.low full, h.order full) in
        omega (arith, shown-long, ap (λ (x : ℕ). x * y.l) e, add-mul (r.first - 1) (many_of r) y.l)

    some-long : 0 < length (shown_of g y s)
    some-long = omega (arith, many-long, l₁, times 1 (many_of r) y.l many-some)

    fills-fill : Fills g y s → Fill y.l (shown_of g y s)
    fills-fill F = record { obeys = F.obeys; exactly = many-long ∙ ap (λ (x : ℕ). x * y.l) (sym F.exactly) }

    fill-fills : Fill y.l (shown_of g y s) → Fills g y s
    fill-fills F =
        record {
          obeys = F.obeys;
          exactly =
              same-many (records_for y (headlen (shown_of g y s) + datalen (shown_of g y s))) (many_of r) y.l l₁ (sym F.exactly ∙ many-long);
        }

-- ---- and after a history

reached-takes : (f : List ℕ) (op : Op) (cut : Cut) → reached f op cut ≡ true → takes f op ≡ true
unfolding reached
reached-takes f op cut e = (also-true (takes f op) (leb (records_of (sizes_of f) op + 2) (steps_of cut)) e).0

-- an operation, cut anywhere, leaves every slot filled
change-fills : (f : List ℕ) (z : Sizes) → open_of f ≡ Ok z → (op : Op) (cut : Cut) (h : Holding) (s : ℕ)
    → Filled z.l (h s).records → Filled z.l (change f op cut h s).records
change-fills f z o op cut h s k = go (reached f op cut) refl
  where
    give : takes f op ≡ true → Filled z.l (given f (sizes_of f) op).records
    give t =
        let e : sizes_of f ≡ z = open-reads f o in
        let l : 1 ≤ (sizes_of f).l = omega (arith, ap (λ (y : Sizes). y.l) e, (open-sound o).booted.ranged.shape.l_low) in
        subst (λ (y : Sizes). Filled y.l (given f (sizes_of f) op).records) e (given-fills f op l t)

    own : takes f op ≡ true → (b : Bool) → Filled z.l (cond b (given f (sizes_of f) op) (h s)).records
    own t true = give t
    own t false = k

    go : (b : Bool) → reached f op cut ≡ b → Filled z.l (cond b (put h (slot_of f op) (given f (sizes_of f) op) s) (h s)).records
    go true e = own (reached-takes f op cut e) (eqb s (slot_of f op))
    go false e = k

holds-fill : (os : List Done) (f : List ℕ) (z : Sizes) → open_of f ≡ Ok z → Wholes os → (h : Holding)
    → ((s : ℕ) → 1 ≤ s → s ≤ capacity_of z → Filled z.l (h s).records) → (s : ℕ) → 1 ≤ s → s ≤ capacity_of z → Filled z.l (holds f os h s).records
holds-fill [] f z o w h k s a b = k s a b
holds-fill (x ∷ os) f z o w h k s a b =
    let one = power-cut f z o (x ∷ []) (w.0, tt) in
    holds-fill os (run f x.op x.cut) (renewed z one.d one.u one.c) one.opens w.1 (change f x.op x.cut h)
    (λ t c d. change-fills f z o x.op x.cut h t (k t c d)) s a b

-- the slots of a file whose scans all fill their records
start-fills : (f : List ℕ) (z : Sizes) → open_of f ≡ Ok z → AllFill f z → (s : ℕ) → 1 ≤ s → s ≤ capacity_of z → Filled z.l (shown_of f z s)
start-fills f z o A s a b h =
    let S = open-sound o in
    let full = shown-full S s a b h in
    fills-fill S s a b full (A s ((list-exactly f z o).each s a b full))

pub fills-stay : FillsStay
fills-stay f z o A os w y e =
    let x = power-cut f z o os w in
    let v : Sizes = renewed z x.d x.u x.c in
    let S = open-sound x.opens in
    let same : v ≡ y = sym (open-reads (after f os) x.opens) ∙ open-reads (after f os) e in
    subst (AllFill (after f os)) same
    (λ s m.
    let i = (list-exactly (after f os) v x.opens).only s m in
    let q : shown_of (after f os) v s ≡ (holds f os (held_at f z) s).records = ap (λ (t : Held). t.records) (x.shows s i.0 i.1) in
    fill-fills S s i.0 i.1 i.2
    (subst (Filled z.l) (sym q) (holds-fill os f z o w (held_at f z) (start-fills f z o A) s i.0 i.1) (some-long S s i.0 i.1 i.2)))

-- ---- after confirmed jobs alone

pub found-stays : FoundStays
found-stays f z o G A os w d =
    let g : List ℕ = after f os in
    let x = power-cut f z o os w in
    let yes : gaps_of g ≡ Ok true = gaps-stay f z o ((gaps-exactly f z o).so_yes G) os w d in
    let gaps = (gaps-exactly g _ x.opens).yes_so yes in
    let fill = fills-stay f z o A os w _ x.opens in
    record {
      z = _;
      opens = x.opens;
      gaps = gaps;
      fill = fill;
      listed = finds-listed g _ x.opens gaps fill;
      lost = λ h l. finds-lost g h _ x.opens gaps fill l;
    }

pub ours-found : OurFilesAreFound
ours-found f n l m e os w d =
    let g : List ℕ = blank_file f n l m in
    let done : Finished g os = d in
    let b = blank-fills f n l m e in
    found-stays g (blank_sizes n l m) (blank-opens f n l m e).0 b.0 b.1 os w done
