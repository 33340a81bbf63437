-- A file said in the other form: what it answers to the question of the gaps and to the search, which rest on the runs and on the data section, and what of its N
-- records is zeros.
use Rattle.std.specs.Prelude.{Ok, Err}
use Prim.Native.Nat.{ℕ, zero, suc, ◌+◌, ◌-◌, ◌*◌, ◌≤◌, ◌<◌}
use mathlib.Core.Path.{◌≡◌, refl, sym, ◌∙◌, ap}
use mathlib.Core.Bool.{true, false, cond}
use mathlib.Core.List.{List, [], ◌∷◌, ◌++◌}
use mathlib.Core.Logic.{◌≢◌, inl, ⊎_elim}
use native.Mathlib.Omega.{arith}
use borrow.Author.Tests.{le-ltb, eq-eqb, ne_eqb}
use lib.Dec.{ltb, eqb}
use lib.ListN.{length, drop, get_or, length-append, get_or-eq_default}
use Rattle.lent.specs.Checks.{check, answer, judge}
use Rattle.lent.specs.Number.{numbers}
use Rattle.lent.specs.Part.{Alike}
use Rattle.lent.specs.Write.{write}
use Rattle.lent.proofs.Checks.{clear-append}
use Rattle.lent.proofs.Leasts.{least-same}
use Rattle.lent.proofs.Lists.{same_or, lt-or-ge, either}
use Rattle.lent.proofs.Numbers.{length-numbers}
use Rattle.lent.proofs.Parts.{part_same, alike-within}
use Rattle.lent.proofs.Writes.{get_or-zeros, pad-at}
use Rattle.paper.specs.declared.sizes.Sizes.{Sizes}
use Rattle.paper.specs.declared.refusal.Refusal.{Refusal}
use Rattle.paper.specs.declared.refusal.Refusal.TheVariants.{TooSmall}
use Rattle.paper.specs.Answers.{Ruled}
use Rattle.paper.specs.Sizes.{by_form, sizes_of, start_of, home_of, capacity_of, boot_checks, Shaped}
use Rattle.paper.specs.Index.{run_of, empty, Booted, Sound}
use Rattle.paper.specs.Scan.{ruled_of}
use Rattle.paper.specs.Store.{run_from}
use Rattle.paper.specs.Gaps.{left_at, gaps_zero, gaps_of}
use Rattle.paper.specs.Find.{rest_from, takes, takes_at, Find, find_at, go_on, find_turns, find_of, find_lines, find_checks, report_of, report_out}
use Rattle.paper.specs.Convert.{in_form, Carried, carried_at, boot_as, scan_as, entry_as, records_as, Sayable, Zeroed}
use Rattle.paper.proofs.Sizing.{less, times}
use Rattle.paper.proofs.Opening.{sound-open, booted-clear, facts-empty}
use Rattle.paper.proofs.Frame.{sharer-same}
use Rattle.paper.proofs.Gaps.{gaps-is}
use Rattle.paper.proofs.Finding.{window-found}
use Rattle.paper.proofs.Carrying.{middle-short, length-boot-as, scan_old, scan-short, entry-empty, entry-full, records-boot, records-entry}
use Rattle.paper.proofs.Reforming.{reform-length, reform-data, reform-run, reform-sound}
use Rattle.demands.specs.Entries.{Bytes}
use Rattle.demands.specs.Convert.{SameData}

-- ---- the search asks nothing of the form

module _ (v : ℕ) (g : List ℕ) (z : Sizes) where
  takes-form : (x : Ruled) → takes (in_form v z) x ≡ takes z x
  takes-form (Ok (head, rest)) = refl
  takes-form (Err reason) = refl

  at-form : (r : ℕ) → takes_at g (in_form v z) r ≡ takes_at g z r
  unfolding takes_at
  at-form r = takes-form (ruled_of (rest_from g z r) false)

  go-form : (r k : ℕ) (a b : ℕ → List Find) → ((j : ℕ) → a j ≡ b j) → go_on g (in_form v z) r k a ≡ go_on g z r k b
  go-form r zero a b e = e (r + 1)
  go-form r (suc k) a b e = ap (λ (xs : List Find). find_at g z r (r + k) ∷ xs) (e (r + suc k))

  turns-form : (k r : ℕ) → find_turns g (in_form v z) k r ≡ find_turns g z k r
  unfolding find_turns
  turns-form zero r = refl
  turns-form (suc k) r =
      ap (λ (xs : List Find). cond (ltb (z.n + z.d) r) [] xs)
      (ap (λ (t : ℕ). go_on g (in_form v z) r t (λ next. find_turns g (in_form v z) k next)) (at-form r)
      ∙ go-form r (takes_at g z r) (λ next. find_turns g (in_form v z) k next) (λ next. find_turns g z k next) (turns-form k))

  find-form : find_of g (in_form v z) ≡ find_of g z
  unfolding find_of
  find-form = turns-form (z.n + z.d + 1 - (z.n + 1)) (z.n + 1)

-- whatever is made of what is found, where the bootstrap is in order
module _ {A : Type 0} (refuse : Refusal → A) (put : List Find → A) (out : List ℕ) where
  -- 17 alone is left
  abbrev own : List Find → A
  own xs = judge refuse (check (ltb (length out) (3 * length xs)) TooSmall ∷ []) (put xs)

  left-own : {h : List ℕ} {z : Sizes} → Booted h z → judge refuse (find_checks h out) (put (find_of h (sizes_of h))) ≡ own (find_of h z)
  left-own {h} {z} b =
      let xs : List Find = find_of h (sizes_of h) in
      ap (answer refuse (put xs)) (clear-append (boot_checks h) (check (ltb (length out) (3 * length xs)) TooSmall ∷ []) (booted-clear b))
      ∙ ap (λ (y : Sizes). own (find_of h y)) b.reads

-- ---- a file said in form v

module _ (v : ℕ) (form : v ≤ 1) {f : List ℕ} {z : Sizes} (S : Sound f z) (Y : Sayable v f z) (low : Bytes f) where
  abbrev rest : List ℕ
  rest = drop (z.n * z.l) f

  abbrev g : List ℕ
  g = records_as v z (carried_at f z) ++ rest

  abbrev y : Sizes
  y = in_form v z

  G : Sound g y
  G = reform-sound v form S Y low

  len : length g ≡ length f
  len = reform-length v form S Y low

  R : Shaped z
  R = S.booted.ranged.shape

  -- a data record is the same
  record-alike : (r : ℕ) → z.n < r → r ≤ z.n + z.d → Alike f g (start_of z r) (start_of z r + z.l)
  record-alike r a b =
      alike-within f g (times z.n (r - 1) z.l (omega arith)) (omega (arith, less r z.l (omega arith), times r (z.n + z.d) z.l b, S.booted.held))
      (reform-data v form S Y low)

  -- "every data record in no listed scan"
  left-same : (r : ℕ) → 0 < r → r ≤ z.n + z.d → left_at g y r ≡ left_at f z r
  unfolding left_at
  left-same r a b =
      ⊎_elim
      (λ (h : z.n < r).
      rw (
        sharer-same z (run_of g y) (run_of f z) (capacity_of z) (λ s p q. reform-run v form S Y low s p q) (run_from r 1) z.u S.booted.ranged.used,
        part_same f g (start_of z r) (start_of z r + z.l) len (record-alike r h b),
      ) refl)
      (λ (h : r ≤ z.n). rw (le-ltb z.n r h) refl) (lt-or-ge z.n r)

  zero_same : gaps_zero g y ≡ gaps_zero f z
  unfolding gaps_zero
  zero_same = ap (λ (k : ℕ). eqb k 0) (least-same (left_at g y) (left_at f z) (z.n + z.d) left-same)

  gaps-same : gaps_of g ≡ gaps_of f
  gaps-same = gaps-is g y (sound-open G) ∙ ap Ok zero_same ∙ sym (gaps-is f z (sound-open S))

  -- the search
  found-same : find_of g y ≡ find_of f z
  found-same =
      find-form v g z
      ∙ window-found f g S.booted len (λ r a b. inl (alike-within f g (omega arith) (omega (arith, R.l_low)) (record-alike r a b)))

  reported-same : {A : Type 0} (refuse : Refusal → A) (put : List Find → A) (out : List ℕ)
      → judge refuse (find_checks g out) (put (find_of g (sizes_of g))) ≡ judge refuse (find_checks f out) (put (find_of f (sizes_of f)))
  reported-same refuse put out = left-own refuse put out G.booted ∙ ap (own refuse put out) found-same ∙ sym (left-own refuse put out S.booted)

  pub reform-section : SameData f (records_as v z (carried_at f z) ++ drop (z.n * z.l) f)
  unfolding report_of report_out
  reform-section =
      record {
        gaps = gaps-same;
        finds = ap (find_of g) G.booted.reads ∙ found-same ∙ ap (find_of f) (sym S.booted.reads);
        search = λ out. reported-same Err (λ xs. Ok (length xs)) out;
        reported = λ out. reported-same (λ r. out) (λ xs. write out 0 (find_lines xs)) out;
      }

  -- ---- what is zeros

  module _ (s : ℕ) (a : 1 ≤ s) (b : s ≤ capacity_of z) where
    abbrev c : Carried
    c = carried_at f z s

    byte : (i : ℕ) → i < z.m → get_or g (home_of z s + i) 0 ≡ get_or (entry_as v z.m c) i 0
    byte i h = records-entry v z (carried_at f z) R (middle-short f z) rest s i a b h

    byte-empty : empty (run_of f z s) ≡ true → (i : ℕ) → i < z.m → get_or g (home_of z s + i) 0 ≡ 0
    byte-empty e i h = byte i h ∙ ap (λ (x : List ℕ). get_or x i 0) (entry-empty v c z.m e) ∙ get_or-zeros z.m i

    -- a scan's entry is 60 bytes of the old form, 62 of the current one
    scan-ends : length (scan_as v c) ≤ by_form v 60 62
    scan-ends =
        let four : List ℕ = c.run.first ∷ c.run.last ∷ 2 ∷ c.position ∷ [] in
        ⊎_elim
        (λ (e : v ≡ 0).
        rw (eq-eqb v 0 e, scan_old v c e) (omega (arith, length-append (numbers 2 four) c.middle, length-numbers 2 four, middle-short f z s)))
        (λ (e : v ≢ 0). rw (ne_eqb v 0 e) (scan-short v c (middle-short f z s))) (same_or v 0)

    byte_past : (i : ℕ) → by_form v 60 62 ≤ i → i < z.m → get_or g (home_of z s + i) 0 ≡ 0
    byte_past i h k =
        ⊎_elim (λ (e : empty (run_of f z s) ≡ true). byte-empty e i k)
        (λ (e : empty (run_of f z s) ≡ false).
        byte i k ∙ ap (λ (x : List ℕ). get_or x i 0) (entry-full v c z.m e) ∙ pad-at z.m (scan_as v c) i
        ∙ get_or-eq_default (scan_as v c) 0 (omega (arith, scan-ends)))
        (either (empty (run_of f z s)))

  pub reform-zeroed : Zeroed (records_as v z (carried_at f z) ++ drop (z.n * z.l) f) (in_form v z) (by_form v 12 32) (by_form v 60 62)
  reform-zeroed =
      record {
        first = λ i h k.
            records-boot v z (carried_at f z) R (middle-short f z) rest i k ∙ get_or-eq_default (boot_as v z) 0 (omega (arith, length-boot-as v z));
        padding = byte_past;
        empties = λ s a b e. byte-empty s a b (ap empty (sym (reform-run v form S Y low s a b)) ∙ facts-empty (run_of g y s) e);
      }
