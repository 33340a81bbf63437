-- A call on a slot of a file that opens: of the refusals only 9 and 10 are left, and the answer hangs on what the slot holds. Two files whose sizes agree in N, L and M
-- and whose slot holds the same scan show and read it alike.
use Rattle.std.specs.Prelude.{Ok, Err}
use Prim.Native.Nat.{ℕ, ◌+◌, ◌-◌, ◌*◌}
use mathlib.Core.Path.{◌≡◌, refl, sym, ◌∙◌, ap}
use mathlib.Core.Bool.{Bool, true, false, not}
use mathlib.Core.List.{List, [], ◌∷◌}
use native.Mathlib.Omega.{arith}
use lib.IntN.{ℤ}
use lib.ListN.{drop}
use lib.Seq.{take-take}
use Rattle.lent.specs.Checks.{Check, check, Fired, clear, fires, fired, answer, judge}
use Rattle.lent.specs.Lists.{all}
use Rattle.lent.specs.Number.{big, int16}
use Rattle.lent.specs.Part.{part, Alike}
use Rattle.lent.proofs.Numbers.{number_same}
use Rattle.lent.proofs.Parts.{length-part-min}
use Rattle.lent.proofs.Checks.{judge-append}
use Rattle.paper.specs.declared.sizes.Sizes.{Sizes}
use Rattle.paper.specs.declared.sizes.Run.{Run}
use Rattle.paper.specs.declared.refusal.Refusal.{Refusal}
use Rattle.paper.specs.declared.refusal.Refusal.TheVariants.{EmptySlot, NotVersionOne}
use Rattle.paper.specs.Answers.{Ruled, Span}
use Rattle.paper.specs.declared.entry.Entry.{Entry}
use Rattle.paper.specs.Sizes.{sizes_of, word_at, home_of, start_of}
use Rattle.paper.specs.Index.{run_of, empty, Full, shown_of, open_of, Sound}
use Rattle.paper.specs.Entry.{magic_of, position_of, version_one, fields_of}
use Rattle.paper.specs.Scan.{ruled_of, part_of}
use Rattle.paper.specs.Look.{slot_tests, no_slot, no_scan, slot_checks, records_span, show_of, read_in, read_of, InIndex}
use Rattle.paper.proofs.Opening.{full-facts, then-opens, open-reads, sound-open}
use Rattle.paper.proofs.Rules.{keeps-lengths}
use Rattle.paper.proofs.Begins.{slot-facts}
use Rattle.demands.specs.Entries.{with_magic}

-- ---- the refusals that are left

abbrev own : Sizes → ℕ → Run → List (Check Refusal)
own z s r = no_slot z s ∷ no_scan r ∷ []

module _ {A : Type 0} (refuse : Refusal → A) where
  -- only 9 and 10 are left
  call_opens : (f : List ℕ) (z : Sizes) (s : ℕ) (a : Sizes → A) → open_of f ≡ Ok z → judge refuse (slot_checks f s) (a (sizes_of f)) ≡ judge refuse (own z s (run_of f z s)) (a z)
  call_opens f z s a o =
      ap (answer refuse (a (sizes_of f))) (then-opens f (own (sizes_of f) s (run_of f (sizes_of f) s)) o)
      ∙ ap (λ (y : Sizes). judge refuse (own y s (run_of f y s)) (a y)) (open-reads f o)

  -- and they and the answer hang on what the slot holds
  same-call : (z : Sizes) (s : ℕ) (q r : Run) (a b : A) → (InIndex z s → q ≡ r) → (InIndex z s → Full r → a ≡ b) → judge refuse (own z s q) a ≡ judge refuse (own z s r) b
  same-call z s q r a b e k = go (not (all (slot_tests z s))) refl
    where
      held : (t : Bool) → empty r ≡ t → InIndex z s → judge refuse (check t EmptySlot ∷ []) a ≡ judge refuse (check t EmptySlot ∷ []) b
      held true m i = refl
      held false m i = k i (full-facts r m)

      go : (t : Bool) → not (all (slot_tests z s)) ≡ t → judge refuse (own z s q) a ≡ judge refuse (own z s r) b
      go true h = rw h refl
      go false h = let i = slot-facts z s h in ap (λ (x : Run). judge refuse (own z s x) a) (e i) ∙ rw h (held (empty r) refl i)

part-judge : (g : List ℕ) (cs : List (Check Refusal)) (x : Span) → part_of g (judge Err cs x) ≡ judge (λ (r : Refusal). []) cs (part_of g x)
part-judge g cs x = go (fired cs)
  where
    go : (y : Fired Refusal) → part_of g (answer Err x y) ≡ answer (λ (r : Refusal). []) (part_of g x) y
    go clear = refl
    go (fires r) = refl

-- what is read lies in what is shown
read-within : (g : List ℕ) (from to : ℕ) → part_of g (read_in from (ruled_of (part from to g) false)) ≡ part_of (part from to g) (read_in 0 (ruled_of (part from to g) false))
read-within g from to = go (ruled_of (part from to g) false) refl
  where
    go : (x : Ruled) → ruled_of (part from to g) false ≡ x → part_of g (read_in from x) ≡ part_of (part from to g) (read_in 0 x)
    go (Err n) e = refl
    go (Ok (head, rest)) e =
        let a : from + (head + rest) - from ≡ head + rest = omega arith in
        let b : 0 + (head + rest) - 0 ≡ head + rest = omega arith in
        rw (a, b) (sym (take-take (head + rest) (to - from) (drop from g) (omega (arith, (keeps-lengths e).within, length-part-min from to g))))

-- ---- two files that open, whose slot s holds the same

module _ (f g : List ℕ) (z : Sizes) (d u c k w : ℕ) (F : Sound f z)
    (G : Sound g (record { n = z.n; d = d; l = z.l; m = z.m; u = u; counter = c; kind = k; version = w })) (s : ℕ) where
  abbrev y : Sizes
  y = record { n = z.n; d = d; l = z.l; m = z.m; u = u; counter = c; kind = k; version = w }

  module _ (runs : InIndex z s → run_of g (record { n = z.n; d = d; l = z.l; m = z.m; u = u; counter = c; kind = k; version = w }) s ≡ run_of f z s) where
    -- a call's answer by what the slot holds, in either file
    pub both : {A : Type 0} (refuse : Refusal → A) (a b : Sizes → A)
        → (InIndex z s → Full (run_of f z s) → a (record { n = z.n; d = d; l = z.l; m = z.m; u = u; counter = c; kind = k; version = w }) ≡ b z)
        → judge refuse (slot_checks g s) (a (sizes_of g)) ≡ judge refuse (slot_checks f s) (b (sizes_of f))
    both refuse a b e =
        call_opens refuse g y s a (sound-open G) ∙ same-call refuse z s (run_of g y s) (run_of f z s) (a y) (b z) runs e
        ∙ sym (call_opens refuse f z s b (sound-open F))

    module _ (shown : InIndex z s → shown_of g (record { n = z.n; d = d; l = z.l; m = z.m; u = u; counter = c; kind = k; version = w }) s ≡ shown_of f z s)
        (one : InIndex z s → Full (run_of f z s) → version_one w g (home_of z s) ≡ version_one z.version f (home_of z s)) where
      abbrev shows-of : List ℕ → Sizes → Span
      shows-of h x = records_span x (run_of h x s)

      -- 18, then the rules
      abbrev other-in : List ℕ → Sizes → List (Check Refusal)
      other-in h x = check (not (version_one x.version h (home_of x s))) NotVersionOne ∷ []

      abbrev scan-in : List ℕ → Sizes → Span
      scan-in h x = read_in (start_of x (run_of h x s).first) (ruled_of (shown_of h x s) false)

      abbrev reads_of : List ℕ → Sizes → Span
      reads_of h x = judge Err (other-in h x) (scan-in h x)

      read_is : (h : List ℕ) → read_of h s ≡ judge Err (slot_checks h s) (reads_of h (sizes_of h))
      unfolding read_of
      read_is h = judge-append Err (slot_checks h s) (other-in h (sizes_of h)) (scan-in h (sizes_of h))

      others : InIndex z s → Full (run_of f z s) → other-in g y ≡ other-in f z
      others i full = ap (λ (t : Bool). check (not t) NotVersionOne ∷ []) (one i full)

      pub show-same : show_of g s ≡ show_of f s
      unfolding show_of
      show-same = both Err (shows-of g) (shows-of f) (λ i full. ap (records_span z) (runs i))

      pub shows_same : part_of g (show_of g s) ≡ part_of f (show_of f s)
      unfolding show_of
      shows_same =
          part-judge g (slot_checks g s) (shows-of g (sizes_of g))
          ∙ both (λ r. []) (λ x. part_of g (shows-of g x)) (λ x. part_of f (shows-of f x)) (λ i full. shown i)
          ∙ sym (part-judge f (slot_checks f s) (shows-of f (sizes_of f)))

      pub read_same : read_of g s ≡ read_of f s
      read_same =
          read_is g
          ∙ both Err (reads_of g) (reads_of f)
          (λ i full.
          ap (λ (cs : List (Check Refusal)). judge Err cs (scan-in g y)) (others i full)
          ∙ ap (judge Err (other-in f z))
          (ap (λ (r : Run). read_in (start_of z r.first) (ruled_of (shown_of g y s) false)) (runs i)
          ∙ ap (λ (b : List ℕ). read_in (start_of z (run_of f z s).first) (ruled_of b false)) (shown i)))
          ∙ sym (read_is f)

      pub reads_same : part_of g (read_of g s) ≡ part_of f (read_of f s)
      reads_same =
          ap (part_of g) (read_is g) ∙ part-judge g (slot_checks g s) (reads_of g (sizes_of g))
          ∙ both (λ r. []) (λ x. part_of g (reads_of g x)) (λ x. part_of f (reads_of f x))
          (λ i full.
          part-judge g (other-in g y) (scan-in g y)
          ∙ ap (λ (cs : List (Check Refusal)). judge (λ (r : Refusal). []) cs (part_of g (scan-in g y))) (others i full)
          ∙ ap (judge (λ (r : Refusal). []) (other-in f z))
          (read-within g (start_of z (run_of g y s).first) ((run_of g y s).last * z.l)
          ∙ ap (λ (b : List ℕ). part_of b (read_in 0 (ruled_of b false))) (shown i)
          ∙ sym (read-within f (start_of z (run_of f z s).first) ((run_of f z s).last * z.l)))
          ∙ sym (part-judge f (other-in f z) (scan-in f z)))
          ∙ sym (ap (part_of f) (read_is f) ∙ part-judge f (slot_checks f s) (reads_of f (sizes_of f)))

-- ---- an entry's fields rest on its numbers, its position code and its bytes 8 to 59, and the magic number on itself

pub fields-rest : (f g : List ℕ) (v w at : ℕ) → word_at v g at 0 ≡ word_at w f at 0 → word_at v g at 1 ≡ word_at w f at 1 → position_of v g at ≡ position_of w f at
    → part (at + 16) (at + 32) g ≡ part (at + 16) (at + 32) f → Alike f g (at + 8) (at + 60)
    → fields_of v g at ≡ with_magic (int16 (magic_of v g at)) (fields_of w f at)
unfolding fields_of
fields-rest f g v w at first last position source middle =
    rw (
      first,
      last,
      number_same big 4 f g (at + 8) (at + 60) (at + 8) middle (omega arith) (omega arith),
      number_same big 4 f g (at + 8) (at + 60) (at + 12) middle (omega arith) (omega arith),
      source,
      number_same big 4 f g (at + 8) (at + 60) (at + 32) middle (omega arith) (omega arith),
      number_same big 4 f g (at + 8) (at + 60) (at + 36) middle (omega arith) (omega arith),
      number_same big 8 f g (at + 8) (at + 60) (at + 40) middle (omega arith) (omega arith),
      number_same big 4 f g (at + 8) (at + 60) (at + 48) middle (omega arith) (omega arith),
      number_same big 4 f g (at + 8) (at + 60) (at + 52) middle (omega arith) (omega arith),
      number_same big 2 f g (at + 8) (at + 60) (at + 56) middle (omega arith) (omega arith),
      number_same big 2 f g (at + 8) (at + 60) (at + 58) middle (omega arith) (omega arith),
      position,
    ) refl

pub field-magic : (v : ℕ) (f : List ℕ) (at : ℕ) → (fields_of v f at).magic ≡ int16 (magic_of v f at)
unfolding fields_of
field-magic v f at = refl

-- the magic number that it has
pub magic-kept : (m : ℤ) (e : Entry) → e.magic ≡ m → with_magic m e ≡ e
magic-kept m e h = ap (λ (x : ℤ). with_magic x e) (sym h)
