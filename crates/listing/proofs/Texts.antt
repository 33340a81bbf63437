-- The text from its lines, and how long it can be.
use Rattle.std.specs.Prelude.{Ok, Err}
use Prim.Native.Nat.{ℕ, ◌+◌, ◌≤◌}
use mathlib.Core.Path.{◌≡◌, refl, ◌∙◌, ap, subst}
use mathlib.Core.List.{List, [], ◌∷◌, ◌++◌, append_assoc}
use mathlib.Core.Logic.{⊎_elim}
use native.Mathlib.Nat.{zero-add}
use native.Mathlib.Omega.{arith}
use lib.ListN.{length, length-append}
use Rattle.lent.specs.Write.{write}
use Rattle.lent.proofs.Lists.{lt-or-ge}
use Rattle.lent.proofs.Writes.{length-write-max}
use Rattle.paper.specs.declared.sizes.Sizes.{Sizes}
use Rattle.paper.specs.declared.sizes.Run.{Run}
use Rattle.paper.specs.declared.refusal.Refusal.{Refusal}
use Rattle.paper.specs.Answers.{Opened}
use Rattle.paper.specs.Refusals.{number_of, value_of}
use Rattle.paper.specs.Sizes.{capacity_of, Ranged}
use Rattle.paper.specs.Index.{run_of, row_run, Full, slots_of, open_of, Lies, Sound}
use Rattle.paper.specs.Lister.{decimal, lines_text, text_of, list_text, slots_word, used_word, scans_word, refused_word, slot_word}
use Rattle.paper.proofs.Opening.{open-sound, inside-all}
use Rattle.entries.specs.Row.{Runs}
use Rattle.look.specs.Put.{Put}
use Rattle.look.specs.Rows.{scans_in, joined, pieces_in}
use Rattle.look.proofs.Putting.{same-pieces, all_short}
use Rattle.look.proofs.Rowing.{row-slots}
use Rattle.listing.specs.Text.{two_of, three_of, head_of, line_for, refused_of}
use Rattle.listing.proofs.Decimals.{length-decimal, length_most}

-- ---- the definition's text

lines-joined : (run : ℕ → Run) (ss : List ℕ) → lines_text run ss ≡ joined (λ s. line_for s (run s)) ss
unfolding lines_text joined
lines-joined run [] = refl
lines-joined run (s ∷ ss) = ap (λ (l : List ℕ). line_for s (run s) ++ l) (lines-joined run ss)

-- three numbers in a line, and what comes after
three-then : (v : List ℕ) (a : ℕ) (w : List ℕ) (b : ℕ) (x : List ℕ) (c : ℕ) (rest : List ℕ)
    → three_of v a w b x c ++ rest ≡ v ++ (decimal a ++ (w ++ (decimal b ++ (x ++ (decimal c ++ (10 ∷ rest))))))
three-then v a w b x c rest = simp append_assoc

pub text-refused : (f : List ℕ) {r : Refusal} → open_of f ≡ Err r → refused_of r ≡ list_text f
unfolding list_text
text-refused f o = rw o

opens-text : (f : List ℕ) (z : Sizes)
    → head_of (capacity_of z) z.u (length (slots_of z (run_of f z))) ++ pieces_in line_for (run_of f z) z.u ≡ text_of f (Ok z)
unfolding slots_of
opens-text f z =
    rw (← lines-joined (run_of f z) (slots_of z (run_of f z)))
    (three-then slots_word (capacity_of z) used_word z.u scans_word (length (slots_of z (run_of f z))) (lines_text (run_of f z) (slots_of z (run_of f z))))

-- the same from a row that holds the runs
pub text-opens : (f : List ℕ) {z : Sizes} (o : open_of f ≡ Ok z) (row : List ℕ) (rs : Runs f z row z.u)
    {cap n : ℕ} → cap ≡ capacity_of z → n ≡ length (scans_in (row_run row) z.u)
    → head_of cap z.u n ++ pieces_in line_for (row_run row) z.u ≡ list_text f
unfolding list_text
text-opens f {z} o row rs {cap} {n} p q =
    let e : n ≡ length (slots_of z (run_of f z)) = q ∙ ap length (row-slots f row rs) in
    rw (o, p, e, same-pieces line_for (row_run row) (run_of f z) z.u rs.run) (opens-text f z)

-- ---- its length

length_two : (w : List ℕ) (b : ℕ) (x : List ℕ) (c : ℕ) → length (two_of w b x c) ≡ length w + length (decimal b) + (length x + length (decimal c) + 1)
length_two w b x c = simp length-append (omega arith)

length_three : (v : List ℕ) (a : ℕ) (w : List ℕ) (b : ℕ) (x : List ℕ) (c : ℕ) → length (three_of v a w b x c) ≡ length v + length (decimal a) + length (two_of w b x c)
length_three v a w b x c = simp length-append (omega arith)

pub refused-short : (n v : ℕ) → length (two_of refused_word n slot_word v) ≤ 55
refused-short n v = omega (arith, length_two refused_word n slot_word v, length_most n, length_most v)

pub head_short : (slots used scans : ℕ) → length (head_of slots used scans) ≤ 80
head_short slots used scans =
    omega
    (arith, length_three slots_word slots used_word used scans_word scans, length_two used_word used scans_word scans, length_most slots, length_most used, length_most scans)

-- four digits for a slot, seven for a record
line-short : (s : ℕ) (r : Run) → s ≤ 4096 → r.first ≤ 1000000 → r.last ≤ 1000000 → length (line_for s r) ≤ 21
line-short s r h k l =
    omega (
      arith,
      length_three [] s (32 ∷ []) r.first (32 ∷ []) r.last,
      length_two (32 ∷ []) r.first (32 ∷ []) r.last,
      length-decimal 3 s (omega arith),
      length-decimal 6 r.first (omega arith),
      length-decimal 6 r.last (omega arith),
    )

lies-first : (z : Sizes) (r : Run) → Lies z r → r.first ≤ z.n + z.d
lies-first z r h =
    ⊎_elim (λ (k : Full r). omega (arith, h.order k, h.high)) (λ (k : r.first + r.last ≤ 0). omega arith) (lt-or-ge 0 (r.first + r.last))

lines-short : (f : List ℕ) {z : Sizes} → open_of f ≡ Ok z → length (pieces_in line_for (run_of f z) z.u) ≤ 86016
lines-short f {z} o =
    let s = open-sound o in
    let g = s.booted.ranged in
    omega (arith, all_short line_for (run_of f z) 21 z.u (short s g))
  where
    short : Sound f z → Ranged z → (s : ℕ) → 1 ≤ s → s ≤ z.u → length (line_for s (run_of f z s)) ≤ 21
    short o g s a b =
        let h : Lies z (run_of f z s) = inside-all o.laid s a (omega arith) in
        line-short s (run_of f z s) (omega arith) (omega (arith, lies-first z (run_of f z s) h)) (omega (arith, h.high))

pub row-short : (f : List ℕ) {z : Sizes} → open_of f ≡ Ok z → (row : List ℕ) → Runs f z row z.u → length (pieces_in line_for (row_run row) z.u) ≤ 86016
row-short f {z} o row rs = rw (same-pieces line_for (row_run row) (run_of f z) z.u rs.run) (lines-short f o)

-- with the head no list is longer than 90,000 bytes
pub list-short : (f : List ℕ) → length (list_text f) ≤ 90000
unfolding list_text
list-short f = go (open_of f) refl
  where
    go : (o : Opened) → open_of f ≡ o → length (text_of f o) ≤ 90000
    go (Ok z) e =
        let head = head_of (capacity_of z) z.u (length (slots_of z (run_of f z))) in
        let lines = pieces_in line_for (run_of f z) z.u in
        subst (λ (t : List ℕ). length t ≤ 90000) (opens-text f z)
        (omega (arith, length-append head lines, head_short (capacity_of z) z.u (length (slots_of z (run_of f z))), lines-short f e))
    go (Err r) e = omega (arith, refused-short (number_of r) (value_of r))

-- ---- what was put is the text

pub refused-put : (r : Refusal) {l m : List ℕ} {k n v : ℕ} → n ≡ number_of r → v ≡ value_of r → Put l 0 (two_of refused_word n slot_word v) m k → Put l 0 (refused_of r) m k
refused-put r p q h = rw (p, q) at h

-- the text lies within what it was put into
pub text-within : (t l m : List ℕ) (r : ℕ) → r ≡ length t → m ≡ write l 0 t → r ≤ length m
text-within t l m r p q = omega (arith, ap length q, length-write-max l 0 t (omega arith))

pub text-put : {l xs m t : List ℕ} {r : ℕ} → Put l 0 xs m r → xs ≡ t → (r ≡ length t) × (m ≡ write l 0 t)
text-put {l} h e = (h.place ∙ zero-add _ ∙ ap length e, h.holds ∙ ap (write l 0) e)
