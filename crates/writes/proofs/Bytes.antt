-- Bytes set one after the other: words, and an entry.
use Rattle.std.proofs.Common.{◌≡◌, ℕ, ◌+◌, ◌-◌, Bool, true, cond, List, [], ◌∷◌, ◌++◌, length, sym, ap, ◌∙◌, append_assoc, arith, length-append}
use Rattle.lent.specs.Number.{words}
use Rattle.lent.specs.Part.{part}
use Rattle.lent.specs.Same.{same}
use Rattle.lent.specs.Write.{zeros, pad}
use Rattle.lent.proofs.Numbers.{length-numbers}
use Rattle.paper.specs.declared.sizes.Sizes.{Sizes}
use Rattle.paper.specs.declared.sizes.Run.{Run}
use Rattle.paper.specs.declared.job.Job.{Job}
use Rattle.paper.specs.Sizes.{home_of}
use Rattle.paper.specs.Index.{entry_at}
use Rattle.paper.specs.Entry.{entry_bytes}
use Rattle.paper.specs.Store.{run_from, count_of, entry_after}
use Rattle.writes.specs.Inside.{front_of}

-- an entry's M bytes are its bytes 0 to 61, padded
pub entry-pad : (z : Sizes) (r : Run) (about : List ℕ) → length about ≡ 54 → entry_bytes z r about ≡ pad z.m (words (r.first ∷ r.last ∷ []) ++ about)
unfolding entry_bytes pad
entry-pad z r about h =
    let w : List ℕ = words (r.first ∷ r.last ∷ []) in
    let l : length (w ++ about) ≡ 62 = simp length-append (omega (arith, length-numbers 4 (r.first ∷ r.last ∷ []))) in
    rw l (sym (append_assoc w about (zeros (z.m - 62))))

-- what a job writes as its slot's entry, from what code makes of it
pub entry-saved : (z : Sizes) (j : Job) (b : List ℕ) → j.saves ≡ true → b ≡ front_of z j → length b ≡ 62 → pad z.m b ≡ entry_after z j
entry-saved z j b s e h =
    let r : Run = run_from j.first (count_of z j) in
    let w : List ℕ = words (r.first ∷ r.last ∷ []) in
    let l : length b ≡ length w + length j.about = ap length e ∙ length-append w j.about in
    ap (pad z.m) e ∙ sym (entry-pad z r j.about (omega (arith, length-numbers 4 (r.first ∷ r.last ∷ []))))
    ∙ ap (λ (t : Bool). cond t (entry_bytes z r j.about) (zeros z.m)) (sym s)

-- the comparison with it, from the calls that compare
module _ (f : List ℕ) (z : Sizes) (j : Job) (at : ℕ) (p : List ℕ) (r : Bool) (home : at ≡ home_of z j.slot) (there : p ≡ part at (at + z.m) f) where
  entry-there : p ≡ entry_at f z j.slot
  entry-there = there ∙ ap (λ (a : ℕ). part a (a + z.m) f) home

  pub stands-saved : (b : List ℕ) → j.saves ≡ true → b ≡ front_of z j → length b ≡ 62 → r ≡ same p (pad z.m b) → r ≡ same (entry_at f z j.slot) (entry_after z j)
  stands-saved b s e h q = q ∙ ap (same p) (entry-saved z j b s e h) ∙ ap (λ (x : List ℕ). same x (entry_after z j)) entry-there
