-- A scan that a slot shows, padded, is read back.
use Rattle.std.specs.Prelude.{Ok, Err}
use Prim.Native.Nat.{ℕ, ◌+◌, ◌-◌, ◌*◌, ◌≤◌}
use mathlib.Core.Path.{◌≡◌, refl, sym, ◌∙◌, ap, subst}
use mathlib.Core.Bool.{true, false}
use mathlib.Core.List.{List, [], ◌∷◌, ◌++◌}
use native.Mathlib.Omega.{arith}
use lib.ListN.{length, take, drop, length-append}
use lib.Seq.{take-take, take-append_seam}
use Rattle.lent.specs.Checks.{clear, fired}
use Rattle.lent.specs.Part.{part}
use Rattle.lent.specs.Write.{pad, zeros}
use Rattle.lent.proofs.Checks.{clear-append, all-clear, judge-clear}
use Rattle.lent.proofs.Parts.{length-part-min}
use Rattle.paper.specs.declared.sizes.Sizes.{Sizes}
use Rattle.paper.specs.Sizes.{sizes_of, version_of, start_of}
use Rattle.paper.specs.Index.{run_of, Full, shown_of, Sound}
use Rattle.paper.specs.Entry.{version_one}
use Rattle.paper.specs.Scan.{ruled_of, part_of}
use Rattle.paper.specs.Look.{no_slot, no_scan, slot_checks, other_scan, read_checks, read_in, read_of, InIndex}
use Rattle.paper.proofs.Opening.{facts-full, then-opens, sound-open}
use Rattle.paper.proofs.Rules.{rules-longer, keeps-lengths}
use Rattle.paper.proofs.Begins.{facts-slot}

module _ {f : List ℕ} {z : Sizes} (S : Sound f z) (slot : ℕ) (i : InIndex z slot) where
  -- a slot with a scan: neither 9 nor 10
  pub slot-clear : Full (run_of f z slot) → fired (slot_checks f slot) ≡ clear
  slot-clear full =
      then-opens f (no_slot (sizes_of f) slot ∷ no_scan (run_of f (sizes_of f) slot) ∷ []) (sound-open S)
      ∙ subst (λ (y : Sizes). fired (no_slot y slot ∷ no_scan (run_of f y slot) ∷ []) ≡ clear) (sym S.booted.reads)
      (all-clear (no_slot z slot ∷ no_scan (run_of f z slot) ∷ []) (facts-slot z slot i, (facts-full (run_of f z slot) full, tt)))

  -- nor 18, in the current form
  pub read-clear : Full (run_of f z slot) → z.version ≡ 1 → fired (read_checks f slot) ≡ clear
  unfolding version_one
  read-clear full v =
      let e : version_of f ≡ 1 = ap (λ (y : Sizes). y.version) S.booted.reads ∙ v in
      clear-append (slot_checks f slot) (other_scan f slot ∷ []) (slot-clear full) ∙ simp e

  module _ (full : Full (run_of f z slot)) (v : z.version ≡ 1) (n : ℕ) (scan : List ℕ) (shows : shown_of f z slot ≡ pad n scan)
      {head rest : ℕ} (keeps : ruled_of scan true ≡ Ok (head, rest)) where
    abbrev from : ℕ
    from = start_of z (run_of f z slot).first

    rules : ruled_of (shown_of f z slot) false ≡ Ok (head, rest)
    unfolding pad
    rules = ap (λ (s : List ℕ). ruled_of s false) shows ∙ rules-longer scan (zeros (n - length scan)) true keeps

    pub read_is : read_of f slot ≡ Ok (start_of z (run_of f z slot).first, start_of z (run_of f z slot).first + length scan)
    unfolding read_of
    read_is =
        judge-clear Err (read_checks f slot) _ (read-clear full v)
        ∙ subst (λ (y : Sizes). read_in (start_of y (run_of f y slot).first) (ruled_of (shown_of f y slot) false) ≡ Ok (from, from + length scan)) (sym S.booted.reads)
        (ap (read_in from) rules ∙ ap (λ (k : ℕ). Ok (from, from + k)) ((keeps-lengths keeps).fills refl))

    front : part from (from + length scan) f ≡ scan
    unfolding pad
    front =
        let to : ℕ = (run_of f z slot).last * z.l in
        let e : from + length scan - from ≡ length scan = omega arith in
        let l : length (shown_of f z slot) ≡ length (scan ++ zeros (n - length scan)) = ap length shows in
        let h : length scan ≤ to - from = omega (arith, l, length-append scan (zeros (n - length scan)), length-part-min from to f) in
        rw e
        (sym (take-take (length scan) (to - from) (drop from f) h) ∙ ap (take (length scan)) shows ∙ take-append_seam scan (zeros (n - length scan)))

    pub read_back : part_of f (read_of f slot) ≡ scan
    read_back = ap (part_of f) read_is ∙ front
