-- The spans that show and read answer.
use Rattle.std.specs.Prelude.{Ok, Err}
use Prim.Native.Nat.{ℕ, ◌*◌}
use mathlib.Core.Path.{◌≡◌, sym, ◌∙◌, ap}
use mathlib.Core.Bool.{Bool, true, false, not}
use mathlib.Core.List.{List, [], ◌∷◌}
use Rattle.lent.specs.Checks.{Check, check, judge}
use Rattle.lent.specs.Part.{part}
use Rattle.lent.proofs.Checks.{judge-append}
use Rattle.paper.specs.declared.sizes.Sizes.{Sizes}
use Rattle.paper.specs.declared.sizes.Run.{Run}
use Rattle.paper.specs.declared.refusal.Refusal.{Refusal}
use Rattle.paper.specs.declared.refusal.Refusal.TheVariants.{NotVersionOne}
use Rattle.paper.specs.Answers.{Span}
use Rattle.paper.specs.Sizes.{sizes_of, start_of, home_of}
use Rattle.paper.specs.Index.{run_of}
use Rattle.paper.specs.Entry.{version_one}
use Rattle.paper.specs.Scan.{ruled_of}
use Rattle.paper.specs.Look.{slot_checks, records_span, show_of, read_in, read_of}
use Rattle.look.specs.Slot.{held_of}
use Rattle.look.proofs.Slots.{held, refused-call, held-call}

module _ (f : List ℕ) (s : ℕ) where
  pub show-held : {z : Sizes} {r : Run} → held_of f s ≡ Ok (z, r) → records_span z r ≡ show_of f s
  unfolding show_of
  show-held e = held-call f s (held f s e) Err records_span

  pub show-refused : {q : Refusal} → held_of f s ≡ Err q → Err q ≡ show_of f s
  unfolding show_of
  show-refused e = refused-call f s Err (records_span (sizes_of f) (run_of f (sizes_of f) s)) e

-- the scan in the bytes from `from` up to `to`
abbrev read_by : List ℕ → ℕ → ℕ → Span
read_by f from to = read_in from (ruled_of (part from to f) false)

-- 18, then the rules
module _ (f : List ℕ) (s : ℕ) where
  abbrev own : Sizes → List (Check Refusal)
  own z = check (not (version_one z.version f (home_of z s))) NotVersionOne ∷ []

  abbrev scan : Sizes → Run → Span
  scan z r = read_by f (start_of z r.first) (r.last * z.l)

  both : read_of f s ≡ judge Err (slot_checks f s) (judge Err (own (sizes_of f)) (scan (sizes_of f) (run_of f (sizes_of f) s)))
  unfolding read_of
  both = judge-append Err (slot_checks f s) (own (sizes_of f)) (scan (sizes_of f) (run_of f (sizes_of f) s))

  pub read-refused : {q : Refusal} → held_of f s ≡ Err q → Err q ≡ read_of f s
  read-refused e = refused-call f s Err (judge Err (own (sizes_of f)) (scan (sizes_of f) (run_of f (sizes_of f) s))) e ∙ sym both

  module _ {z : Sizes} {r : Run} (e : held_of f s ≡ Ok (z, r)) where
    one : judge Err (own z) (scan z r) ≡ read_of f s
    one = held-call f s (held f s e) Err (λ y x. judge Err (own y) (scan y x)) ∙ sym both

    module _ {at : ℕ} {b : Bool} (home : at ≡ home_of z s) (asked : b ≡ version_one z.version f at) where
      test : version_one z.version f (home_of z s) ≡ b
      test = sym (asked ∙ ap (version_one z.version f) home)

      pub read-other : not b ≡ true → Err NotVersionOne ≡ read_of f s
      read-other h = rw (test, h) at one

      pub read_held : {from to : ℕ} → not b ≡ false → from ≡ start_of z r.first → to ≡ r.last * z.l → read_by f from to ≡ read_of f s
      read_held {from} {to} h p q = let o : scan z r ≡ read_of f s = rw (test, h) at one in rw (p, q) o
