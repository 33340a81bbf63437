-- What a mode makes of two fields, and an entry by its fields.
use Rattle.std.specs.Prelude.{Ok, Err}
use Prim.Native.Nat.{ℕ, ◌+◌, ◌<◌}
use mathlib.Core.Path.{◌≡◌, refl, sym, ◌∙◌, ap}
use mathlib.Core.Bool.{Bool, true, false}
use mathlib.Core.List.{List}
use native.Mathlib.Nat.{add_assoc}
use native.Mathlib.Omega.{arith}
use lib.Dec.{ltb}
use lib.IntN.{ℤ}
use lib.Ieee.{Float, binary32, binary64, of_bits}
use borrow.Author.Tests.{lt-leb, le-leb, ltb-false}
use Rattle.lent.specs.Number.{be16, be32, be64, int16}
use Rattle.lent.specs.Part.{part}
use Rattle.paper.specs.declared.entry.Kind.{Kind}
use Rattle.paper.specs.declared.entry.Kind.TheVariants.{Other}
use Rattle.paper.specs.declared.entry.Entry.{Entry}
use Rattle.paper.specs.Answers.{Found}
use Rattle.paper.specs.declared.refusal.Refusal.{Refusal}
use Rattle.paper.specs.declared.sizes.Sizes.{Sizes}
use Rattle.paper.specs.declared.sizes.Run.{Run}
use Rattle.paper.specs.Sizes.{word_at, home_of}
use Rattle.paper.specs.Entry.{natural_of, kind_of, magic_of, position_of, fields_of, no_entry}
use Rattle.paper.specs.Look.{found_of}
use Rattle.look.specs.Slot.{held_of}
use Rattle.look.proofs.Slots.{held, refused-call, held-call}

module _ (mode : ℕ) (a b : Float) where
  pub below : mode < 256 → Other a b ≡ kind_of mode a b
  unfolding kind_of
  below h = simp (lt-leb 256 mode h, lt-leb 512 mode (omega arith))

  pub above : 560 < mode → Other a b ≡ kind_of mode a b
  unfolding kind_of
  above h = simp (le-leb 256 mode (omega arith), lt-leb mode 304 (omega arith), le-leb 512 mode (omega arith), lt-leb mode 560 h)

-- the 16 bits of a negative mode are above every kind's
pub kind-bits : (v : ℕ) (a b : Float) → kind_of v a b ≡ kind_of (natural_of (int16 v)) a b
unfolding int16
kind-bits v a b = go (ltb v 32768) refl
  where
    go : (t : Bool) → ltb v 32768 ≡ t → kind_of v a b ≡ kind_of (natural_of (int16 v)) a b
    go true e = simp e
    go false e = simp e (sym (above v a b (omega (arith, ltb-false v 32768 e))) ∙ below 0 a b (omega arith))

pub kind-same : {m n : ℕ} {a b c d : Float} → m ≡ n → a ≡ c → b ≡ d → kind_of m a b ≡ kind_of n c d
kind-same p q r = cc

-- sixteen bytes from place 16 on
pub source-end : (s : List ℕ) (at : ℕ) → part (at + 16) (at + 16 + 16) s ≡ part (at + 16) (at + 32) s
source-end s at = ap (λ (e : ℕ). part (at + 16) e s) (add_assoc at 16 16)

-- an entry is right where each of its fields is
pub entry-is : (v : ℕ) (s : List ℕ) (at : ℕ) {x0 x1 x2 x3 : ℕ} {x4 : List ℕ} {x5 x6 x7 x8 x9 : ℕ} {x10 x11 x12 x13 : ℤ} {x14 : Kind}
    → x0 ≡ word_at v s at 0
    → x1 ≡ word_at v s at 1
    → x2 ≡ be32 s (at + 8)
    → x3 ≡ be32 s (at + 12)
    → x4 ≡ part (at + 16) (at + 32) s
    → x5 ≡ be32 s (at + 32)
    → x6 ≡ be32 s (at + 36)
    → x7 ≡ be64 s (at + 40)
    → x8 ≡ be32 s (at + 48)
    → x9 ≡ be32 s (at + 52)
    → x10 ≡ int16 (be16 s (at + 56))
    → x11 ≡ int16 (be16 s (at + 58))
    → x12 ≡ int16 (position_of v s at)
    → x13 ≡ int16 (magic_of v s at)
    → x14 ≡ kind_of (natural_of (int16 (be16 s (at + 56)))) (of_bits binary32 (be32 s (at + 36))) (of_bits binary64 (be64 s (at + 40)))
    → ◌≡◌ {A = Entry} (record { first = x0; last = x1; horizontal = x2; vertical = x3; source = x4; scan = x5; field4 = x6; field8 = x7; lst = x8; date = x9; mode = x10; number = x11; position = x12; magic = x13; kind = x14 }) (fields_of v s at)
unfolding fields_of
entry-is v s at e0 e1 e2 e3 e4 e5 e6 e7 e8 e9 e10 e11 e12 e13 e14 = cc

-- ---- what a slot's entry is found to be

module _ (f : List ℕ) (s : ℕ) where
  pub found-refused : {q : Refusal} → held_of f s ≡ Err q → Err q ≡ found_of f s
  unfolding found_of
  found-refused h = refused-call f s Err _ h

  pub found-held : {z : Sizes} {r : Run} {at : ℕ} {e : Entry} → held_of f s ≡ Ok (z, r) → at ≡ home_of z s → e ≡ fields_of z.version f at
      → Ok e ≡ found_of f s
  unfolding found_of
  found-held {z} {r} {at} {e} h p q =
      ap Ok (q ∙ ap (fields_of z.version f) p)
      ∙ held-call f s (held f s h) Err (λ y x. Ok (fields_of y.version f (home_of y s)))
