-- Text put piece by piece: room for what is left, and the whole from its pieces.
use Prim.Native.Nat.{ℕ, ◌+◌, ◌≤◌}
use mathlib.Core.Path.{◌≡◌, refl}
use mathlib.Core.List.{List, [], ◌∷◌, ◌++◌}
use native.Mathlib.Omega.{arith}
use lib.ListN.{length, set, length-append}
use Rattle.lent.specs.Write.{write}
use Rattle.look.specs.Put.{Put}
use Rattle.lent.proofs.Writes.{stored}
use Rattle.look.proofs.Putting.{put-length, put_then}

-- one byte
pub put_byte : (l : List ℕ) (at v : ℕ) → at + 1 ≤ length l → Put l at (v ∷ []) (set l at v) (at + 1)
put_byte l at v h = record { place = refl; holds = stored (v ∷ []) l at h }

-- a word
pub wrote : (l : List ℕ) (at : ℕ) (word : List ℕ) {m : List ℕ} → m ≡ write l at word → Put l at word m (at + length word)
wrote l at word e = record { place = refl; holds = e }

-- room for a piece and what comes after it: for the piece, and then for the rest
pub room-here : (xs ys : List ℕ) (p n : ℕ) → p + length (xs ++ ys) ≤ n → p + length xs ≤ n
room-here xs ys p n h = omega (arith, length-append xs ys)

module _ {a : List ℕ} {p : ℕ} {xs b : List ℕ} {q : ℕ} (h : Put a p xs b q) where
  pub room_after : (ys : List ℕ) → p + length (xs ++ ys) ≤ length a → q + length ys ≤ length b
  room_after ys room = omega (arith, length-append xs ys, h.place, put-length (room-here xs ys p (length a) room) h)

  pub put-more : {ys c : List ℕ} {r : ℕ} → p + length (xs ++ ys) ≤ length a → Put b q ys c r → Put a p (xs ++ ys) c r
  put-more {ys} room k = put_then (room-here xs ys p (length a) room) h k
