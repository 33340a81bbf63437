-- Bytes stored over others, and over zeros.
use Prim.Native.Nat.{ℕ, zero, suc, ◌+◌, ◌-◌, ◌≤◌}
use mathlib.Core.Path.{◌≡◌, sym, ◌∙◌, ap}
use mathlib.Core.List.{List, ◌++◌, append_assoc, append-nil}
use native.Mathlib.Omega.{arith}
use lib.ListN.{length, take, drop, length-append, length-drop, drop_of_length-le, replicate-append-replicate}
use lib.Seq.{length-take-le, take_at, drop_at, drop-drop, drop-append-le}
use Rattle.lent.specs.Write.{write, zeros, pad}
use Rattle.lent.proofs.Writes.{length-zeros, length-write-max, write-next}

pub drop-zeros : (k n : ℕ) → drop k (zeros n) ≡ zeros (n - k)
unfolding zeros
drop-zeros zero n = let e : n ≡ n - 0 = omega arith in ap zeros e
drop-zeros (suc k) zero = let e : 0 ≡ 0 - suc k = omega arith in ap zeros e
drop-zeros (suc k) (suc n) = let e : n - k ≡ suc n - suc k = omega arith in drop-zeros k n ∙ ap zeros e

pub zeros-zeros : (k n : ℕ) → zeros k ++ zeros n ≡ zeros (k + n)
unfolding zeros
zeros-zeros k n = replicate-append-replicate k n 0

-- no longer than what was stored at the same place
pub write-over : (f : List ℕ) (at : ℕ) (a b : List ℕ) → at ≤ length f → length a ≤ length b → write (write f at b) at a ≡ write f at (a ++ drop (length a) b)
unfolding write
write-over f at a b h l =
    let r : List ℕ = drop (at + length b) f in
    let w : List ℕ = take at f ++ (b ++ r) in
    let t : take at w ≡ take at f = take_at (take at f) (b ++ r) at (length-take-le at f h) in
    let d : drop (at + length a) w ≡ drop (length a) b ++ r =
    sym (drop-drop (length a) at w) ∙ ap (drop (length a)) (drop_at (take at f) (b ++ r) at (length-take-le at f h)) ∙ drop-append-le (length a) b r l in
    let n : length b ≡ length (a ++ drop (length a) b) = sym (length-append a (drop (length a) b) ∙ omega (arith, length-drop (length a) b)) in
    rw (t, d) (ap (λ (x : List ℕ). take at f ++ x) (sym (append_assoc a (drop (length a) b) r)) ∙ ap (λ (k : ℕ). take at f ++ ((a ++ drop (length a) b) ++ drop (at + k) f)) n)

-- as long
pub write_again : (f : List ℕ) (at : ℕ) (a b : List ℕ) → at ≤ length f → length a ≡ length b → write (write f at b) at a ≡ write f at a
write_again f at a b h l =
    write-over f at a b h (omega arith) ∙ ap (λ (x : List ℕ). write f at (a ++ x)) (drop_of_length-le b {i = length a} (omega arith)) ∙ ap (write f at) (append-nil a)

pad-zeros : (b : List ℕ) (m k : ℕ) → length b ≤ m → b ++ drop (length b) (zeros (m + k)) ≡ pad m b ++ zeros k
unfolding pad
pad-zeros b m k l =
    let e : m + k - length b ≡ m - length b + k = omega arith in
    ap (λ (x : List ℕ). b ++ x) (drop-zeros (length b) (m + k) ∙ ap zeros e ∙ sym (zeros-zeros (m - length b) k)) ∙ sym (append_assoc b (zeros (m - length b)) (zeros k))

-- bytes over the first m of the zeros that follow others
pub zeros-over : (f : List ℕ) (at : ℕ) (a b : List ℕ) (m k : ℕ) → at ≤ length f → length b ≤ m
    → write (write f at (a ++ zeros (m + k))) (at + length a) b ≡ write f at ((a ++ pad m b) ++ zeros k)
zeros-over f at a b m k h l =
    let p = at + length a in
    let z : List ℕ = zeros (m + k) in
    let y : List ℕ = pad m b ++ zeros k in
    ap (λ (x : List ℕ). write x p b) (sym (write-next f at a z h))
    ∙ write-over (write f at a) p b z (omega (arith, length-write-max f at a h)) (omega (arith, length-zeros (m + k)))
    ∙ ap (write (write f at a) p) (pad-zeros b m k l)
    ∙ write-next f at a y h
    ∙ ap (write f at) (sym (append_assoc a (pad m b) (zeros k)))
