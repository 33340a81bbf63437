-- The laws of the places that a mark blocks.
use Prim.Native.Nat.{ℕ, zero, suc, ◌+◌, ◌-◌, ◌*◌, ◌/◌, ◌%◌, ◌^◌, ◌≤◌, ◌<◌}
use mathlib.Core.Path.{◌≡◌, refl, sym, ◌∙◌, ap}
use mathlib.Core.List.{List}
use native.Mathlib.Decide.{dec_le}
use native.Mathlib.Nat.{div-one, pow-suc}
use native.Mathlib.Omega.{arith}
use lib.Pow.{shr-shr}
use lib.Count.{count_trailing_zeros, trailing_le, under}
use lib.ListN.{get_or}
use Rattle.marks.specs.Marks.{bit_of, mark_of, ones, Tail, Full, Met, Blocked}
use Rattle.marks.proofs.Marking.{bit-above, ones_bit}

-- ---- the ones that a word ends with

bit-shr : (v x j : ℕ) → bit_of (v / 2 ^ x) j ≡ bit_of v (x + j)
unfolding bit_of
bit-shr v x j = ap (λ n. n % 2) (shr-shr v x j)

bit-low : (v : ℕ) → bit_of v 0 ≡ v % 2
unfolding bit_of
bit-low v = ap (λ n. n % 2) (div-one v)

bit-next : (v j : ℕ) → bit_of (v / 2) j ≡ bit_of v (suc j)
bit-next v j = bit-shr v 1 j ∙ ap (λ n. bit_of v n) (omega arith)

tail-set : (k v j : ℕ) → v < 2 ^ k → j < count_trailing_zeros k (2 ^ k - 1 - v) → bit_of v j ≡ 1
unfolding count_trailing_zeros
tail-set zero v j h l = absurd (omega arith)
tail-set (suc k) v j h l =
    let p : 2 ^ suc k ≡ 2 ^ k * 2 = pow-suc 2 k in
    let e : (2 ^ suc k - 1 - v) / 2 ≡ 2 ^ k - 1 - v / 2 = omega arith in
    go (λ j m. tail-set k (v / 2) j (omega arith) m) _ refl j (rw e at l)
  where
    go : ((j : ℕ) → j < count_trailing_zeros k (2 ^ k - 1 - v / 2) → bit_of (v / 2) j ≡ 1) → (d : ℕ) → (2 ^ suc k - 1 - v) % 2 ≡ d → (j : ℕ) → j < under d (count_trailing_zeros k (2 ^ k - 1 - v / 2)) → bit_of v j ≡ 1
    go rest zero f zero l = let p : 2 ^ suc k ≡ 2 ^ k * 2 = pow-suc 2 k in bit-low v ∙ omega arith
    go rest zero f (suc j) l = sym (bit-next v j) ∙ rest j (omega arith)
    go rest (suc d) f j l = absurd (omega arith)

pub tail-ones : (v : ℕ) → v ≤ 18446744073709551615 → Tail v (count_trailing_zeros 64 (18446744073709551615 - v))
tail-ones v h = record { few = trailing_le 64 (18446744073709551615 - v); set = λ j l. tail-set 64 v j (omega arith) l }

-- ---- marked records in a row

pub full-none : (ws : List ℕ) (a : ℕ) → Full ws a a
full-none ws a = record { low = omega arith; marked = λ x l m. absurd (omega arith) }

pub full-more : (ws : List ℕ) (a e d f : ℕ) → Full ws a e → Full ws d f → d ≡ e → Full ws a f
full-more ws a e d f p q i = record { low = omega (arith, p.low, q.low); marked = λ x l m. go x l m (dec_le e x) }
  where
    go : (x : ℕ) → a ≤ x → x < f → Dec (e ≤ x) → mark_of ws x ≡ 1
    go x l m (yes h) = q.marked x (omega arith) m
    go x l m (no h) = p.marked x l (omega arith)

-- a bit of the word that record a lies in
in-word : (ws : List ℕ) (a x : ℕ) → x / 64 ≡ a / 64 → bit_of (get_or ws (a / 64) 0) (x % 64) ≡ 1 → mark_of ws x ≡ 1
unfolding mark_of
in-word ws a x q h = rw q h

pub full-bits : (ws : List ℕ) (a t : ℕ) → get_or ws (a / 64) 0 ≤ 18446744073709551615 → Tail (get_or ws (a / 64) 0 / 2 ^ (a % 64)) t → Full ws a (a + t)
full-bits ws a t h p = record { low = omega arith; marked = λ x l m. go x l (bit x l m) (dec_le 64 (a % 64 + (x - a))) }
  where
    bit : (x : ℕ) → a ≤ x → x < a + t → bit_of (get_or ws (a / 64) 0) (a % 64 + (x - a)) ≡ 1
    bit x l m = sym (bit-shr (get_or ws (a / 64) 0) (a % 64) (x - a)) ∙ p.set (x - a) (omega arith)

    go : (x : ℕ) → a ≤ x → bit_of (get_or ws (a / 64) 0) (a % 64 + (x - a)) ≡ 1 → Dec (64 ≤ a % 64 + (x - a)) → mark_of ws x ≡ 1
    go x l b (yes g) = absurd (let z : ◌≡◌ {A = ℕ} 0 1 = sym (bit-above (get_or ws (a / 64) 0) 64 (a % 64 + (x - a)) (omega arith) g) ∙ b in omega arith)
    go x l b (no g) = in-word ws a x (omega arith) (ap (λ n. bit_of (get_or ws (a / 64) 0) n) (omega arith) ∙ b)

pub full-word : (ws : List ℕ) (w : ℕ) → get_or ws w 0 ≡ 18446744073709551615 → Full ws (64 * w) (64 * (w + 1))
unfolding mark_of ones
full-word ws w e = record { low = omega arith; marked = λ x l m. let q : x / 64 ≡ w = omega arith in rw (q, e) (ones_bit 0 63 (x % 64) (omega arith) (omega arith)) }

-- ---- the places that are blocked

pub blocked-none : (ws : List ℕ) (k i : ℕ) → Blocked ws k i i
blocked-none ws k i = record { low = omega arith; met = λ r l m. absurd (omega arith) }

pub blocked-mark : (ws : List ℕ) (k i x : ℕ) → i < x → x ≤ i + k → mark_of ws x ≡ 1 → Blocked ws k i x
blocked-mark ws k i x l m h = record { low = omega arith; met = λ r a b. record { at = x; low = b; high = omega arith; marked = h } }

-- past the marked records that follow record j
pub blocked-full : (ws : List ℕ) (k i j e m : ℕ) → 1 ≤ k → Blocked ws k i j → Full ws (j + 1) e → j ≤ m → m < e → Blocked ws k i m
blocked-full ws k i j e m h p q l n = record { low = omega (arith, p.low); met = λ r a b. go r a b (dec_le r j) }
  where
    go : (r : ℕ) → i < r → r ≤ m → Dec (r ≤ j) → Met ws r k
    go r a b (yes g) = p.met r a g
    go r a b (no g) = record { at = r; low = omega arith; high = omega arith; marked = q.marked r (omega arith) (omega arith) }
