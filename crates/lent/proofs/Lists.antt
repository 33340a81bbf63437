-- The laws of tests in a row, of `table`, of `every`, of `those` and of `threes`.
use Rattle.std.proofs.Common.{◌≡◌, ℕ, zero, suc, ◌+◌, ◌*◌, ◌<◌, ◌≤◌, Bool, true, false, cond, ◌≢◌, ◌⊎◌, List, [], ◌∷◌, ◌++◌, length, get_or, take, set, sym, refl, ap, ◌∙◌, inl, inr, ⊎_elim, append-nil, add-one, arith, length-append, take_all, take-suc-set, ext_get_or}
use mathlib.Core.List.Memᴰ
use mathlib.Core.List.{Memᴰ}
use native.Mathlib.Decide.{dec_le, ℕ_discrete}
use lib.ListN.{get_or-append}
use lib.Seq.{get_or_at}
use Rattle.lent.specs.Lists.{table, also, all, every, those, threes, Above, Rising}

-- ---- a test and its two answers

pub true≢false : {t : Bool} → t ≡ true → t ≡ false → ⊥
true≢false p q = let z : ◌≡◌ {A = ℕ} 0 1 = cc in omega arith

-- a test that cannot be true is false
pub not_so : {t : Bool} → (t ≡ true → ⊥) → t ≡ false
not_so {t} h = go t h
  where
    go : (b : Bool) → (b ≡ true → ⊥) → b ≡ false
    go true h = absurd (h refl)
    go false h = refl

-- and one that cannot be false is true
pub is-so : {t : Bool} → (t ≡ false → ⊥) → t ≡ true
is-so {t} h = go t h
  where
    go : (b : Bool) → (b ≡ false → ⊥) → b ≡ true
    go true h = refl
    go false h = absurd (h refl)

pub either : (t : Bool) → (t ≡ true) ⊎ (t ≡ false)
either true = inl refl
either false = inr refl

-- which of two numbers is less, and whether they are the same, as a choice that a proof can take apart
pub lt-or-ge : (m n : ℕ) → (m < n) ⊎ (n ≤ m)
lt-or-ge m n = elim (dec_le n m) [ yes h ↦ inr h | no h ↦ inl (omega arith) ]

pub same_or : (a b : ℕ) → (a ≡ b) ⊎ (a ≢ b)
same_or a b = elim (ℕ_discrete a b) [ yes h ↦ inl h | no h ↦ inr h ]

-- a test that is asked only where b holds
pub asked : (b t : Bool) → cond b t true ≡ true → b ≡ true → t ≡ true
asked b t e q = rw q at e

pub answered : (b t : Bool) → (b ≡ true → t ≡ true) → cond b t true ≡ true
answered true t h = h refl
answered false t h = refl

-- ---- tests in a row

pub also-true : (a b : Bool) → also a b ≡ true → (a ≡ true) × (b ≡ true)
also-true true b e = (refl, e)
also-true false b e = absurd (true≢false e refl)

pub true-also : (a b : Bool) → a ≡ true → b ≡ true → also a b ≡ true
true-also a b p q = rw (p, q)

pub also-unit : (a : Bool) → also a true ≡ a
also-unit true = refl
also-unit false = refl

pub also-false : (a : Bool) → also a false ≡ false
also-false true = refl
also-false false = refl

pub also-same : (t a b : Bool) → (t ≡ true → a ≡ b) → also t a ≡ also t b
also-same true a b h = h refl
also-same false a b h = refl

pub also-assoc : (a b c : Bool) → also a (also b c) ≡ also (also a b) c
also-assoc true b c = refl
also-assoc false b c = refl

-- each test of the list holds
abbrev pub All : List Bool → Type 0
All [] = Unit
All (t ∷ ts) = (t ≡ true) × All ts

pub all_true : (ts : List Bool) → all ts ≡ true → All ts
all_true [] h = tt
all_true (true ∷ ts) h = (refl, all_true ts h)
all_true (false ∷ ts) h = absurd (true≢false h refl)

pub true-all : (ts : List Bool) → All ts → all ts ≡ true
true-all [] h = refl
true-all (t ∷ ts) h = rw h.0 (true-all ts h.1)

-- tests that cannot all hold, and tests that do, as a function answers them
pub no_all : (ts : List Bool) → (All ts → ⊥) → false ≡ all ts
no_all ts h = sym (not_so (λ e. h (all_true ts e)))

pub yes-all : (ts : List Bool) → All ts → true ≡ all ts
yes-all ts h = sym (true-all ts h)

-- ---- a list by its elements' numbers

pub length-table : {A : Type 0} (n : ℕ) (f : ℕ → A) → length (table n f) ≡ n
unfolding table
length-table zero f = refl
length-table (suc n) f = simp (length-append, length-table n f) (omega arith)

pub table_at : {A : Type 0} (n : ℕ) (f : ℕ → A) (i : ℕ) (d : A) → i < n → get_or (table n f) i d ≡ f i
unfolding table
table_at zero f i d h = absurd (omega arith)
table_at {A} (suc n) f i d h =
    ⊎_elim (λ (l : i < n). get_or-append (table n f) (f n ∷ []) d i (rw (length-table n f) l) ∙ table_at n f i d l)
    (λ (l : n ≤ i). let e : n ≡ i = omega arith in rw (← e) (get_or_at (table n f) (f n) [] d n (length-table n f))) (lt-or-ge i n)

pub table_same : {A : Type 0} (n : ℕ) (f g : ℕ → A) → ((i : ℕ) → i < n → f i ≡ g i) → table n f ≡ table n g
unfolding table
table_same zero f g h = refl
table_same (suc n) f g h = rw (table_same n f g (λ i l. h i (omega arith)), h n (omega arith))

pub table_more : {A : Type 0} (n : ℕ) (f : ℕ → A) → table (n + 1) f ≡ table n f ++ (f n ∷ [])
unfolding table
table_more n f = rw add-one

-- a loop that fills an array by its front: a turn, and the end
pub fill_more : {A : Type 0} (a : List A) (k : ℕ) (v : A) (f : ℕ → A) → k < length a → v ≡ f k → take k a ≡ table k f
    → take (k + 1) (set a k v) ≡ table (k + 1) f
fill_more a k v f l e h = rw (table_more, add-one, take-suc-set a k v l, h, e)

pub filled : {A : Type 0} (a : List A) (n : ℕ) (f : ℕ → A) → length a ≤ n → take n a ≡ table n f → a ≡ table n f
filled a n f l h = sym (take_all n a l) ∙ h

pub table-list : {A : Type 0} (s : List A) (d : A) (n : ℕ) → n ≡ length s → table n (λ i. get_or s i d) ≡ s
table-list {A} s d n e =
    let f : ℕ → A = λ i. get_or s i d in
    ext_get_or d (table n f) s (length-table n f ∙ e) (λ i h. table_at n f i d (rw (length-table n f) at h))

-- ---- a test of every number below n

pub every-all : (n : ℕ) (p : ℕ → Bool) → every n p ≡ true → (i : ℕ) → i < n → p i ≡ true
unfolding every
every-all zero p e i h = absurd (omega arith)
every-all (suc n) p e i h =
    let b = also-true (every n p) (p n) e in
    ⊎_elim (λ (l : i < n). every-all n p b.0 i l) (λ (l : n ≤ i). let q : n ≡ i = omega arith in rw (← q) b.1) (lt-or-ge i n)

-- a turn of a loop that has passed i numbers, and the turn that stops it
pub all-every : (n : ℕ) (p : ℕ → Bool) → ((i : ℕ) → i < n → p i ≡ true) → every n p ≡ true
unfolding every
all-every zero p h = refl
all-every (suc n) p h = true-also (every n p) (p n) (all-every n p (λ i l. h i (omega arith))) (h n (omega arith))

pub every_more : (i : ℕ) (p : ℕ → Bool) → every i p ≡ true → p i ≡ true → every (i + 1) p ≡ true
unfolding every
every_more i p e t = rw add-one (true-also (every i p) (p i) e t)

pub every-not : (n : ℕ) (p : ℕ → Bool) (i : ℕ) → i < n → p i ≡ false → every n p ≡ false
every-not n p i h t = not_so (λ e. true≢false (every-all n p e i h) t)

-- ---- the numbers of 1 to n that a test takes

pub those-same : (p q : ℕ → Bool) (n : ℕ) → ((s : ℕ) → 1 ≤ s → s ≤ n → p s ≡ q s) → those p n ≡ those q n
unfolding those
those-same p q zero h = refl
those-same p q (suc n) h = rw (those-same p q n (λ s a b. h s a (omega arith)), h (suc n) (omega arith) (omega arith))

-- a number that is not taken adds nothing
pub those-not : (p : ℕ → Bool) (n : ℕ) → p (n + 1) ≡ false → those p (n + 1) ≡ those p n
unfolding those
those-not p n t = let e : p (suc n) ≡ false = rw add-one at t in rw (add-one, e) (append-nil (those p n))

-- no number between u and c is taken
pub those-more : (p : ℕ → Bool) (u c : ℕ) → u ≤ c → ((s : ℕ) → u < s → s ≤ c → p s ≡ false) → those p u ≡ those p c
those-more p u zero h k = let e : u ≡ 0 = omega arith in rw e
those-more p u (suc c) h k =
    ⊎_elim (λ (l : u < suc c). those-more p u c (omega arith) (λ s a b. k s a (omega arith)) ∙ sym (rw add-one at (those-not p c (rw add-one (k (suc c) l (omega arith))))))
    (λ (l : suc c ≤ u). let e : u ≡ suc c = omega arith in ap (those p) e) (lt-or-ge u (suc c))

pub length-those : (p : ℕ → Bool) (n : ℕ) → length (those p n) ≤ n
unfolding those
length-those p zero = omega arith
length-those p (suc n) = simp length-append (omega (arith, length-those p n, one (p (suc n))))
  where
    one : (t : Bool) → length (cond t (suc n ∷ []) []) ≤ 1
    one true = omega arith
    one false = omega arith

-- exactly the numbers that the test takes
pub record Taken (p : ℕ → Bool) (n s : ℕ) : Type 0 where
  pub low : 1 ≤ s
  pub high : s ≤ n
  pub takes : p s ≡ true

taken_more : {p : ℕ → Bool} {n s : ℕ} → Taken p n s → Taken p (suc n) s
taken_more h = record { low = h.low; high = omega arith; takes = h.takes }

pub those-mem : (p : ℕ → Bool) (n s : ℕ) → Memᴰ s (those p n) → Taken p n s
unfolding those
those-mem p zero s m = absurd (Memᴰ.not-nil m)
those-mem p (suc n) s m =
    ⊎_elim (λ (q : Memᴰ s (those p n)). taken_more (those-mem p n s q)) (last (p (suc n)) refl) (Memᴰ.append_cases (those p n) m)
  where
    last : (t : Bool) → p (suc n) ≡ t → Memᴰ s (cond t (suc n ∷ []) []) → Taken p (suc n) s
    last true e q =
        let k : s ≡ suc n = Memᴰ.eq_of_singleton q in
        record { low = omega arith; high = omega arith; takes = rw k e }
    last false e q = absurd (Memᴰ.not-nil q)

pub mem-those : (p : ℕ → Bool) (n s : ℕ) → Taken p n s → Memᴰ s (those p n)
unfolding those
mem-those p zero s h = absurd (let a = h.low in let b = h.high in omega arith)
mem-those p (suc n) s h =
    ⊎_elim
    (λ (l : s < suc n). Memᴰ.append_left _ (mem-those p n s (record { low = h.low; high = omega arith; takes = h.takes })))
    (λ (l : suc n ≤ s). let e : s ≡ suc n = let b = h.high in omega arith in Memᴰ.cast e (Memᴰ.append_right (those p n) (last (p (suc n)) (rw e at h.takes))))
    (lt-or-ge s (suc n))
  where
    last : (t : Bool) → t ≡ true → Memᴰ (suc n) (cond t (suc n ∷ []) [])
    last true e = Memᴰ.head refl
    last false e = absurd (true≢false e refl)

abbrev UpTo : ℕ → List ℕ → Type 0
UpTo n [] = Unit
UpTo n (x ∷ xs) = (x ≤ n) × UpTo n xs

above-snoc : (x : ℕ) (xs : List ℕ) (n : ℕ) → Above x xs → x ≤ n → Above x (xs ++ (suc n ∷ []))
above-snoc x [] n a h = (omega arith, tt)
above-snoc x (y ∷ ys) n a h = (a.0, above-snoc x ys n a.1 h)

rising_snoc : (xs : List ℕ) (n : ℕ) → Rising xs → UpTo n xs → Rising (xs ++ (suc n ∷ []))
rising_snoc [] n r u = (tt, tt)
rising_snoc (x ∷ xs) n r u = (above-snoc x xs n r.0 u.0, rising_snoc xs n r.1 u.1)

upto_snoc : (xs : List ℕ) (n : ℕ) → UpTo n xs → UpTo (suc n) (xs ++ (suc n ∷ []))
upto_snoc [] n u = (omega arith, tt)
upto_snoc (x ∷ xs) n u = (omega (arith, u.0), upto_snoc xs n u.1)

upto-more : (xs : List ℕ) (n : ℕ) → UpTo n xs → UpTo (suc n) xs
upto-more [] n u = tt
upto-more (x ∷ xs) n u = (omega (arith, u.0), upto-more xs n u.1)

those-upto : (p : ℕ → Bool) (n : ℕ) → UpTo n (those p n)
unfolding those
those-upto p zero = tt
those-upto p (suc n) = go (p (suc n)) (those-upto p n)
  where
    go : (t : Bool) → UpTo n (those p n) → UpTo (suc n) (those p n ++ cond t (suc n ∷ []) [])
    go true u = upto_snoc (those p n) n u
    go false u = rw append-nil (upto-more (those p n) n u)

pub those-rising : (p : ℕ → Bool) (n : ℕ) → Rising (those p n)
unfolding those
those-rising p zero = tt
those-rising p (suc n) = go (p (suc n)) (those-rising p n)
  where
    go : (t : Bool) → Rising (those p n) → Rising (those p n ++ cond t (suc n ∷ []) [])
    go true r = rising_snoc (those p n) n r (those-upto p n)
    go false r = rw append-nil r

-- ---- three numbers for each element

module _ {A : Type 0} (a b c : A → ℕ) where
  pub length-threes : (xs : List A) → length (threes a b c xs) ≡ 3 * length xs
  unfolding threes
  length-threes [] = refl
  length-threes (x ∷ xs) = omega (arith, length-threes xs)

  pub threes-at : (xs : List A) (d : A) (i : ℕ) → i < length xs
      → (get_or (threes a b c xs) (3 * i) 0 ≡ a (get_or xs i d)) × (get_or (threes a b c xs) (3 * i + 1) 0 ≡ b (get_or xs i d))
      × (get_or (threes a b c xs) (3 * i + 2) 0 ≡ c (get_or xs i d))
  unfolding threes
  threes-at [] d i h = absurd (omega arith)
  threes-at (x ∷ xs) d zero h = (refl, refl, refl)
  threes-at (x ∷ xs) d (suc i) h =
      let p = threes-at xs d i (omega arith) in
      let e : 3 * suc i ≡ suc (suc (suc (3 * i))) = omega arith in
      let f : 3 * suc i + 1 ≡ suc (suc (suc (3 * i + 1))) = omega arith in
      let g : 3 * suc i + 2 ≡ suc (suc (suc (3 * i + 2))) = omega arith in
      (rw e p.0, rw f p.1, rw g p.2)

  pub threes-append : (xs ys : List A) → threes a b c (xs ++ ys) ≡ threes a b c xs ++ threes a b c ys
  unfolding threes
  threes-append [] ys = refl
  threes-append (x ∷ xs) ys = ap (λ (l : List ℕ). a x ∷ b x ∷ c x ∷ l) (threes-append xs ys)
