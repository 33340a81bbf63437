-- A list by its elements' numbers, a test of every number below n, the numbers of 1 to n that a test takes, tests in a row, three numbers for each element, and rising numbers.
use Rattle.std.specs.Prelude.{ℕ, zero, suc, ◌<◌, Bool, true, false, cond, List, [], ◌∷◌, ◌++◌}

-- f 0, f 1, .. f (n - 1)
unfoldable pub table : {A : Type 0} → ℕ → (ℕ → A) → List A
table zero f = []
table (suc n) f = table n f ++ (f n ∷ [])

-- both
abbrev pub also : Bool → Bool → Bool
also true b = b
also false b = false

-- every test of the list holds
abbrev pub all : List Bool → Bool
all [] = true
all (t ∷ ts) = also t (all ts)

-- the test holds of every number below n
unfoldable pub every : ℕ → (ℕ → Bool) → Bool
every zero p = true
every (suc n) p = also (every n p) (p n)

-- the numbers of 1 to n that the test takes, in order
unfoldable pub those : (ℕ → Bool) → ℕ → List ℕ
those p zero = []
those p (suc n) = those p n ++ cond (p (suc n)) (suc n ∷ []) []

-- three numbers for each element, one after the other
unfoldable pub threes : {A : Type 0} → (A → ℕ) → (A → ℕ) → (A → ℕ) → List A → List ℕ
threes a b c [] = []
threes a b c (x ∷ xs) = a x ∷ b x ∷ c x ∷ threes a b c xs

-- each is greater than the one before, so none stands twice
abbrev pub Above : ℕ → List ℕ → Type 0
Above x [] = Unit
Above x (y ∷ ys) = (x < y) × Above x ys

abbrev pub Rising : List ℕ → Type 0
Rising [] = Unit
Rising (x ∷ xs) = Above x xs × Rising xs
