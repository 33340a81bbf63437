-- A bit for each record, 64 to a word.
use Rattle.std.specs.Prelude.{ℕ, ◌+◌, ◌-◌, ◌/◌, ◌%◌, ◌^◌, ◌≤◌, ◌<◌, ◌≡◌, List, get_or}

unfoldable pub bit_of : ℕ → ℕ → ℕ
bit_of w k = w / 2 ^ k % 2

-- the mark of record x
unfoldable pub mark_of : List ℕ → ℕ → ℕ
mark_of ws x = bit_of (get_or ws (x / 64) 0) (x % 64)

-- the word whose bits x to y are set, and no other
unfoldable pub ones : ℕ → ℕ → ℕ
ones x y = 2 ^ y + (2 ^ y - 2 ^ x)

-- from ws to vs the records from a on and below e were taken, each of them free before; no mark was lost, and every other mark was there before
pub record Took (ws vs : List ℕ) (a e : ℕ) : Type 0 where
  pub clear : (x : ℕ) → a ≤ x → x < e → mark_of ws x ≡ 1 → ⊥
  pub marked : (x : ℕ) → a ≤ x → x < e → mark_of vs x ≡ 1
  pub kept : (x : ℕ) → mark_of ws x ≡ 1 → mark_of vs x ≡ 1
  pub below : (x : ℕ) → x < a → mark_of vs x ≡ 1 → mark_of ws x ≡ 1
  pub above : (x : ℕ) → e ≤ x → mark_of vs x ≡ 1 → mark_of ws x ≡ 1

-- the records from a on and below e are marked
pub record Full (ws : List ℕ) (a e : ℕ) : Type 0 where
  pub low : a ≤ e
  pub marked : (x : ℕ) → a ≤ x → x < e → mark_of ws x ≡ 1

-- a marked record lies in the k records from record r on
pub record Met (ws : List ℕ) (r k : ℕ) : Type 0 where
  pub at : ℕ
  pub low : r ≤ at
  pub high : at < r + k
  pub marked : mark_of ws at ≡ 1

-- none of the records after i, up to j, starts k records that are all free of marks
pub record Blocked (ws : List ℕ) (k i j : ℕ) : Type 0 where
  pub low : i ≤ j
  pub met : (r : ℕ) → i < r → r ≤ j → Met ws r k

-- no record is marked
pub record Clear (ws : List ℕ) : Type 0 where
  pub none : (x : ℕ) → mark_of ws x ≡ 1 → ⊥

-- the lowest t bits of a word are set
pub record Tail (v t : ℕ) : Type 0 where
  pub few : t ≤ 64
  pub set : (j : ℕ) → j < t → bit_of v j ≡ 1
