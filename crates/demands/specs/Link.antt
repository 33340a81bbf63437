-- 02, 2026-07: "Opening over the slow link". Whatever the cutting, link and row are those of the bytes so far, and finish says what open says of the whole file.
use Rattle.std.specs.Prelude.{ℕ, ◌+◌, ◌*◌, ◌≤◌, ◌<◌, ◌≡◌, List, [], ◌∷◌, ◌++◌, length, take, get_or, Ok, Err}
use Rattle.paper.specs.declared.sizes.Sizes.{Sizes}
use Rattle.paper.specs.declared.refusal.Refusal.TheVariants.{NotAllCame}
use Rattle.paper.specs.Answers.{Opened}
use Rattle.paper.specs.declared.link.Link.{Link}
use Rattle.paper.specs.Sizes.{capacity_of, home_of}
use Rattle.paper.specs.Index.{run_of, row_run, boot_of, open_of}
use Rattle.paper.specs.Link.{fresh_link, took_link, took_row, width_of, begin_of, take_of, take_row, finish_of, link_in}
use Rattle.demands.specs.Entries.{Bytes}

-- ---- the calls, one after the other

-- the link, and the row "lent to each call as the last one left it"
pub record State : Type 0 where
  pub link : Link
  pub row : List ℕ

abbrev pub begun : ℕ → List ℕ → State
begun len row = record { link = link_in (fresh_link 0) (begin_of len row); row = row }

abbrev pub taking : State → List ℕ → State
taking s p = record { link = link_in s.link (take_of s.link p s.row); row = take_row s.link p s.row }

-- "bytes in pieces cut anywhere": any list of pieces, empty ones too
unfoldable pub after : State → List (List ℕ) → State
after s [] = s
after s (p ∷ ps) = after (taking s p) ps

-- the bytes so far
unfoldable pub joined : List (List ℕ) → List ℕ
joined [] = []
joined (p ∷ ps) = p ++ joined ps

abbrev pub finished : State → Opened
finished s = finish_of s.link s.row

-- ---- any link, made by hand too

-- a link's array has its 32 bytes
abbrev pub Made : Link → Type 0
Made k = length k.boot ≡ 32

-- "cut anywhere": two pieces are as good as the one that they make
pub record Uncut (k : Link) (a b old : List ℕ) : Type 0 where
  pub link : link_in (link_in k (take_of k a old)) (take_of (link_in k (take_of k a old)) b (take_row k a old)) ≡ link_in k (take_of k (a ++ b) old)
  pub row : take_row (link_in k (take_of k a old)) b (take_row k a old) ≡ take_row k (a ++ b) old

abbrev pub LinkUncut : Type 0
LinkUncut = (k : Link) (a b row : List ℕ) → Made k → Uncut k a b row

-- "elements past 8,192 are not touched"
pub record Beyond (row after : List ℕ) : Type 0 where
  pub as_long : length after ≡ length row
  pub beyond : (i : ℕ) → 8192 ≤ i → get_or after i 0 ≡ get_or row i 0

abbrev pub LinkBeyond : Type 0
LinkBeyond = (k : Link) (p row : List ℕ) → Beyond row (take_row k p row)

-- ---- a link that was begun

-- link and row over the length and the bytes so far, as if these had come in one piece
pub record SoFar (len : ℕ) (old bytes : List ℕ) (s : State) : Type 0 where
  pub link : s.link ≡ took_link (fresh_link len) bytes
  pub row : s.row ≡ took_row (fresh_link len) bytes old
  -- "Bytes past the given length are passed over and count for nothing"
  pub within : s.link.came ≤ len
  pub past : took_link (fresh_link len) bytes ≡ took_link (fresh_link len) (take len bytes)
  pub past_row : took_row (fresh_link len) bytes old ≡ took_row (fresh_link len) (take len bytes) old

abbrev pub LinkSoFar : Type 0
LinkSoFar = (len : ℕ) (row : List ℕ) (ps : List (List ℕ)) → 8192 ≤ length row → SoFar len row (joined ps) (after (begun len row) ps)

-- the bytes that came are the file's, from its first on; more than it has may have come
abbrev pub Comes : List ℕ → List ℕ → Type 0
Comes f bytes = (i : ℕ) → i < length f → i < length bytes → get_or bytes i 0 ≡ get_or f i 0

-- what finish says of the file f after so many bytes
pub record Verdict (f : List ℕ) (came : ℕ) (r : Opened) : Type 0 where
  -- "20 if the length is 512 or more and fewer than 32 bytes came"
  pub none : 512 ≤ length f → came < 32 → r ≡ Err NotAllCame
  -- "or if the bootstrap breaks nothing and fewer than N x L came"
  pub part : (z : Sizes) → boot_of f ≡ Ok z → came < z.n * z.l → r ≡ Err NotAllCame
  -- "else open's own"
  pub whole : (512 ≤ length f → 32 ≤ came) → ((z : Sizes) → boot_of f ≡ Ok z → z.n * z.l ≤ came) → r ≡ open_of f

abbrev pub LinkVerdict : Type 0
LinkVerdict = (f row : List ℕ) (ps : List (List ℕ)) → Bytes f → 8192 ≤ length row → Comes f (joined ps)
    → Verdict f (length (joined ps)) (finished (after (begun (length f) row) ps))

-- "The answer equals that of open on the whole file, for every cutting, in both forms"
abbrev pub LinkOpens : Type 0
LinkOpens = (f row : List ℕ) (ps : List (List ℕ)) → Bytes f → 8192 ≤ length row → joined ps ≡ f → finished (after (begun (length f) row) ps) ≡ open_of f

-- "Row in slot order": the row holds the run of each slot whose numbers came
abbrev pub LinkRow : Type 0
LinkRow = (f row : List ℕ) (ps : List (List ℕ)) (z : Sizes) → Bytes f → 8192 ≤ length row → Comes f (joined ps) → boot_of f ≡ Ok z
    → (s : ℕ) → 1 ≤ s → s ≤ capacity_of z → home_of z s + 2 * width_of z.version ≤ length (joined ps)
    → row_run (after (begun (length f) row) ps).row s ≡ run_of f z s
