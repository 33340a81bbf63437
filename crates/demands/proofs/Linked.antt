-- 2026-07: pieces cut anywhere leave what one piece leaves, and finish says of it what open says of the whole file.
use Rattle.std.specs.Prelude.{Ok, Err}
use Prim.Native.Nat.{ℕ, ◌*◌, ◌≤◌, ◌<◌}
use mathlib.Core.Path.{◌≡◌, refl, sym, ◌∙◌, ap}
use mathlib.Core.List.{List, [], ◌∷◌, ◌++◌, append_assoc, append-nil}
use mathlib.Core.Logic.{⊎_elim}
use native.Mathlib.Omega.{arith}
use borrow.Author.Tests.{lt-ltb}
use lib.ListN.{length, get_or}
use Rattle.lent.proofs.Lists.{lt-or-ge}
use Rattle.paper.specs.declared.sizes.Sizes.{Sizes}
use Rattle.paper.specs.declared.refusal.Refusal.TheVariants.{NotAllCame}
use Rattle.paper.specs.Answers.{Opened}
use Rattle.paper.specs.declared.link.Link.{Link}
use Rattle.paper.specs.Index.{row_run, boot_of, open_of}
use Rattle.paper.specs.Link.{fresh_link, took_link, took_row, take_of, take_row, finish_of, link_in}
use Rattle.paper.proofs.Sizing.{head_in}
use Rattle.paper.proofs.Opening.{boot-sound, open-refused}
use Rattle.paper.proofs.Linking.{took-none, took-row-none, took-uncut, took-row-uncut, took-row-length, took-most, took-within, took-past, took-row-over, took-run, begin-long, take_long, take_short, take-row-long, take-row-short, take-row-length, take-row-past, finish-short, finish-early, finish-refused, finish-part, finish-whole}
use Rattle.demands.specs.Entries.{Bytes}
use Rattle.demands.specs.Link.{State, begun, taking, after, joined, finished, LinkUncut, LinkBeyond, LinkSoFar, Comes, LinkVerdict, LinkOpens, LinkRow}

-- ---- a call

module _ (k : Link) (p row : List ℕ) where
  link-long : 8192 ≤ length row → link_in k (take_of k p row) ≡ took_link k p
  link-long h = ap (link_in k) (take_long k p row h)

  link-short : length row < 8192 → link_in k (take_of k p row) ≡ k
  link-short h = ap (link_in k) (take_short k p row h)

pub link-uncut : LinkUncut
link-uncut k a b row made =
    let l : length (take_row k a row) ≡ length row = take-row-length k a row in
    ⊎_elim
    (λ (h : length row < 8192).
    record {
      link = link-short (link_in k (take_of k a row)) b (take_row k a row) (omega arith) ∙ link-short k a row h ∙ sym (link-short k (a ++ b) row h);
      row = take-row-short (link_in k (take_of k a row)) b (take_row k a row) (omega arith) ∙ take-row-short k a row h ∙ sym (take-row-short k (a ++ b) row h);
    })
    (λ (h : 8192 ≤ length row).
    record {
      link =
          link-long (link_in k (take_of k a row)) b (take_row k a row) (omega arith) ∙ ap (λ (j : Link). took_link j b) (link-long k a row h)
          ∙ took-uncut k a b made ∙ sym (link-long k (a ++ b) row h);
      row =
          take-row-long (link_in k (take_of k a row)) b (take_row k a row) (omega arith) ∙ ap (λ (j : Link). took_row j b (take_row k a row)) (link-long k a row h)
          ∙ ap (took_row (took_link k a) b) (take-row-long k a row h) ∙ took-row-uncut k a b row made h ∙ sym (take-row-long k (a ++ b) row h);
    })
    (lt-or-ge (length row) 8192)

pub link-beyond : LinkBeyond
link-beyond k p row = record { as_long = take-row-length k p row; beyond = take-row-past k p row }

-- ---- the calls, one after the other

module _ (len : ℕ) (row : List ℕ) (enough : 8192 ≤ length row) where
  abbrev fresh : Link
  fresh = fresh_link len

  -- a state is that of the bytes so far
  abbrev Is : State → List ℕ → Type 0
  Is s bytes = (s.link ≡ took_link fresh bytes) × (s.row ≡ took_row fresh bytes row)

  taken_is : (s : State) (a p : List ℕ) → Is s a → Is (taking s p) (a ++ p)
  taken_is s a p i =
      let l : 8192 ≤ length s.row = omega (arith, ap length i.1, took-row-length fresh a row enough) in (
        link-long s.link p s.row l ∙ ap (λ (j : Link). took_link j p) i.0 ∙ took-uncut fresh a p refl,
        take-row-long s.link p s.row l ∙ ap (λ (j : Link). took_row j p s.row) i.0 ∙ ap (took_row (took_link fresh a) p) i.1
            ∙ took-row-uncut fresh a p row refl enough,
      )

  after_is : (ps : List (List ℕ)) (s : State) (a : List ℕ) → Is s a → Is (after s ps) (a ++ joined ps)
  unfolding after joined
  after_is [] s a i = rw append-nil i
  after_is (p ∷ ps) s a i = rw append_assoc at (after_is ps (taking s p) (a ++ p) (taken_is s a p i))

  begun-is : (ps : List (List ℕ)) → Is (after (begun len row) ps) (joined ps)
  begun-is ps =
      after_is ps (begun len row) [] (ap (link_in (fresh_link 0)) (begin-long len row enough) ∙ sym (took-none fresh), sym (took-row-none fresh row enough))

pub link-so-far : LinkSoFar
link-so-far len row ps enough =
    let i = begun-is len row enough ps in
    record {
      link = i.0;
      row = i.1;
      within = omega (arith, ap (λ (k : Link). k.came) i.0, took-within len (joined ps));
      past = took-past len (joined ps);
      past_row = took-row-over len (joined ps) row enough;
    }

-- ---- a file whose bytes come

module _ (f row : List ℕ) (ps : List (List ℕ)) (enough : 8192 ≤ length row) where
  abbrev bytes : List ℕ
  bytes = joined ps

  abbrev given : Link
  given = fresh_link (length f)

  -- what finish says of them
  abbrev said : Opened
  said = finish_of (took_link given bytes) (took_row given bytes row)

  finished-is : finished (after (begun (length f) row) ps) ≡ said
  finished-is =
      let i = begun-is (length f) row enough ps in
      ap (λ (k : Link). finish_of k (after (begun (length f) row) ps).row) i.0 ∙ ap (finish_of (took_link given bytes)) i.1

  long-row : 8192 ≤ length (took_row given bytes row)
  long-row = omega (arith, took-row-length given bytes row enough)

  said-short : length f < 512 → said ≡ open_of f
  unfolding took_link boot_of
  said-short h = finish-short (took_link given bytes) (took_row given bytes row) long-row h ∙ sym (open-refused f (rw (lt-ltb (length f) 512 h)))

  said-early : 512 ≤ length f → length bytes < 32 → said ≡ Err NotAllCame
  unfolding took_link
  said-early h l = finish-early (took_link given bytes) (took_row given bytes row) long-row h (omega (arith, took-most given bytes))

  module _ (low : Bytes f) (comes : Comes f bytes) where
    said-part : (z : Sizes) → boot_of f ≡ Ok z → length bytes < z.n * z.l → said ≡ Err NotAllCame
    said-part z e l =
        let B = boot-sound e in
        ⊎_elim (λ (h : length bytes < 32). said-early B.long h) (λ (h : 32 ≤ length bytes). finish-part f bytes B.long h comes row enough B l)
        (lt-or-ge (length bytes) 32)

    said-whole : 512 ≤ length f → 32 ≤ length bytes → ((z : Sizes) → boot_of f ≡ Ok z → z.n * z.l ≤ length bytes) → said ≡ open_of f
    said-whole long begins whole = go (boot_of f) refl
      where
        go : (o : Opened) → boot_of f ≡ o → said ≡ open_of f
        go (Ok z) e = finish-whole f bytes long begins comes row enough (boot-sound e) low (whole z e)
        go (Err r) e = finish-refused f bytes long begins comes row enough e ∙ sym (open-refused f e)

pub link-verdict : LinkVerdict
link-verdict f row ps low enough comes =
    let is = finished-is f row ps enough in
    record {
      none = λ h l. is ∙ said-early f row ps enough h l;
      part = λ z e l. is ∙ said-part f row ps enough low comes z e l;
      whole = λ begins whole.
          is
          ∙ ⊎_elim (λ (h : length f < 512). said-short f row ps enough h)
          (λ (h : 512 ≤ length f). said-whole f row ps enough low comes h (begins h) whole) (lt-or-ge (length f) 512);
    }

pub link-opens : LinkOpens
link-opens f row ps low enough e =
    (link-verdict f row ps low enough (λ i h l. ap (λ (x : List ℕ). get_or x i 0) e)).whole (λ h. omega (arith, ap length e))
    (λ z o. omega (arith, ap length e, head_in (boot-sound o)))

pub link_row : LinkRow
link_row f row ps z low enough comes o s first last held =
    let B = boot-sound o in
    ap (λ (r : List ℕ). row_run r s) (begun-is (length f) row enough ps).1
    ∙ took-run f (joined ps) B.long (omega (arith, B.ranged.shape.l_low)) comes B low row s first last held
