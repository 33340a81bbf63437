-- What finish answers once the bootstrap's first 32 bytes came, one law for each return.
use Rattle.std.specs.Prelude.{Ok, Err}
use Prim.Native.Nat.{ℕ, ◌*◌, ◌≤◌, ◌<◌}
use mathlib.Core.Path.{◌≡◌, sym, ◌∙◌, ap}
use mathlib.Core.List.{List}
use lib.ListN.{length}
use borrow.Author.Tests.{lt-ltb, le-ltb}
use Rattle.lent.specs.Checks.{judge}
use Rattle.lent.proofs.Checks.{judge-clear, judge-fires}
use Rattle.paper.specs.declared.sizes.Sizes.{Sizes}
use Rattle.paper.specs.declared.refusal.Refusal.{Refusal}
use Rattle.paper.specs.declared.refusal.Refusal.TheVariants.{NotAllCame}
use Rattle.paper.specs.Answers.{Opened}
use Rattle.paper.specs.declared.link.Link.{Link}
use Rattle.paper.specs.Sizes.{sizes_of, size_checks}
use Rattle.paper.specs.Index.{row_run, sized_of, index_of}
use Rattle.paper.specs.Link.{came_checks, finish_of}
use Rattle.paper.proofs.Opening.{opens-clear, refused-fires}
use Rattle.paper.proofs.Linking.{finish-boot}

module _ (k : Link) (row : List ℕ) (w : 8192 ≤ length row) (long : 512 ≤ k.span) (came : 32 ≤ k.came) where
  abbrev stated : Sizes
  stated = sizes_of k.boot

  -- what is asked of the index
  abbrev rest : Sizes → Opened
  rest y = judge Err (came_checks k y (row_run row)) (Ok y)

  finish-sized : finish_of k row ≡ judge Err (size_checks k.span stated) (rest stated)
  finish-sized = finish-boot k row w came ∙ rw (le-ltb k.span 512 long)

  module _ (z : Sizes) (s : z ≡ sizes_of k.boot) (j : Opened) (e : j ≡ sized_of k.span z) where
    judged : sized_of k.span stated ≡ j
    judged = sym (e ∙ ap (sized_of k.span) s)

    pub verdict-refused : (r : Refusal) → j ≡ Err r → j ≡ finish_of k row
    unfolding sized_of
    verdict-refused r h =
        h ∙ sym (finish-sized ∙ judge-fires Err (size_checks k.span stated) (rest stated) r (refused-fires (size_checks k.span stated) stated r (judged ∙ h)))

    module _ (y : Sizes) (h : j ≡ Ok y) where
      finish-rest : finish_of k row ≡ rest y
      unfolding sized_of
      finish-rest =
          let p = opens-clear (size_checks k.span stated) stated y (judged ∙ h) in
          finish-sized ∙ judge-clear Err (size_checks k.span stated) (rest stated) p.0 ∙ ap rest p.1

      pub verdict-early : k.came < y.n * y.l → Err NotAllCame ≡ finish_of k row
      verdict-early l = sym (finish-rest ∙ rw (lt-ltb k.came (y.n * y.l) l))

      pub verdict-index : (r : Opened) → y.n * y.l ≤ k.came → r ≡ index_of y (row_run row) → r ≡ finish_of k row
      unfolding index_of
      verdict-index r l q = q ∙ sym (finish-rest ∙ rw (le-ltb k.came (y.n * y.l) l))
