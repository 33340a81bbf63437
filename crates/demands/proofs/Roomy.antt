-- 2026-06: finds that rise and share no record are no more than the records they lie in.
use Rattle.std.specs.Prelude.{Ok, Err}
use Prim.Native.Nat.{ℕ, ◌+◌, ◌*◌, ◌≤◌}
use mathlib.Core.Path.{◌≡◌, refl, ◌∙◌, ap}
use mathlib.Core.List.{List, [], ◌∷◌, Memᴰ}
use native.Mathlib.Omega.{arith}
use borrow.Author.Tests.{le-ltb}
use lib.Dec.{ltb}
use lib.ListN.{length}
use Rattle.lent.specs.Checks.{check, clear, fired}
use Rattle.lent.proofs.Checks.{clear-append, cons-clear, judge-clear}
use Rattle.paper.specs.declared.sizes.Sizes.{Sizes}
use Rattle.paper.specs.declared.refusal.Refusal.TheVariants.{TooSmall}
use Rattle.paper.specs.Sizes.{sizes_of, boot_checks}
use Rattle.paper.specs.Index.{Booted}
use Rattle.paper.specs.Find.{Find, find_of, find_checks, report_of}
use Rattle.paper.proofs.Opening.{boot-sound, booted-clear}
use Rattle.demands.specs.Find.{InOrder}
use Rattle.demands.specs.FindRoom.{FindRoom}
use Rattle.demands.proofs.Finding.{finds-right}

-- each takes up a record at least, after the last one and up to the top
counted : (last top : ℕ) (xs : List Find) → last ≤ top → InOrder last xs → ((x : Find) → Memᴰ x xs → x.last ≤ top) → last + length xs ≤ top
counted last top [] h o w = omega arith
counted last top (x ∷ xs) h o w =
    let a : x.last ≤ top = w x (Memᴰ.head refl) in
    omega (arith, counted x.last top xs a o.2 (λ y m. w y (Memᴰ.tail m)), o.0, o.1)

-- a search that is lent three elements a find is accepted
done : (f out : List ℕ) (z : Sizes) → Booted f z → 3 * length (find_of f z) ≤ length out → report_of f out ≡ Ok (length (find_of f z))
unfolding report_of
done f out z B h =
    let e : find_of f (sizes_of f) ≡ find_of f z = ap (find_of f) B.reads in
    let small = ltb (length out) (3 * length (find_of f (sizes_of f))) in
    let c : fired (find_checks f out) ≡ clear =
    clear-append (boot_checks f) (check small TooSmall ∷ []) (booted-clear B)
    ∙ cons-clear small TooSmall [] (le-ltb (length out) (3 * length (find_of f (sizes_of f))) (omega (arith, ap length e))) refl in
    judge-clear Err (find_checks f out) _ c ∙ ap (λ (xs : List Find). Ok (length xs)) e

-- D finds at most, and 3 x D elements are always enough
pub find-room : FindRoom
find-room f z o =
    let F = finds-right f z o in
    let m : length (find_of f z) ≤ z.d =
    omega (arith, counted z.n (z.n + z.d) (find_of f z) (omega arith) F.order (λ x h. (F.right x h).within)) in
    record { most = m; accepted = λ out h. done f out z (boot-sound o) (omega arith) }
