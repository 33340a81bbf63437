-- An accepted blank: the file opens with the sizes given and lists nothing; and where a data record has room there is a place for a scan.
use Rattle.std.specs.Prelude.{Ok, Err}
use Prim.Native.Nat.{ℕ, ◌+◌, ◌-◌, ◌*◌, ◌≤◌}
use mathlib.Core.Path.{◌≡◌, refl, sym, ◌∙◌, ap}
use mathlib.Core.Bool.{not}
use mathlib.Core.List.{List, ◌++◌, append_assoc}
use mathlib.Core.Logic.{◌≢◌}
use native.Mathlib.Omega.{arith}
use native.Mathlib.Nat.{add-zero, zero-add}
use borrow.Author.Tests.{leb-true, le-leb, not-false}
use lib.ListN.{length, drop}
use Rattle.lent.specs.Checks.{clear, fired}
use Rattle.lent.specs.Number.{big, be32}
use Rattle.lent.specs.Write.{write, pad, zeros}
use Rattle.lent.proofs.Lists.{true≢false, all_true, true-all}
use Rattle.lent.proofs.Leasts.{none-least}
use Rattle.lent.proofs.Checks.{clear-all, all-clear, judge-clear, judged-ok}
use Rattle.lent.proofs.Numbers.{number_in, number-pad, number_past}
use Rattle.lent.proofs.Writes.{length-write, length-pad}
use Rattle.paper.specs.declared.sizes.Sizes.{Sizes}
use Rattle.paper.specs.declared.sizes.Run.{Run}
use Rattle.paper.specs.declared.refusal.Refusal.{Refusal}
use Rattle.paper.specs.Sizes.{sizes_of, version_of, boot_bytes, capacity_of, home_of, room_of, Ranged}
use Rattle.paper.specs.Index.{run_of, Sound}
use Rattle.paper.specs.Store.{blank_sizes, blank_tests, blank_checks, blank_of, blank_file, free_at, free_place, Blankable}
use Rattle.paper.proofs.Sizing.{head-long, home-end}
use Rattle.paper.proofs.Forms.{current-first, current-last}
use Rattle.paper.proofs.Opening.{shaped-facts, facts-shaped}
use Rattle.paper.proofs.Encoding.{length-boot, sizes-back, version-back}
use Rattle.paper.proofs.Free.{facts-free}

module _ (f : List ℕ) (n l m : ℕ) where
  abbrev z : Sizes
  z = blank_sizes n l m

  blank-clear : blank_of f n l m ≡ Ok tt → fired (blank_checks f (blank_sizes n l m)) ≡ clear
  unfolding blank_of
  blank-clear e = (judged-ok (blank_checks f z) tt e).0

  pub blank-facts : blank_of f n l m ≡ Ok tt → Blankable f (blank_sizes n l m)
  blank-facts e =
      let c = clear-all (blank_checks f z) (blank-clear e) in
      let t = all_true (blank_tests (length f) z) (not-false _ c.0) in
      record { shape = shaped-facts z t.0; fits = leb-true _ _ t.1.0 }

  facts-clear : Blankable f z → fired (blank_checks f z) ≡ clear
  facts-clear h =
      all-clear (blank_checks f z) (ap not (true-all (blank_tests (length f) z) (facts-shaped z h.shape, (le-leb _ _ h.fits, tt))), tt)

  pub facts-blank : Blankable f (blank_sizes n l m) → blank_of f n l m ≡ Ok tt
  unfolding blank_of
  facts-blank h = judge-clear Err (blank_checks f z) (Ok tt) (facts-clear h)

  pub blank-file : Blankable f (blank_sizes n l m) → blank_file f n l m ≡ write f 0 (pad (n * l) (boot_bytes (blank_sizes n l m)))
  unfolding blank_file
  blank-file h = judge-clear (λ (r : Refusal). f) (blank_checks f z) (write f 0 (pad (n * l) (boot_bytes z))) (facts-clear h)

  -- ---- the file

  module _ (h : Blankable f (blank_sizes n l m)) where
    abbrev bs : List ℕ
    bs = pad (n * l) (boot_bytes z)

    abbrev g : List ℕ
    g = write f 0 bs

    length-bs : length bs ≡ n * l
    length-bs = length-pad (n * l) (boot_bytes z) (omega (arith, length-boot z, head-long z h.shape))

    len : length g ≡ length f
    len = length-write f 0 bs (omega (arith, length-bs, h.fits))

    rest : List ℕ
    rest = zeros (n * l - length (boot_bytes z)) ++ drop (0 + length bs) f

    split : g ≡ boot_bytes z ++ rest
    unfolding write pad rest
    split = append_assoc (boot_bytes z) (zeros (n * l - length (boot_bytes z))) (drop (0 + length bs) f)

    word : (o : ℕ) → 32 ≤ o → o + 4 ≤ n * l → be32 g o ≡ 0
    word o a b =
        ap (be32 g) (sym (zero-add o)) ∙ number_in big 4 f 0 bs o (omega arith) (omega (arith, length-bs))
        ∙ number-pad big 4 (n * l) (boot_bytes z) o ∙ number_past big 4 (boot_bytes z) o (omega (arith, length-boot z))

    empties : (s : ℕ) → 1 ≤ s → s ≤ capacity_of z → (run_of g z s).first + (run_of g z s).last ≡ 0
    empties s a b =
        let k = home-end z h.shape s a b in
        let q = h.shape in
        omega (arith, current-first g z s refl, current-last g z s refl, word (home_of z s) (omega arith) (omega arith), word (home_of z s + 4) (omega arith) (omega arith))

    pub blank-length : length (write f 0 (pad (n * l) (boot_bytes (blank_sizes n l m)))) ≡ length f
    blank-length = len

    pub blank-sound : Sound (write f 0 (pad (n * l) (boot_bytes (blank_sizes n l m)))) (blank_sizes n l m)
    blank-sound =
        let q = h.shape in
        let r : Ranged z = record { shape = h.shape; records = omega arith; used = omega arith; known = omega arith } in
        record {
          booted = record {
            reads = ap sizes_of split ∙ sizes-back z rest r (omega arith) refl;
            long = rw len (omega (arith, h.fits, head-long z h.shape));
            version = omega (arith, ap version_of split, version-back z rest);
            ranged = r;
            held = rw (len, add-zero) h.fits;
          };
          laid = record {
            inside = λ s a b. absurd (omega arith);
            above = λ s a b. empties s (omega arith) b;
            apart = λ s t r a b c. absurd (omega arith);
          };
        }

-- a place for k records where the room has k more than N, and no slot is in use
pub first-place : (z : Sizes) (len : ℕ) (run : ℕ → Run) (k : ℕ) → 1 ≤ k → z.u ≡ 0 → z.n + k ≤ room_of z len → free_place z len run k ≢ 0
unfolding free_place
first-place z len run k k₁ u h e =
    let none = (none-least {p = free_at z len run k} {n = room_of z len} e).none in
    true≢false
    (facts-free z len run k (z.n + 1) (record { past = omega arith; within = omega arith; alone = λ s a b c. omega arith }))
    (none (z.n + 1) (omega arith) (omega arith))
