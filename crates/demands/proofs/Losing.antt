-- 2026-06: a search looks at the first 32 bytes and at the data section, so that it finds the same where the index is lost.
use Rattle.std.specs.Prelude.{Ok, Err}
use Prim.Native.Nat.{ℕ, zero, suc, ◌+◌, ◌-◌, ◌*◌, ◌≤◌, ◌<◌}
use mathlib.Core.Path.{◌≡◌, refl, sym, ◌∙◌, ap}
use mathlib.Core.Bool.{false}
use mathlib.Core.List.{List, [], ◌∷◌}
use native.Mathlib.Omega.{arith}
use lib.Dec.{ltb}
use lib.ListN.{length}
use lib.Seq.{ext_get_or}
use Rattle.lent.specs.Number.{be64}
use Rattle.lent.specs.Checks.{Check, check, answer, judge}
use Rattle.lent.specs.Write.{write}
use Rattle.lent.proofs.Checks.{clear-append}
use Rattle.lent.proofs.Parts.{length_part, part_at}
use Rattle.paper.specs.declared.sizes.Sizes.{Sizes}
use Rattle.paper.specs.declared.refusal.Refusal.{Refusal}
use Rattle.paper.specs.declared.refusal.Refusal.TheVariants.{TooSmall}
use Rattle.paper.specs.Sizes.{sizes_of, start_of, bytes_of, boot_checks}
use Rattle.paper.specs.Index.{Booted}
use Rattle.paper.specs.Scan.{ruled_of}
use Rattle.paper.specs.Find.{Find, rest_from, takes, takes_at, find_at, find_from, find_of, find_lines, find_checks, report_of, report_out}
use Rattle.paper.proofs.Sizing.{times}
use Rattle.paper.proofs.Opening.{booted-clear, boot-sound, sound-boot, open-sound}
use Rattle.paper.proofs.Forms.{version-same, sizes-same}
use Rattle.paper.proofs.Finding.{find-from, from_past, from-broken, from_found}
use Rattle.demands.specs.Lost.{IndexLost, SearchSame, FindsLost}
use Rattle.demands.proofs.Finding.{down, finds-listed}

module _ (f g : List ℕ) (z : Sizes) (B : Booted f z) (L : IndexLost f g z) where
  -- the bootstrap is as it was
  booted : Booted g z
  booted =
      let q = B.ranged.shape in
      let t = times 1 (z.n + z.d) z.l (omega arith) in
      record {
        reads = sizes-same f g (λ i lo hi. L.boot i hi) ∙ B.reads;
        long = omega (arith, L.long);
        version = omega (arith, version-same f g (λ i lo hi. L.boot i hi), B.version);
        ranged = B.ranged;
        held = L.long;
      }

  -- and so is the run from any data record on
  rest-same : (r : ℕ) → z.n < r → rest_from g z r ≡ rest_from f z r
  rest-same r low =
      let a : ℕ = start_of z r in
      let b : ℕ = bytes_of z in
      let t = times z.n (r - 1) z.l (omega arith) in
      let lf = length_part a b f B.held in
      let lg = length_part a b g L.long in
      ext_get_or 0 (rest_from g z r) (rest_from f z r) (lg ∙ sym lf)
      (λ i h.
      let k : i < b - a = omega arith in
      part_at a b g i k ∙ L.scans (a + i) (omega arith) (omega arith) ∙ sym (part_at a b f i k))

  takes_same : (r : ℕ) → z.n < r → takes_at g z r ≡ takes_at f z r
  unfolding takes_at
  takes_same r low = ap (λ (s : List ℕ). takes z (ruled_of s false)) (rest-same r low)

  from-same : (r : ℕ) → z.n < r → r ≤ z.n + z.d → ((j : ℕ) → r < j → find_from g z j ≡ find_from f z j) → find_from g z r ≡ find_from f z r
  from-same r low high next = go (takes_at f z r) refl
    where
      go : (k : ℕ) → takes_at f z r ≡ k → find_from g z r ≡ find_from f z r
      go zero e = from-broken g z r high (takes_same r low ∙ e) ∙ next (r + 1) (omega arith) ∙ sym (from-broken f z r high e)
      go (suc k) e =
          from_found g z r k high (takes_same r low ∙ e)
          ∙ ap (λ (s : List ℕ). record { first = r; last = r + k; scan = be64 s 48 } ∷ find_from g z (r + suc k)) (rest-same r low)
          ∙ ap (λ (xs : List Find). find_at f z r (r + k) ∷ xs) (next (r + suc k) (omega arith)) ∙ sym (from_found f z r k high e)

  same-finds : find_of g z ≡ find_of f z
  same-finds =
      find-from g z
      ∙ down (λ (r : ℕ). z.n < r → find_from g z r ≡ find_from f z r) (z.n + z.d) (λ r h low. from_past g z r h ∙ sym (from_past f z r h))
      (λ r high next low. from-same r low high (λ j l. next j l (omega arith))) z.d (z.n + 1) (omega arith) (omega arith)
      ∙ sym (find-from f z)

  -- whatever is made of what is found
  same-judged : {A : Type 0} (out : List ℕ) (refuse : Refusal → A) (put : List Find → A)
      → judge refuse (find_checks g out) (put (find_of g (sizes_of g))) ≡ judge refuse (find_checks f out) (put (find_of f (sizes_of f)))
  same-judged {A} out refuse put =
      let room : List Find → List (Check Refusal) = λ xs. check (ltb (length out) (3 * length xs)) TooSmall ∷ [] in
      let own : List Find → A = λ xs. judge refuse (room xs) (put xs) in
      let by : (h : List ℕ) → Booted h z → judge refuse (find_checks h out) (put (find_of h (sizes_of h))) ≡ own (find_of h z) =
      λ h b.
      let xs : List Find = find_of h (sizes_of h) in
      ap (answer refuse (put xs)) (clear-append (boot_checks h) (room xs) (booted-clear b)) ∙ ap (λ (y : Sizes). own (find_of h y)) b.reads in
      by g booted ∙ ap own same-finds ∙ sym (by f B)

pub search-same : SearchSame
unfolding report_of report_out
search-same f g z o L =
    let B = boot-sound o in
    record {
      boots = sound-boot (booted f g z B L);
      finds = same-finds f g z B L;
      answers = λ out. same-judged f g z B L out Err (λ xs. Ok (length xs));
      lines = λ out. same-judged f g z B L out (λ r. out) (λ xs. write out 0 (find_lines xs));
    }

pub finds-lost : FindsLost
finds-lost f g z o G A L =
    let same = search-same f g z (sound-boot (open-sound o).booted) L in
    let listed = finds-listed f z o G A in
    record { same = same; listed = listed; found = same.finds ∙ listed.found }
