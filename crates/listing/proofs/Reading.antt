-- What lies in the room after a read, and what it leaves of the bytes that an input is known to have.
use Rattle.std.proofs.Common.{◌≡◌, ℕ, ◌+◌, ◌≤◌, min, List, [], ◌++◌, length, take, Option, Some, None, Result, Ok, Err, IfSome, refl, sym, ◌∙◌, ap, subst, append_assoc, arith}
use Rattle.std.proofs.lemmas.List.{take_all, take-append-le, length-take-le, append-nil}
use Rattle.std.proofs.Math.Seq.{take-append-add, take-append_seam}
use Rattle.std.specs.Io.{ReadsAtMost}
use Rattle.std.specs.Io.KnownBytes.{Consumes, IsAtEnd, ReadConsumes}
use borrow.Rule.Slice.PartMut.{put_mid, post_of}
use Rattle.listing.specs.Input.{input_of, Within, Took}

-- as many bytes as there is room for
pub told-within : {E : Type 0} (got : Result ℕ E) (room : List ℕ) {r : Option ℕ} → r ≡ input_of got (length room) → Within r room
unfolding input_of
told-within (Ok k) room e = rw e (omega arith)
told-within (Err x) room e = rw e tt

-- and from the front of those that are left
pub told-took : {E : Type 0} (got : Result ℕ E) (room : List ℕ) (old new : Option (List ℕ)) {r : Option ℕ} → r ≡ input_of got (length room)
    → ReadsAtMost got room → ReadConsumes old new got room → Took r room old new
unfolding input_of
told-took (Ok k) room old new e most h =
    let q : k ≡ min k (length room) = omega (arith, most.0) in
    let P : Option ℕ → Type 0 = λ i. Took i room old new in
    subst P (ap Some q ∙ sym e) h
told-took (Err x) room old new e most h =
    let P : Option ℕ → Type 0 = λ i. Took i room old new in
    subst P (sym e) h

-- nothing is taken before the first read
pub took-nothing : (known : Option (List ℕ)) → Consumes known known []
took-nothing None = tt
took-nothing (Some f) = refl

took-more : (known mid new : Option (List ℕ)) (a b : List ℕ) → Consumes known mid a → Consumes mid new b → Consumes known new (a ++ b)
took-more None mid new a b p q = tt
took-more (Some f) None new a b p q = absurd p
took-more (Some f) (Some g) None a b p q = absurd q
took-more (Some f) (Some g) (Some h) a b p q = p ∙ ap (λ (l : List ℕ). a ++ l) q ∙ sym (append_assoc a b h)

-- the front of a room into whose rest some bytes were read
grown : (n k m : ℕ) (room more : List ℕ) → n ≤ length room → k ≤ length more → take (n + k) (put_mid n m room more) ≡ take n room ++ take k more
grown n k m room more p q =
    ap (λ (i : ℕ). take (i + k) (put_mid n m room more)) (sym (length-take-le n room p))
    ∙ take-append-add (take n room) (more ++ post_of n m room) k
    ∙ ap (λ (l : List ℕ). take n room ++ l) (take-append-le k more (post_of n m room) q)

-- one more read
pub took-step : (known mid new : Option (List ℕ)) (n k m : ℕ) (room more : List ℕ) → Consumes known mid (take n room)
    → Consumes mid new (take k more) → n ≤ length room → k ≤ length more → Consumes known new (take (n + k) (put_mid n m room more))
took-step known mid new n k m room more p q r s =
    let P : List ℕ → Type 0 = λ l. Consumes known new l in
    subst P (sym (grown n k m room more r s)) (took-more known mid new (take n room) (take k more) p q)

-- at the end of the input
pub took-all : (known new : Option (List ℕ)) (n : ℕ) (room : List ℕ) → Consumes known new (take n room) → IsAtEnd new → n ≤ length room
    → IfSome known (λ f. take n room ≡ take (length room) f)
took-all None new n room p q r = tt
took-all (Some f) None n room p q r = absurd p
took-all (Some f) (Some g) n room p q r =
    let e : f ≡ take n room = p ∙ ap (λ (l : List ℕ). take n room ++ l) q ∙ append-nil (take n room) in
    sym e ∙ sym (take_all (length room) f (omega (arith, ap length e, length-take-le n room r)))

-- where the room is full
pub took-full : (known new : Option (List ℕ)) (n : ℕ) (room : List ℕ) → Consumes known new (take n room) → length room ≤ n
    → IfSome known (λ f. take n room ≡ take (length room) f)
took-full None new n room p r = tt
took-full (Some f) None n room p r = absurd p
took-full (Some f) (Some g) n room p r =
    let e : take n room ≡ room = take_all n room r in
    let s : f ≡ room ++ g = p ∙ ap (λ (l : List ℕ). l ++ g) e in
    e ∙ sym (ap (take (length room)) s ∙ take-append_seam room g)
