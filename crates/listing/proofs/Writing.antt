-- What a writer that is known to hold some bytes holds after a write, and that it is what the lister prints.
use Rattle.std.proofs.Common.{◌≡◌, ℕ, ◌+◌, ◌-◌, List, ◌++◌, length, take, drop, Option, Some, None, Result, Ok, Err, IfSome, OnErr, sym, ◌∙◌, ap, subst, append_assoc, arith}
use Rattle.std.proofs.lemmas.List.{take_all, length-drop}
use Rattle.std.proofs.Math.Seq.{take-add, take-append_seam}
use Rattle.std.specs.Io.KnownBytes.{Appends}
use Rattle.lent.specs.Write.{write}
use Rattle.paper.specs.Lister.{printed}
use Rattle.listing.proofs.Printing.{front-printed}

wrote-more : (known mid new : Option (List ℕ)) (a b : List ℕ) → Appends known mid a → Appends mid new b → Appends known new (a ++ b)
wrote-more None mid new a b p q = tt
wrote-more (Some f) None new a b p q = absurd p
wrote-more (Some f) (Some g) None a b p q = absurd q
wrote-more (Some f) (Some g) (Some h) a b p q = q ∙ ap (λ (l : List ℕ). l ++ b) p ∙ append_assoc f a b

-- one more write, of the bytes from the n-th on
pub wrote-step : (known mid new : Option (List ℕ)) (n k : ℕ) (bytes : List ℕ) → Appends known mid (take n bytes)
    → Appends mid new (take k (take (length bytes - n) (drop n bytes))) → Appends known new (take (n + k) bytes)
wrote-step known mid new n k bytes p q =
    let P : List ℕ → Type 0 = λ l. Appends known new l in
    let e : take (length bytes - n) (drop n bytes) ≡ drop n bytes = take_all _ _ (omega (arith, length-drop n bytes)) in
    subst P (ap (λ (l : List ℕ). take n bytes ++ take k l) e ∙ sym (take-add n k bytes)) (wrote-more known mid new (take n bytes) _ p q)

-- the text at the front of what it was put into
front-put : (t l m : List ℕ) (r : ℕ) → r ≡ length t → m ≡ write l 0 t → take r m ≡ t
unfolding write
front-put t l m r p q = ap (λ (i : ℕ). take i m) p ∙ ap (take (length t)) q ∙ take-append_seam t (drop (0 + length t) l)

-- where the input's bytes are known, the text is what is printed of them
text-known : (f : List ℕ) (n k : ℕ) (room l m : List ℕ) → length room ≡ 65537 → take n room ≡ take (length room) f
    → k ≡ length (printed (take n room)) → m ≡ write l 0 (printed (take n room)) → take k m ≡ printed f
text-known f n k room l m long known size bytes =
    front-put (printed (take n room)) l m k size bytes ∙ ap printed known ∙ ap (λ (i : ℕ). printed (take i f)) long ∙ front-printed f

-- all of it where each write took place
pub all-printed : (known old new : Option (List ℕ)) (n k : ℕ) (room l m : List ℕ) → length room ≡ 65537
    → IfSome known (λ f. take n room ≡ take (length room) f) → k ≡ length (printed (take n room))
    → m ≡ write l 0 (printed (take n room)) → Appends old new (take k m) → IfSome known (λ f. Appends old new (printed f))
all-printed None old new n k room l m long came size bytes h = tt
all-printed (Some f) old new n k room l m long came size bytes h =
    let P : List ℕ → Type 0 = λ t. Appends old new t in
    subst P (text-known f n k room l m long came size bytes) h

-- a part of it where one failed
pub part-printed : {A E : Type 0} (r : Result A E) (known old new : Option (List ℕ)) (n k : ℕ) (room l m : List ℕ) → length room ≡ 65537
    → IfSome known (λ f. take n room ≡ take (length room) f) → k ≡ length (printed (take n room))
    → m ≡ write l 0 (printed (take n room)) → ((i : ℕ) × Appends old new (take i (take k m)))
    → OnErr r (IfSome known (λ f. (i : ℕ) × Appends old new (take i (printed f))))
part-printed (Ok x) known old new n k room l m long came size bytes h = tt
part-printed (Err x) None old new n k room l m long came size bytes h = tt
part-printed (Err x) (Some f) old new n k room l m long came size bytes h =
    let P : List ℕ → Type 0 = λ t. Appends old new (take h.0 t) in
    (h.0, subst P (text-known f n k room l m long came size bytes) h.1)
