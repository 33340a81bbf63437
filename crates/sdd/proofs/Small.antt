-- Slots end at 4,096 and reasons at 6, so what a refusal says beside its number fits the face.
use Rattle.std.specs.Prelude.{Ok, Err}
use Prim.Native.Nat.{ℕ, ◌-◌, ◌*◌, ◌≤◌, ◌<◌}
use mathlib.Core.Path.{◌≡◌, refl, sym, ◌∙◌, subst}
use mathlib.Core.Bool.{Bool, true, false, not, cond}
use mathlib.Core.List.{List, [], ◌∷◌, ◌++◌}
use mathlib.Core.Logic.{◌≢◌, ⊎_elim}
use native.Mathlib.Omega.{arith}
use lib.Dec.{ltb, leb, eqb}
use lib.ListN.{length}
use lib.IntN.{ℤ}
use Rattle.lent.specs.Lists.{all}
use Rattle.lent.specs.Checks.{Check, check, Fired, clear, fires, fired, answer, judge}
use Rattle.lent.proofs.Lists.{lt-or-ge, same_or}
use Rattle.lent.proofs.Leasts.{least-le}
use Rattle.lent.proofs.Checks.{clear≢fires, fires-same, judge-fires}
use Rattle.paper.specs.declared.sizes.Sizes.{Sizes}
use Rattle.paper.specs.declared.sizes.Run.{Run}
use Rattle.paper.specs.declared.refusal.Refusal.{Refusal}
use Rattle.paper.specs.declared.refusal.Refusal.TheVariants.{TooShort, OldForm, UnknownForm, OutOfRange, PastEnd, NoEmptySlot, Disagrees, Differs, TooSmall, NotAllCame}
use Rattle.paper.specs.Answers.{Opened, Span, Ruled, Found, Begun, Linked, StepAnswer, taken_in}
use Rattle.paper.specs.declared.link.Link.{Link}
use Rattle.paper.specs.declared.job.Job.{Job}
use Rattle.paper.specs.declared.job.Step.TheVariants as step
use Rattle.paper.specs.Refusals.{value_of}
use Rattle.paper.specs.Sizes.{sizes_of, version_of, start_of, capacity_of, bytes_of, in_range, short, boot_checks, Ranged}
use Rattle.paper.specs.Index.{run_of, row_run, shown_of, bad_at, above_at, shared_at, index_checks, open_checks, change_checks, boot_of, index_of, open_of}
use Rattle.paper.specs.Scan.{ruled_of, class_at, class_end, class_in, of_ruled, class_of, data_of, starts_of, classes_of}
use Rattle.paper.specs.Look.{list_of, list_checks, listed_of, held_checks, slot_checks, other_scan, read_checks, no_slot, found_of, show_of, read_in, read_of}
use Rattle.paper.specs.Store.{blank_checks, blank_sizes, blank_of, reason_of, scan_checks, save_of, keep_of, keep_slot, clear_of}
use Rattle.paper.specs.Gaps.{gaps_of}
use Rattle.paper.specs.Find.{find_checks, report_of}
use Rattle.paper.specs.Convert.{too-small, form_checks, convert_checks, convert_of}
use Rattle.paper.specs.Link.{fresh_link, took_link, row_short, fewer, came_checks, begin_of, take_of, finish_of}
use Rattle.paper.specs.Step.{agrees, has_left, wrote_of, confirmed, confirm_of, stands, step_answer}
use Rattle.paper.proofs.Opening.{range-facts, boot-sound, boot-fires, open-index, open-refused, open-sound, refused-fires, then-opens, then-refused, change-old, change-look}
use Rattle.paper.proofs.Reasons.{reason-least}
use Rattle.sdd.specs.Face.{OpenedSmall, TakenSmall, SpanSmall, ListedSmall, AskedSmall, StepSmall}

-- ---- checks whose refusals have small values

abbrev AllSmall : List (Check Refusal) → Type 0
AllSmall [] = Unit
AllSmall (check t r ∷ cs) = (value_of r ≤ 4096) × AllSmall cs

small-fires : (cs : List (Check Refusal)) → AllSmall cs → (r : Refusal) → fired cs ≡ fires r → value_of r ≤ 4096
small-fires [] h r e = absurd (clear≢fires clear r refl e)
small-fires (check true q ∷ cs) h r e = subst (λ (x : Refusal). value_of x ≤ 4096) (fires-same (fires q) q r refl e) h.0
small-fires (check false q ∷ cs) h r e = small-fires cs h.1 r e

index-small : (z : Sizes) → Ranged z → (run : ℕ → Run) → AllSmall (index_checks z run)
index-small z R run = (
  omega (arith, least-le (bad_at z run) z.u),
  (omega (arith, least-le (above_at z run) (capacity_of z)), (omega (arith, least-le (shared_at run) z.u), tt)),
)

-- ---- open's refusals, and those of the calls that begin with them

index-fires : (z : Sizes) (run : ℕ → Run) (r : Refusal) → index_of z run ≡ Err r → fired (index_checks z run) ≡ fires r
unfolding index_of
index-fires z run r e = refused-fires (index_checks z run) z r e

same-refusal : (f : List ℕ) (q r : Refusal) → open_of f ≡ Err q → open_of f ≡ Err r → q ≡ r
same-refusal f q r p e = cc

open-small : (f : List ℕ) (r : Refusal) → open_of f ≡ Err r → value_of r ≤ 4096
open-small f r e = go (boot_of f) refl
  where
    go : (v : Opened) → boot_of f ≡ v → value_of r ≤ 4096
    go (Ok z) b =
        small-fires (index_checks z (run_of f z)) (index-small z (boot-sound b).ranged (run_of f z)) r
        (index-fires z (run_of f z) r (sym (open-index f b) ∙ e))
    go (Err q) b =
        subst (λ (x : Refusal). value_of x ≤ 4096) (same-refusal f q r (open-refused f b) e)
        (small-fires (boot_checks f) (omega arith, (omega arith, (omega arith, (omega arith, tt)))) q (boot-fires f b))

pub opened-fits : (f : List ℕ) → OpenedSmall (open_of f)
opened-fits f = go (open_of f) refl
  where
    go : (v : Opened) → open_of f ≡ v → OpenedSmall v
    go (Ok z) e = (open-sound e).booted.ranged.shape
    go (Err r) e = open-small f r e

then-small : (f : List ℕ) (ds : List (Check Refusal)) → AllSmall ds → (r : Refusal) → fired (open_checks f ++ ds) ≡ fires r → value_of r ≤ 4096
then-small f ds h r e = go (open_of f) refl
  where
    go : (v : Opened) → open_of f ≡ v → value_of r ≤ 4096
    go (Ok z) o = small-fires ds h r (sym (then-opens f ds o) ∙ e)
    go (Err q) o =
        subst (λ (x : Refusal). value_of x ≤ 4096) (fires-same _ q r (then-refused f ds o) e) (open-small f q o)

-- an old file's change is refused with 2, which has no value; any other file is judged as for a look
change-small : (f : List ℕ) (ds : List (Check Refusal)) → AllSmall ds → (r : Refusal) → fired (change_checks f ++ ds) ≡ fires r → value_of r ≤ 4096
change-small f ds h r e =
    ⊎_elim (λ (a : length f < 512). then-small f ds h r (sym (change-look f ds (λ b v. omega arith)) ∙ e))
    (λ (a : 512 ≤ length f).
    ⊎_elim (λ (v : version_of f ≡ 0). subst (λ (x : Refusal). value_of x ≤ 4096) (fires-same _ OldForm r (change-old f ds a v) e) (omega arith))
    (λ (n : version_of f ≢ 0). then-small f ds h r (sym (change-look f ds (λ b v. n v)) ∙ e)) (same_or (version_of f) 0))
    (lt-or-ge (length f) 512)

-- what holds of every refusal that fires, and of the answer where none does, holds of the judgement
judged : {A : Type 0} (P : A → Type 0) (refuse : Refusal → A) (cs : List (Check Refusal)) (a : A) → ((r : Refusal) → fired cs ≡ fires r → P (refuse r))
    → P a → P (judge refuse cs a)
judged {A} P refuse cs a h k = go (fired cs) refl
  where
    go : (x : Fired Refusal) → fired cs ≡ x → P (answer refuse a x)
    go clear e = k
    go (fires r) e = h r e

-- ---- each call

abbrev list_tail : List ℕ → List ℕ → List (Check Refusal)
list_tail f out = check (ltb (length out) (3 * length (list_of f))) TooSmall ∷ []

reason-small : (s : List ℕ) (saving : Bool) → reason_of (ruled_of s saving) ≤ 6
reason-small s saving = subst (λ (n : ℕ). n ≤ 6) (sym (reason-least s saving)) (least-le _ 6)

ruled-small : (k : ℕ → ℕ → Span) → ((a b : ℕ) → SpanSmall (k a b)) → (x : Ruled) → reason_of x ≤ 6 → SpanSmall (of_ruled k x)
ruled-small k h (Ok (a, b)) e = h a b
ruled-small k h (Err n) e = omega arith

pub list-small : (f out : List ℕ) → ListedSmall (listed_of f out)
unfolding listed_of
list-small f out = judged ListedSmall Err (list_checks f out) _ (then-small f (list_tail f out) (omega arith, tt)) tt

pub find-small : (f out : List ℕ) → ListedSmall (report_of f out)
unfolding report_of
find-small f out = judged ListedSmall Err (find_checks f out) _ (small-fires (find_checks f out) (omega arith, (omega arith, (omega arith, (omega arith, (omega arith, tt)))))) tt

pub gaps-small : (f : List ℕ) → AskedSmall (gaps_of f)
unfolding gaps_of open_of
gaps-small f = judged AskedSmall Err (open_checks f) _ (λ r e. open-small f r (judge-fires Err (open_checks f) _ r e)) tt

pub show-small : (f : List ℕ) (s : ℕ) → SpanSmall (show_of f s)
unfolding show_of
show-small f s = judged SpanSmall Err (slot_checks f s) _ (then-small f (held_checks f s) (omega arith, (omega arith, tt))) tt

read-in : (from : ℕ) (x : Ruled) → reason_of x ≤ 6 → SpanSmall (read_in from x)
read-in from (Ok (a, b)) e = tt
read-in from (Err n) e = omega arith

pub read_small : (f : List ℕ) (s : ℕ) → SpanSmall (read_of f s)
unfolding read_of
read_small f s =
    judged SpanSmall Err (read_checks f s) _ (then-small f (held_checks f s ++ (other_scan f s ∷ [])) (omega arith, (omega arith, (omega arith, tt)))) (read-in (start_of (sizes_of f) (run_of f (sizes_of f) s).first) (ruled_of (shown_of f (sizes_of f) s) false) (reason-small (shown_of f (sizes_of f) s) false))

in_small : (starts : List ℤ) (n head number : ℕ) → SpanSmall (class_in starts n head number)
unfolding class_in
in_small starts n head number = go (all (leb 1 number ∷ leb number n ∷ []))
  where
    go : (t : Bool) → SpanSmall (cond t (Ok (class_at starts (number - 1), class_end starts n head number)) (Ok (0, 0)))
    go true = tt
    go false = tt

pub class-small : (s : List ℕ) (number : ℕ) → SpanSmall (class_of s number)
unfolding class_of
class-small s number = ruled-small _ (λ a b. in_small (starts_of s) (classes_of s) a number) (ruled_of s false) (reason-small s false)

pub data-small : (s : List ℕ) → SpanSmall (data_of s)
unfolding data_of
data-small s = ruled-small _ (λ a b. tt) (ruled_of s false) (reason-small s false)

pub found-small : (f : List ℕ) (s : ℕ) → TakenSmall (taken_in (found_of f s))
unfolding found_of
found-small f s = judged (λ (x : Found). TakenSmall (taken_in x)) _ (slot_checks f s) _ (then-small f (held_checks f s) (omega arith, (omega arith, tt))) tt

pub blank-small : (f : List ℕ) (n l m : ℕ) → TakenSmall (blank_of f n l m)
unfolding blank_of
blank-small f n l m = judged TakenSmall Err (blank_checks f (blank_sizes n l m)) (Ok tt) (small-fires (blank_checks f (blank_sizes n l m)) (omega arith, tt)) tt

scan-small : (f scan : List ℕ) → AllSmall (scan_checks f scan)
scan-small f scan = (omega (arith, reason-small scan true), (omega arith, tt))

pub save-small : (f : List ℕ) (slot : ℕ) (scan about : List ℕ) → TakenSmall (taken_in (save_of f slot scan about))
unfolding save_of
save-small f slot scan about = judged (λ (x : Begun). TakenSmall (taken_in x)) Err (change_checks f ++ (no_slot (sizes_of f) slot ∷ scan_checks f scan)) _ (change-small f (no_slot (sizes_of f) slot ∷ scan_checks f scan) (omega arith, scan-small f scan)) tt

pub keep-small : (f scan about : List ℕ) → TakenSmall (taken_in (keep_of f scan about))
unfolding keep_of
keep-small f scan about = judged (λ (x : Begun). TakenSmall (taken_in x)) Err (change_checks f ++ (check (eqb (keep_slot f) 0) NoEmptySlot ∷ scan_checks f scan)) _ (change-small f (check (eqb (keep_slot f) 0) NoEmptySlot ∷ scan_checks f scan) (omega arith, scan-small f scan)) tt

pub clear-small : (f : List ℕ) (slot : ℕ) → TakenSmall (taken_in (clear_of f slot))
unfolding clear_of
clear-small f slot = judged (λ (x : Begun). TakenSmall (taken_in x)) Err (change_checks f ++ held_checks f slot) _ (change-small f (held_checks f slot) (omega arith, (omega arith, tt))) tt

pub convert-small : (v : ℕ) (f out : List ℕ) → TakenSmall (convert_of v f out)
unfolding convert_of
convert-small v f out =
    judged TakenSmall Err (convert_checks v f out) _
    (then-small f (too-small out (sizes_of f) ∷ form_checks v f (sizes_of f)) (omega arith, (omega arith, (omega arith, (omega arith, (omega arith, (omega arith, (omega arith, tt))))))))
    tt

either_way : (P : StepAnswer → Type 0) (t : Bool) (a b : StepAnswer) → P a → P b → P (cond t a b)
either_way P true a b x y = x
either_way P false a b x y = y

confirm-small : (f scan : List ℕ) (j : Job) (v : Opened) → open_of f ≡ v → StepSmall (confirm_of f scan j v)
confirm-small f scan j (Ok z) e =
    either_way StepSmall (stands f scan j z) (confirmed j) (Err Differs) (either_way StepSmall j.saves _ _ tt tt) (omega arith)
confirm-small f scan j (Err r) e = open-small f r e

pub step_small : (f scan : List ℕ) (j : Job) → StepSmall (step_answer f scan j)
unfolding step_answer
step_small f scan j =
    either_way StepSmall (agrees f scan j) _ (Err Disagrees)
    (either_way StepSmall (has_left (sizes_of f) j) (wrote_of f (sizes_of f) scan j) (confirm_of f scan j (open_of f)) tt (confirm-small f scan j (open_of f) refl))
    (omega arith)

-- ---- the link

lent-small : (row : List ℕ) (k : Link) → TakenSmall (taken_in (judge Err (row_short row ∷ []) (Ok k)))
lent-small row k = judged (λ (x : Linked). TakenSmall (taken_in x)) Err (row_short row ∷ []) (Ok k) (small-fires (row_short row ∷ []) (omega arith, tt)) tt

pub begin-small : (len : ℕ) (row : List ℕ) → TakenSmall (taken_in (begin_of len row))
unfolding begin_of
begin-small len row = lent-small row (fresh_link len)

pub take-small : (k : Link) (p row : List ℕ) → TakenSmall (taken_in (take_of k p row))
unfolding take_of
take-small k p row = lent-small row (took_link k p)

-- sizes outside their ranges open nothing
stopped : (a b c d : Bool) (cs : List (Check Refusal)) (x : Opened)
    → OpenedSmall (judge Err (check a TooSmall ∷ check b TooShort ∷ check c NotAllCame ∷ check d UnknownForm ∷ check true OutOfRange ∷ cs) x)
stopped true b c d cs x = omega arith
stopped false true c d cs x = omega arith
stopped false false true d cs x = omega arith
stopped false false false true cs x = omega arith
stopped false false false false cs x = omega arith

pub finish-fits : (k : Link) (row : List ℕ) → OpenedSmall (finish_of k row)
unfolding finish_of
finish-fits k row = go (in_range z) refl
  where
    z : Sizes
    z = sizes_of k.boot

    checks : Bool → List (Check Refusal)
    checks t =
        row_short row ∷ short k.span ∷ fewer k 32 ∷ check (ltb 1 z.version) UnknownForm ∷ check (not t) OutOfRange
        ∷ check (ltb k.span (bytes_of z)) PastEnd ∷ came_checks k z (row_run row)

    go : (t : Bool) → in_range z ≡ t → OpenedSmall (judge Err (checks t) (Ok z))
    go true e =
        let R = range-facts z e in
        judged OpenedSmall Err (checks true) (Ok z)
        (small-fires (checks true) (omega arith, (omega arith, (omega arith, (omega arith, (omega arith, (omega arith, (omega arith, index-small z R (row_run row)))))))))
        R.shape
    go false e = stopped (ltb (length row) 8192) (ltb k.span 512) (ltb k.came 32) (ltb 1 z.version) (check (ltb k.span (bytes_of z)) PastEnd ∷ came_checks k z (row_run row)) (Ok z)
