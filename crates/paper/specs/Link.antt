-- 02, 2026-07: "Opening over the slow link". What link and row are after each call, whatever they were before it, and what finish says of them.
use Rattle.std.specs.Prelude.{ℕ, ◌+◌, ◌-◌, ◌*◌, ◌/◌, ◌%◌, min, cond, List, [], ◌∷◌, ◌++◌, ltb, eqb, length, take, drop, get_or, replicate, Ok, Err}
use Rattle.std.specs.Result.{result_unwrap_or}
use Rattle.lent.specs.Number.{widened}
use Rattle.lent.specs.Lists.{table}
use Rattle.lent.specs.Checks.{Check, check, judge}
use Rattle.lent.specs.Part.{part}
use Rattle.lent.specs.Write.{write}
use Rattle.paper.specs.declared.sizes.Sizes.{Sizes}
use Rattle.paper.specs.declared.sizes.Run.{Run}
use Rattle.paper.specs.declared.refusal.Refusal.{Refusal}
use Rattle.paper.specs.declared.refusal.Refusal.TheVariants.{TooSmall, NotAllCame}
use Rattle.paper.specs.Answers.{Opened, Linked}
use Rattle.paper.specs.declared.link.Link.{Link}
use Rattle.paper.specs.Sizes.{sizes_of, by_form, capacity_of, home_of, shaped, short, size_checks}
use Rattle.paper.specs.Index.{row_run, index_checks}

-- ---- the link

-- "Give the length first": nothing has come
abbrev pub fresh_link : ℕ → Link
fresh_link len = record { span = len; came = 0; ends = 0; boot = replicate 32 0 }

-- how many bytes of a piece are the bootstrap's first 32; none where the length is refused already
unfoldable pub head_of : Link → List ℕ → ℕ
head_of k p = cond (ltb k.span 512) 0 (min (32 - k.came) (length p))

abbrev pub boot_after : Link → List ℕ → List ℕ
boot_after k p = write k.boot k.came (take (head_of k p) p)

-- where the index ends: after N x L bytes; "where the bootstrap breaks a rule", over the length given, at 0, so that no byte counts
unfoldable pub index_end : ℕ → Sizes → ℕ
index_end len z = judge (λ r. 0) (size_checks len z) (z.n * z.l)

-- known as soon as 32 bytes came
abbrev pub end_after : ℕ → ℕ → List ℕ → ℕ
end_after len came boot = cond (ltb came 32) 0 (index_end len (sizes_of boot))

-- the link after the bootstrap's bytes of a piece; as it was where there are none
abbrev pub headed : Link → List ℕ → Link
headed k p =
    record {
      span = k.span;
      came = k.came + head_of k p;
      ends = cond (eqb (head_of k p) 0) k.ends (end_after k.span (k.came + head_of k p) (boot_after k p));
      boot = boot_after k p;
    }

-- the bytes of the piece that follow them and count: "bytes past N x L are passed over"
abbrev pub body_of : Link → List ℕ → List ℕ
body_of k p = take ((headed k p).ends - (headed k p).came) (drop (head_of k p) p)

-- the link after a piece
unfoldable pub took_link : Link → List ℕ → Link
took_link k p = record { span = k.span; came = (headed k p).came + length (body_of k p); ends = (headed k p).ends; boot = boot_after k p }

-- ---- the row

-- one byte more of a number: 32 bits stay; in the old form 16, and it is "the 32-bit number of the same value"
unfoldable pub more_of : ℕ → ℕ → ℕ → ℕ
more_of v x b = by_form v (widened ((x * 256 + b) % 65536)) ((x * 256 + b) % 4294967296)

-- bytes of a number, one after the other
unfoldable pub shifted : ℕ → ℕ → List ℕ → ℕ
shifted v x [] = x
shifted v x (b ∷ bs) = shifted v (more_of v x b) bs

-- how many bytes a number has
abbrev pub width_of : ℕ → ℕ
width_of v = by_form v 2 4

-- "first and last of slot s at 2(s-1) and 2(s-1)+1": the byte of the file at which the number of element e begins
abbrev pub number_at : Sizes → ℕ → ℕ
number_at z e = home_of z (e / 2 + 1) + width_of z.version * (e % 2)

-- element e after bytes that stand in the file from byte `at` on: those of them that are its number's are shifted in
unfoldable pub element_after : Sizes → ℕ → List ℕ → List ℕ → ℕ → ℕ
element_after z at bytes row e =
    shifted z.version (get_or row e 0) (part (number_at z e - at) (number_at z e + width_of z.version - at) bytes)

-- how many elements the index has, two a slot; none where N, L or M is outside its range
unfoldable pub elements_of : Sizes → ℕ
elements_of z = cond (shaped z) (2 * capacity_of z) 0

-- the row after such bytes: "elements past 8,192 are not touched", nor those past the index's
unfoldable pub row_after : Sizes → ℕ → List ℕ → List ℕ → List ℕ
row_after z at bytes row = table (elements_of z) (element_after z at bytes row) ++ drop (elements_of z) row

-- the row after a piece
unfoldable pub took_row : Link → List ℕ → List ℕ → List ℕ
took_row k p row = row_after (sizes_of (boot_after k p)) (headed k p).came (body_of k p) row

-- ---- the calls

-- "17 at any call lent a shorter row"
abbrev pub row_short : List ℕ → Check Refusal
row_short row = check (ltb (length row) 8192) TooSmall

-- begin. The row stays as it is.
unfoldable pub begin_of : ℕ → List ℕ → Linked
begin_of len row = judge Err (row_short row ∷ []) (Ok (fresh_link len))

-- take
unfoldable pub take_of : Link → List ℕ → List ℕ → Linked
take_of k p row = judge Err (row_short row ∷ []) (Ok (took_link k p))

-- the link that is handed back, k where the call is refused: begin "hands back a link of zeros (a judging of length 0)", take "the link as it was"
abbrev pub link_in : Link → Linked → Link
link_in k l = result_unwrap_or l k

unfoldable pub take_row : Link → List ℕ → List ℕ → List ℕ
take_row k p row = judge (λ r. row) (row_short row ∷ []) (took_row k p row)

-- 20: "fewer than .. came"
abbrev pub fewer : Link → ℕ → Check Refusal
fewer k n = check (ltb k.came n) NotAllCame

-- what is asked of the index: that it came, and then open's own 6 to 8 over the runs in the row
abbrev pub came_checks : Link → Sizes → (ℕ → Run) → List (Check Refusal)
came_checks k z run = fewer k (z.n * z.l) ∷ index_checks z run

-- finish: "17; length < 512: 1; fewer than 32 bytes came: 20; the bootstrap's own (3, 4, 5, over the given length); fewer than N x L came: 20; then 6 to 8"
abbrev pub finish_checks : Link → List ℕ → List (Check Refusal)
finish_checks k row =
    row_short row ∷ short k.span ∷ fewer k 32 ∷ (size_checks k.span (sizes_of k.boot) ++ came_checks k (sizes_of k.boot) (row_run row))

unfoldable pub finish_of : Link → List ℕ → Opened
finish_of k row = judge Err (finish_checks k row) (Ok (sizes_of k.boot))
