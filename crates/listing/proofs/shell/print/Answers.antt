-- `listing::shell::print`: what was read and what is printed lie within the memory that they were put into, and what is written is that.
use Rattle.std.proofs.Common.{◌≡◌, length, sym, arith}
use Rattle.std.proofs.lemmas.List.{length-take-le}
use Rattle.listing.proofs.Texts.{text-within}
use Rattle.listing.proofs.Writing.{all-printed, part-printed}
use Rattle.listing.proofs.shell.print.Goals as goal

pub slice_bounds-text-end : goal.slice_bounds-text-end
slice_bounds-text-end g c = text-within _ _ _ _ c.printed-k.ensures.size c.printed-k.ensures.bytes

pub slice_bounds-write_out-end : goal.slice_bounds-write_out-end
slice_bounds-write_out-end g c = sym (length-take-le _ _ (text-within _ _ _ _ c.printed-k.ensures.size c.printed-k.ensures.bytes))

pub returns-in_err-write_out-clause-part : goal.returns-in_err-write_out-clause-part
returns-in_err-write_out-clause-part g c =
    let long : length c.fill-got.new.room ≡ 65537 = omega (arith, c.fill-got.auto.room) in
    part-printed _ _ _ _ _ _ _ _ _ long c.in-Some.ensures.bytes c.printed-k.ensures.size c.printed-k.ensures.bytes c.in_err-write_out.ensures.part

pub returns-clause-all : goal.returns-clause-all
returns-clause-all g c = λ _.
    let long : length c.fill-got.new.room ≡ 65537 = omega (arith, c.fill-got.auto.room) in
    all-printed _ _ _ _ _ _ _ _ long c.in-Some.ensures.bytes c.printed-k.ensures.size c.printed-k.ensures.bytes c.in_ok-write_out.ensures.all
