-- `listing::put::number`: one digit, or the number without its last digit and then that.
use Rattle.std.proofs.Common.{arith}
use Rattle.listing.proofs.Putting.{put_byte, put-more}
use Rattle.listing.proofs.Decimals.{small, more, one, many}
use Rattle.listing.proofs.put.+number.Goals as goal

pub bounds-out-at : goal.bounds-out-at
bounds-out-at t c = omega (arith, one c.args.n c.if-n-lt10.true)

pub returns-then-n-lt10 : goal.returns-then-n-lt10
returns-then-n-lt10 t c = rw (small c.args.n c.if-n-lt10.true) (put_byte _ _ _ (omega (arith, one c.args.n c.if-n-lt10.true)))

pub number-k-requires : goal.number-k-requires
number-k-requires t c = (omega arith, omega (arith, many c.args.n c.if-n-lt10.false c.ranges.n.fits))

pub bounds-out-k : goal.bounds-out-k
bounds-out-k t c =
    omega (arith, many c.args.n c.if-n-lt10.false c.ranges.n.fits, c.number-k.auto.out, c.number-k.ensures.place)

pub overflow_add-result-2 : goal.overflow_add-result-2
overflow_add-result-2 t c =
    omega (arith, many c.args.n c.if-n-lt10.false c.ranges.n.fits, c.number-k.auto.out, c.number-k.ensures.place)

pub returns : goal.returns
returns t c =
    let e = more c.args.n c.if-n-lt10.false c.ranges.n.fits in
    rw e (put-more c.number-k.ensures (rw e at c.requires)
    (put_byte _ _ _ (omega (arith, many c.args.n c.if-n-lt10.false c.ranges.n.fits, c.number-k.auto.out, c.number-k.ensures.place))))
