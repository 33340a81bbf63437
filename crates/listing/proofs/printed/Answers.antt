-- `listing::printed`: the list of a file of at most 65,536 bytes, and of a longer input that it is too long.
use Rattle.std.proofs.Common.{arith}
use Rattle.listing.proofs.Printing.{prints-list, prints-long}
use Rattle.listing.proofs.printed.Goals as goal

pub returns-then-file-le65536-clause-size : goal.returns-then-file-le65536-clause-size
returns-then-file-le65536-clause-size c = (prints-list _ _ (omega arith) c.text.ensures.size c.text.ensures.bytes).0

pub returns-then-file-le65536-clause-bytes : goal.returns-then-file-le65536-clause-bytes
returns-then-file-le65536-clause-bytes c = (prints-list _ _ (omega arith) c.text.ensures.size c.text.ensures.bytes).1

pub returns-clause-size : goal.returns-clause-size
returns-clause-size c = (prints-long _ c.args.out.now (omega arith) c.copy_to.ensures).0

pub returns-clause-bytes : goal.returns-clause-bytes
returns-clause-bytes c = (prints-long _ c.args.out.now (omega arith) c.copy_to.ensures).1
