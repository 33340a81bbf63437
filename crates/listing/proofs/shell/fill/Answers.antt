-- `listing::shell::fill`: one more read.
use Rattle.std.proofs.Common.{arith}
use Rattle.listing.proofs.Reading.{took-step}
use Rattle.listing.proofs.shell.fill.Goals as goal

pub loop-n-preserved : goal.loop-n-preserved
loop-n-preserved g c = record {
  within = omega (arith, c.in_ok-k.ensures.within);
  taken = took-step _ _ _ _ _ _ _ _ c.loop-n.invariant.taken c.in_ok-k.ensures.bytes.0 (omega arith) c.in_ok-k.ensures.within;
}
