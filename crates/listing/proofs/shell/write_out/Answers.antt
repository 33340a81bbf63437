-- `listing::shell::write_out`: one more write.
use Rattle.std.proofs.Common.{◌-◌, length, drop, arith}
use Rattle.std.proofs.lemmas.List.{length-take-le, length-drop}
use Rattle.listing.proofs.Writing.{wrote-step}
use Rattle.listing.proofs.shell.write_out.Goals as goal

pub loop-done-preserved : goal.loop-done-preserved
loop-done-preserved g c = record {
  within = omega (arith, c.in_ok-k.ensures.bound, length-take-le (length c.args.bytes.now - c.loop-done.done) (drop c.loop-done.done c.args.bytes.now) (omega (arith, length-drop c.loop-done.done c.args.bytes.now)));
  written = wrote-step _ _ _ _ _ _ c.loop-done.invariant.written c.in_ok-k.ensures.bytes;
}
