use Rattle.look.proofs.Putting.{put-begins, next-room, next-put}
use Rattle.look.specs.Rows.{row_of}
use Rattle.paper.specs.Index.{row_run}
use Prim.Native.Nat.{◌-◌, ◌*◌, ◌+◌}
use native.Mathlib.Omega.{arith}
use Rattle.look.proofs.rows.fill.Goals as goal

pub loop-i-init : goal.loop-i-init
loop-i-init c = let a = c.args in put-begins row_of (row_run a.row.now) a.out.now 0 a.u (omega arith)

pub put_row-at-requires : goal.put_row-at-requires
unfolding row_run
put_row-at-requires c =
    let a = c.args in
    record {
      narrow = rw c.run_in-a.ensures (record {
        slot = omega arith;
        first = omega (arith, c.shared_slice_known-1.given (2 * (c.loop-i.i + 1 - 1)));
        last = omega (arith, c.shared_slice_known-1.given (2 * (c.loop-i.i + 1 - 1) + 1));
      });
      a_in_bounds = next-room row_of (row_run a.row.now) a.out.now 0 a.u (omega arith) _ c.loop-i.invariant (omega arith) c.run_in-a.ensures;
    }

pub loop-i-preserved : goal.loop-i-preserved
loop-i-preserved c = let a = c.args in next-put row_of (row_run a.row.now) a.out.now 0 a.u (omega arith) _ c.loop-i.invariant (omega arith) c.run_in-a.ensures c.put_row-at.ensures
