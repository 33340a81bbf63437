use lib.ListN.{length-set}
use Rattle.find.proofs.Walking.{record-in, word-is, put-none, put-room, put_some}
use native.Mathlib.Omega.{arith}
use Rattle.find.proofs.walk.put.Goals as goal

pub returns-in_default : goal.returns-in_default
returns-in_default c = let both = put-none c.args.file.bytes.now c.args.file.z c.args.r c.args.out.now c.args.at c.in_default.is in record { value = both.0; out_after = both.1 }

pub bounds-out-at : goal.bounds-out-at
bounds-out-at c = omega (arith, put-room c.args.file.bytes.now c.args.file.z c.args.r c.in-Some.is, c.requires.k_in_bounds)

pub bounds-out-at-2 : goal.bounds-out-at-2
bounds-out-at-2 c = simp length-set (omega (arith, put-room c.args.file.bytes.now c.args.file.z c.args.r c.in-Some.is, c.requires.k_in_bounds))

pub load64-requires : goal.load64-requires
load64-requires c = let B = c.args.file.booted in let p = c.requires.r_bound in omega (arith, record-in B _ p.0 p.1, B.held, B.ranged.shape.l_low)

pub bounds-out-at-3 : goal.bounds-out-at-3
bounds-out-at-3 c = simp length-set (omega (arith, put-room c.args.file.bytes.now c.args.file.z c.args.r c.in-Some.is, c.requires.k_in_bounds))

pub returns : goal.returns
returns c =
    let B = c.args.file.booted in
    let p = c.requires.r_bound in
    let e = put-room c.args.file.bytes.now c.args.file.z c.args.r c.in-Some.is in
    record {
      value = omega (arith, e);
      out_after = put_some c.args.file.bytes.now c.args.file.z c.args.r c.in-Some.is c.args.out.now c.args.at _ (omega (arith, e, c.requires.k_in_bounds)) (word-is B _ p.0 p.1 c.load64.ensures);
    }
