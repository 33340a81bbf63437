use Rattle.link.proofs.Pieces.{says, taken-short, taken-full, taken-long}
use native.Mathlib.Omega.{arith}
use Rattle.link.proofs.take.Goals as goal

pub returns-then-row-lt8192 : goal.returns-then-row-lt8192
returns-then-row-lt8192 c =
    let t = taken-short c.args.link c.args.piece.now c.args.row.now (omega arith) in
    let both = says c.args.link t.0 in record { answer = both.0; link = both.1; row = t.1 }

pub returns-then-full : goal.returns-then-full
returns-then-full c =
    let f = c.full.ensures c.if-full.true in
    let t = taken-full c.args.link c.args.piece.now c.args.row.now (omega arith) f.0 f.1 in
    let both = says c.args.link t.0 in record { answer = both.0; link = both.1; row = t.1 }

pub returns : goal.returns
returns c =
    let b = c.took.ensures in
    let t = taken-long c.args.link c.args.piece.now c.args.row.now (omega arith) _ _ b.value b.row_after in
    let both = says c.args.link t.0 in record { answer = both.0; link = both.1; row = t.1 }
