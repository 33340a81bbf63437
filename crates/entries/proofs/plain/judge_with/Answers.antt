use Rattle.entries.proofs.Judging.{judge-bad, judge-above, judge-shared, judge-opens}
use Rattle.entries.proofs.Rows.{bad-row, shared-row}
use Rattle.entries.proofs.plain.judge_with.Goals as goal

pub returns-in-Some : goal.returns-in-Some
returns-in-Some g c = record { is = λ run e a. judge-bad _ _ (bad-row _ _ _ e c.lowest_bad.ensures) _ c.in-Some.is }

pub returns-in-Some-above : goal.returns-in-Some-above
returns-in-Some-above g c = record { is = λ run e a. judge-above _ _ (bad-row _ _ _ e c.lowest_bad.ensures) c.in_default.is (a _ c.above.ensures) _ c.in-Some-above.is }

pub returns-in-Some-lowest_shared : goal.returns-in-Some-lowest_shared
returns-in-Some-lowest_shared g c = record { is = λ run e a. judge-shared _ _ (bad-row _ _ _ e c.lowest_bad.ensures) c.in_default.is (a _ c.above.ensures) c.in_default-above.is (shared-row c.args.z _ _ e c.lowest_shared.ensures) _ c.in-Some-lowest_shared.is }

pub returns : goal.returns
returns g c = record { is = λ run e a. judge-opens _ _ (bad-row _ _ _ e c.lowest_bad.ensures) c.in_default.is (a _ c.above.ensures) c.in_default-above.is (shared-row c.args.z _ _ e c.lowest_shared.ensures) c.in_default-lowest_shared.is }
