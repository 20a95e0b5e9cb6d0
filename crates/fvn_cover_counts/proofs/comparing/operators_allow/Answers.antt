-- one more row
use Rattle.std.proofs.Common.{refl, subst}
use Rattle.std.specs.Prelude.{All}
use Rattle.std.proofs.lemmas.List.{take_all}
use Rattle.fvn_cover_counts.specs.inner.Comparing.{AllowsOperator}
use Rattle.fvn_cover_counts.proofs.Refusals.{more_hold}
use Rattle.fvn_cover_counts.proofs.comparing.operators_allow.Goals as goal

pub loop-row-preserved : goal.loop-row-preserved
loop-row-preserved c =
    let one = c.allows_operator.ensures.0 c.if-not-allows_operator.false in
    more_hold (AllowsOperator c.args.sig.now c.args.others.now) c.args.rows.now c.loop-row.row-index c.row-item.result c.loop-row-test.true c.row-item.is c.loop-row.invariant one

pub returns : goal.returns
returns c = (λ t. subst (All (AllowsOperator c.args.sig.now c.args.others.now)) (take_all c.loop-row.row-index c.args.rows.now c.loop-row-test.false) c.loop-row.invariant, λ h. refl)
