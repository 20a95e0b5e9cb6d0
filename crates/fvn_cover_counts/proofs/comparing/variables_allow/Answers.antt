-- one more row
use Rattle.std.proofs.Common.{refl, subst}
use Rattle.std.specs.Prelude.{All, IsTrue}
use Rattle.std.proofs.lemmas.List.{take_all}
use Rattle.fvn_cover_counts.specs.inner.Comparing.{allows_variable}
use Rattle.fvn_cover_counts.proofs.Refusals.{more_hold}
use Rattle.fvn_cover_counts.proofs.comparing.variables_allow.Goals as goal

pub loop-other-preserved : goal.loop-other-preserved
loop-other-preserved c =
    let one : IsTrue (allows_variable c.args.rows.now c.other-item.result) = rw c.allows_variable.ensures at c.if-not-allows_variable.false in
    more_hold (λ o. IsTrue (allows_variable c.args.rows.now o)) c.args.others.now c.loop-other.other-index c.other-item.result c.loop-other-test.true c.other-item.is c.loop-other.invariant one

pub returns : goal.returns
returns c = (λ t. subst (All (λ o. IsTrue (allows_variable c.args.rows.now o))) (take_all c.loop-other.other-index c.args.others.now c.loop-other-test.false) c.loop-other.invariant, λ h. refl)
