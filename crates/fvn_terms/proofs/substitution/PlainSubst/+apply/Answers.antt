-- The steps of `apply` that the check leaves open.
use Rattle.fvn_terms.specs.Substitution.{value}
use Rattle.fvn_terms.proofs.Plains.{apply_all-take_more}
use Rattle.fvn_terms.proofs.substitution.PlainSubst.+apply.Goals as goal

pub apply_all-loop-u-preserved : goal.apply_all-loop-u-preserved
apply_all-loop-u-preserved t c =
    rw c.in_ok-push.ensures.items
    (
    apply_all-take_more (value c.args.self.now.pairs) c.deref-u-items.result.now c.loop-u.u-index c.u-item.result c.loop-u.items.items c.in_ok-apply.field-0
    c.loop-u-test.true c.u-item.is c.loop-u.invariant c.in_ok-apply.ensures
    )
