-- One more operator, or the first that is refused.
use Rattle.std.proofs.Common.{◌+◌, sym, subst, arith}
use Rattle.std.proofs.lemmas.Result.{err_from_is_err_and}
use Rattle.fvn_combine_candidates.specs.inner.Walking.{IsKeptBasis, AreBasesBelow}
use Rattle.fvn_combine_candidates.proofs.Refused.{fault_at}
use Rattle.fvn_combine_candidates.proofs.Walked.{more_bases, all_kept}
use Rattle.fvn_combine_candidates.proofs.opening.all_bases.Goals as goal

pub returns-in_err-basis-clause-refused : goal.returns-in_err-basis-clause-refused
returns-in_err-basis-clause-refused c =
    let p = err_from_is_err_and c.from_residual.result c.from_residual.ensures.1 in
    rw (p.1, p.2)
    (fault_at c.args.sums.now c.loop-i.i c.loop-i.bases.items c.index-sums-i.result c.loop-i-test.true c.index-sums-i.is c.loop-i.invariant c.in_err-basis.field-0.0 c.in_err-basis.ensures.refused)

pub loop-i-preserved : goal.loop-i-preserved
loop-i-preserved c =
    subst (AreBasesBelow (λ e. IsKeptBasis e.system) c.args.sums.now (c.loop-i.i + 1)) (sym c.in_ok-push.ensures.items)
    (more_bases (λ e. IsKeptBasis e.system) c.args.sums.now c.loop-i.i c.loop-i.bases.items c.index-sums-i.result c.in_ok-basis.basis c.loop-i-test.true c.index-sums-i.is c.loop-i.invariant c.in_ok-basis.ensures.exact)

pub returns-clause-exact : goal.returns-clause-exact
returns-clause-exact c = all_kept c.args.sums.now c.loop-i.i c.loop-i.bases.items (omega arith) (omega arith) c.loop-i.invariant
