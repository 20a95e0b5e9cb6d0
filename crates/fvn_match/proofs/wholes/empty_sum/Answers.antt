-- the identity takes nothing, and is the sum of nothing
use Rattle.std.proofs.Common.{sym, ap, ◌∙◌, subst}
use Rattle.fvn_forms.specs.Canon.{build}
use Rattle.fvn_flat.specs.Fits.{Takes}
use Rattle.fvn_match.proofs.SumFitting.{takes_nothing}
use Rattle.fvn_match.proofs.WholeSteps.{identity_is_sum}
use Rattle.fvn_match.proofs.wholes.empty_sum.Goals as goal

pub app-requires-clause-takes : goal.app-requires-clause-takes
app-requires-clause-takes c =
    subst (Takes c.args.sig.now c.in-Some.e) (sym c.new.ensures.items) (takes_nothing c.args.sig.now c.recall_good.ensures.fits c.args.goal.now.op c.requires.associative c.requires.rank c.requires.listed c.in-Some.e (sym c.in-Some.ensures))

pub returns-in-None : goal.returns-in-None
returns-in-None c = sym c.in-None.ensures

pub returns-in_ok-t-in-Some : goal.returns-in_ok-t-in-Some
returns-in_ok-t-in-Some c = identity_is_sum c.args.sig.now c.args.goal.now.op c.in-Some.e c.in_ok-t-in-Some.t (sym c.in-Some.ensures) (c.in_ok-t-in-Some.ensures.exact ∙ ap (build c.args.sig.now c.in-Some.e) c.new.ensures.items)
