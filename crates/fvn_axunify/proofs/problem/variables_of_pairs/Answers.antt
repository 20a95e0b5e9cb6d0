-- The variables of one more pair.
use Rattle.std.proofs.Common.{[], sym, ap, ◌∙◌}
use Rattle.std.proofs.lemmas.List.{take_all}
use Rattle.fvn_flat.specs.Variables.{with_variables}
use Rattle.fvn_axunify.specs.inner.Asked.{with_pairs}
use Rattle.fvn_axunify.proofs.Pairs.{with_pairs-step}
use Rattle.fvn_axunify.proofs.problem.variables_of_pairs.Goals as goal

pub loop-left-preserved : goal.loop-left-preserved
loop-left-preserved c =
    c.in_ok-vars-2.ensures
    ∙ ap (with_variables c.loop-left-item.result.1) (c.in_ok-vars.ensures ∙ ap (with_variables c.loop-left-item.result.0) c.loop-left.invariant)
    ∙ sym (with_pairs-step c.args.pairs.now c.loop-left.left-index c.loop-left-item.result [] c.loop-left-test.true c.loop-left-item.is)

pub returns : goal.returns
returns c = c.loop-left.invariant ∙ ap (λ l. with_pairs l []) (take_all c.loop-left.left-index c.args.pairs.now c.loop-left-test.false)
