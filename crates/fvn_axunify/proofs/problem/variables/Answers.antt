-- They are those of the problem.
use Rattle.std.proofs.Common.{sym, ap, ◌∙◌, subst, []}
use Rattle.fvn_axunify.specs.inner.Asked.{with_pairs, AreVariablesOf}
use Rattle.fvn_axunify.proofs.Pairs.{variables_exact}
use Rattle.fvn_axunify.proofs.problem.variables.Goals as goal

pub returns : goal.returns
returns c = subst (AreVariablesOf c.args.problem.now) (sym (c.in_ok-vars.ensures ∙ ap (λ l. with_pairs l []) c.as_slice.ensures)) (variables_exact c.args.problem.now.pairs)
