-- The variables of one more argument.
use Rattle.std.proofs.Common.{◌≡◌, sym, ap, ◌∙◌, arith}
use Rattle.std.specs.Prelude.{fold}
use Rattle.std.proofs.lemmas.List.{take_all}
use Rattle.fvn_terms.specs.Term.{Terms}
use Rattle.fvn_terms.specs.Plain.{term, terms}
use Rattle.fvn_flat.specs.Problems.{variables, variables_among}
use Rattle.fvn_flat.specs.Variables.{with_variable}
use Rattle.fvn_cohere.proofs.Steps.{variables-step}
use Rattle.fvn_cohere.proofs.Arguments.{nodes_at}
use Rattle.fvn_cohere.proofs.variables.+with_variables.Goals as goal

pub with_variables_among-with_variables-requires : goal.with_variables_among-with_variables-requires
with_variables_among-with_variables-requires t c =
    let whole : terms c.deref-u-items.result.now ≡ c.args.us.now = ap terms c.deref-u-items.ensures.value ∙ c.us.view_is in
    omega (arith, nodes_at c.deref-u-items.result.now c.args.us.now c.loop-u.u-index c.u-item.result whole c.loop-u-test.true c.u-item.is)

pub with_variables_among-loop-u-preserved : goal.with_variables_among-loop-u-preserved
with_variables_among-loop-u-preserved t c =
    c.in_ok-all.ensures
    ∙ ap (λ l. fold with_variable l (variables (term c.u-item.result))) c.loop-u.invariant
    ∙ sym (variables-step c.deref-u-items.result.now c.loop-u.u-index c.u-item.result c.args.vars.items c.loop-u-test.true c.u-item.is)

pub with_variables_among-returns : goal.with_variables_among-returns
with_variables_among-returns t c =
    c.loop-u.invariant
    ∙ ap (λ l. fold with_variable c.args.vars.items (variables_among (terms l))) (take_all c.loop-u.u-index c.deref-u-items.result.now c.loop-u-test.false)
    ∙ ap (λ (ts : Terms). fold with_variable c.args.vars.items (variables_among ts)) (ap terms c.deref-u-items.ensures.value ∙ c.us.view_is)
