-- the variables of one more argument
use Rattle.std.proofs.Common.{sym, ◌∙◌, subst, arith}
use Rattle.std.proofs.lemmas.List.{take_all}
use Rattle.fvn_terms.specs.Substitution.{Occurs}
use Rattle.fvn_forms.specs.Flat.{plain}
use Rattle.fvn_flat.proofs.Occurrences.{OccursIn}
use Rattle.fvn_flat.proofs.Smaller.{argument_is_smaller}
use Rattle.fvn_match.specs.inner.Variables.{Collects}
use Rattle.fvn_match.proofs.VariableSteps.{collects_none, collects_term, collects_args}
use Rattle.fvn_match.proofs.PairSteps.{variable_is}
use Rattle.fvn_match.proofs.variables.+with_variables.Goals as goal

pub with_variables-requires : goal.with_variables-requires
with_variables-requires t c = (omega (arith, argument_is_smaller c.args.t.now c.args-u-items.result.now c.loop-u.u-index c.u-item.result c.args-u-items.ensures.exact c.loop-u-test.true c.u-item.is), c.loop-u.invariant.once)

pub loop-u-init : goal.loop-u-init
loop-u-init t c = collects_none c.args.vars.items c.requires

pub loop-u-preserved : goal.loop-u-preserved
loop-u-preserved t c =
    collects_term c.args.vars.items c.loop-u.all.items _ c.args-u-items.result.now c.loop-u.u-index c.u-item.result c.loop-u-test.true c.u-item.is c.loop-u.invariant c.in_ok-all-in-None.ensures

pub returns-in_ok-all-in-Some : goal.returns-in_ok-all-in-Some
returns-in_ok-all-in-Some t c =
    subst (λ u. Collects c.args.vars.items (λ y. Occurs y (plain u)) c.in_ok-all-in-Some.all.items) (sym (variable_is c.args.t.now c.in-Some.x (sym c.as_var.ensures ∙ c.in-Some.is))) c.in_ok-all-in-Some.ensures

pub returns-after-loop-u : goal.returns-after-loop-u
returns-after-loop-u t c =
    collects_args c.args.vars.items c.loop-u.all.items c.args.t.now c.args-u-items.result.now (sym c.as_var.ensures ∙ c.in-None.is) c.args-u-items.ensures.exact
    (subst (λ l. Collects c.args.vars.items (λ y. OccursIn y l) c.loop-u.all.items) (take_all c.loop-u.u-index c.args-u-items.result.now c.loop-u-test.false) c.loop-u.invariant)
