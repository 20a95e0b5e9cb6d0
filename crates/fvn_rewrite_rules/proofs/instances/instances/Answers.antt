-- The instances over one variable more.
use Rattle.std.proofs.Common.{List, ◌∙◌, subst}
use Rattle.std.proofs.lemmas.List.{take_all}
use Rattle.fvn_terms.specs.declared.plain.Var.{Var}
use Rattle.fvn_theory.specs.Equations.{sides_of}
use Rattle.fvn_rewrite_rules.specs.inner.Making.{AreInstancesOver}
use Rattle.fvn_rewrite_rules.proofs.Choosing.{over_kinded, variable_step, all_choices}
use Rattle.fvn_rewrite_rules.proofs.instances.instances.Goals as goal

pub with_choices-requires-clause-rules : goal.with_choices-requires-clause-rules
with_choices-requires-clause-rules c =
    over_kinded c.args.sig.now c.recall_good.ensures c.recall_completed.ensures c.args.number (sides_of c.args.e.now) c.requires.kinds _ c.loop-x.all.items c.loop-x.invariant

pub loop-x-preserved : goal.loop-x-preserved
loop-x-preserved c =
    variable_step c.args.sig.now c.recall_good.ensures c.recall_completed.ensures c.args.number (sides_of c.args.e.now) c.requires.kinds c.as_slice-x-items.result.now
    (c.as_slice-x-items.ensures.value ∙ c.in_ok-vars.ensures) c.loop-x.x-index _ c.loop-x-test.true c.loop-x.all.items c.in_ok-all-2.all.items c.in_ok-all-2.ensures c.loop-x.invariant

pub returns : goal.returns
returns c =
    let vars : List Var = c.as_slice-x-items.result.now in
    let whole = take_all c.loop-x.x-index vars c.loop-x-test.false ∙ c.as_slice-x-items.ensures.value ∙ c.in_ok-vars.ensures in
    all_choices c.args.sig.now c.recall_good.ensures c.recall_completed.ensures c.args.number (sides_of c.args.e.now) c.requires.kinds c.loop-x.all.items
    (subst (λ l. AreInstancesOver c.args.sig.now c.args.number (sides_of c.args.e.now) l c.loop-x.all.items) whole c.loop-x.invariant)
