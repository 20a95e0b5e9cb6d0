-- the variables of one more pattern
use Rattle.std.proofs.Common.{subst}
use Rattle.std.proofs.lemmas.List.{take_all}
use Rattle.fvn_flat.proofs.Occurrences.{OccursIn}
use Rattle.fvn_match.specs.inner.Variables.{Collects}
use Rattle.fvn_match.proofs.VariableSteps.{collects_none, collects_term, collects_some}
use Rattle.fvn_match.proofs.variables.with_all_variables.Goals as goal

pub loop-p-init : goal.loop-p-init
loop-p-init c = collects_none c.args.vars.items c.requires

pub with_variables-requires : goal.with_variables-requires
with_variables-requires c = c.loop-p.invariant.once

pub loop-p-preserved : goal.loop-p-preserved
loop-p-preserved c = collects_term c.args.vars.items c.loop-p.all.items _ c.args.patterns.now c.loop-p.p-index c.p-item.result c.loop-p-test.true c.p-item.is c.loop-p.invariant c.in_ok-all.ensures

pub returns : goal.returns
returns c =
    collects_some c.args.vars.items c.loop-p.all.items c.args.patterns.now
    (subst (λ l. Collects c.args.vars.items (λ y. OccursIn y l) c.loop-p.all.items) (take_all c.loop-p.p-index c.args.patterns.now c.loop-p-test.false) c.loop-p.invariant)
