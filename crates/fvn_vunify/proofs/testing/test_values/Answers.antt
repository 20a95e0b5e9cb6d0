-- One more value.
use Rattle.fvn_vunify.specs.declared.testing.Test.TheVariants.{Reducible, Stopped}
use Rattle.fvn_flat.specs.Bindings.{value}
use Rattle.fvn_vunify.specs.inner.Tests.{IsPassed}
use Rattle.fvn_vunify.proofs.Passing.{each_none, each_more, each_all, some_not_passed}
use Rattle.fvn_vunify.proofs.testing.test_values.Goals as goal

pub loop-x-init : goal.loop-x-init
loop-x-init g c = each_none (λ x. IsPassed (g.E.Expander.setting c.args.expander.now) (value c.args.s.now x)) c.args.vars.now

pub test_value-requires-clause-sort : goal.test_value-requires-clause-sort
test_value-requires-clause-sort g c = λ κs w. c.requires.sorts c.loop-x.x-index _ c.loop-x-test.true

pub loop-x-preserved : goal.loop-x-preserved
loop-x-preserved g c =
    each_more (λ x. IsPassed (g.E.Expander.setting c.args.expander.now) (value c.args.s.now x)) c.args.vars.now c.loop-x.x-index _ c.loop-x-test.true
    (rw c.in-Irreducible.is at c.in_ok-test_value.ensures) c.loop-x.invariant

pub returns-in-Reducible : goal.returns-in-Reducible
returns-in-Reducible g c =
    some_not_passed (g.E.Expander.setting c.args.expander.now) c.args.vars.now c.args.s.now c.loop-x.x-index _ c.loop-x-test.true
    Reducible (rw c.in-Reducible.is at c.in_ok-test_value.ensures)

pub returns-in-Stopped : goal.returns-in-Stopped
returns-in-Stopped g c =
    some_not_passed (g.E.Expander.setting c.args.expander.now) c.args.vars.now c.args.s.now c.loop-x.x-index _ c.loop-x-test.true
    (Stopped c.in-Stopped.end) (rw c.in-Stopped.is at c.in_ok-test_value.ensures)

pub returns : goal.returns
returns g c = each_all (λ x. IsPassed (g.E.Expander.setting c.args.expander.now) (value c.args.s.now x)) c.args.vars.now c.loop-x.x-index c.loop-x-test.false c.loop-x.invariant
