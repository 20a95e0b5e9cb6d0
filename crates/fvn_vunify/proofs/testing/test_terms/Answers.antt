-- One more term.
use Rattle.std.proofs.Common.{subst}
use Rattle.fvn_forms.specs.Flat.{plain}
use Rattle.fvn_flat.specs.Fits.{Fits}
use Rattle.fvn_flat.proofs.Instances.{each_at}
use Rattle.fvn_vunify.specs.declared.testing.Test.TheVariants.{Reducible, Stopped}
use Rattle.fvn_vunify.specs.inner.Tests.{StaysUnder, IsTestUnder}
use Rattle.fvn_vunify.proofs.Passing.{each_none, each_more, each_all}
use Rattle.fvn_vunify.proofs.Staying.{some_not_staying, all_staying}
use Rattle.fvn_vunify.proofs.testing.test_terms.Goals as goal

pub loop-t-init : goal.loop-t-init
loop-t-init g c = each_none (λ t. StaysUnder (g.E.Expander.setting c.args.expander.now) c.args.s.now (plain t)) c.args.terms.now

pub test_under-requires-clause-term : goal.test_under-requires-clause-term
test_under-requires-clause-term g c = λ κs w. each_at (Fits c.args.sig.now) c.args.terms.now c.requires.terms c.loop-t.t-index c.t-item.result c.loop-t-test.true c.t-item.is

pub loop-t-preserved : goal.loop-t-preserved
loop-t-preserved g c =
    let s = g.E.Expander.setting c.args.expander.now in
    let by = c.args.s.now in
    each_more (λ t. StaysUnder s by (plain t)) c.args.terms.now c.loop-t.t-index c.t-item.result c.loop-t-test.true
    (subst (λ t. StaysUnder s by (plain t)) c.t-item.is (rw c.in-Irreducible.is at c.in_ok-test_under.ensures)) c.loop-t.invariant

pub returns-in-Reducible : goal.returns-in-Reducible
returns-in-Reducible g c =
    let s = g.E.Expander.setting c.args.expander.now in
    let by = c.args.s.now in
    some_not_staying s by c.args.terms.now c.loop-t.t-index c.t-item.result c.loop-t-test.true Reducible
    (subst (λ t. IsTestUnder s by (plain t) Reducible) c.t-item.is (rw c.in-Reducible.is at c.in_ok-test_under.ensures))

pub returns-in-Stopped : goal.returns-in-Stopped
returns-in-Stopped g c =
    let s = g.E.Expander.setting c.args.expander.now in
    let by = c.args.s.now in
    some_not_staying s by c.args.terms.now c.loop-t.t-index c.t-item.result c.loop-t-test.true (Stopped c.in-Stopped.end)
    (subst (λ t. IsTestUnder s by (plain t) (Stopped c.in-Stopped.end)) c.t-item.is (rw c.in-Stopped.is at c.in_ok-test_under.ensures))

pub returns : goal.returns
returns g c =
    let s = g.E.Expander.setting c.args.expander.now in
    let by = c.args.s.now in
    all_staying s by c.args.terms.now
    (each_all (λ t. StaysUnder s by (plain t)) c.args.terms.now c.loop-t.t-index c.loop-t-test.false c.loop-t.invariant)
