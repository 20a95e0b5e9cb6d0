-- One more term.
use Rattle.std.proofs.Common.{subst}
use Rattle.std.specs.Prelude.{All}
use Rattle.std.proofs.lemmas.List.{take_all}
use Rattle.std.proofs.lemmas.List.Elements.{All-nil}
use Rattle.fvn_flat.specs.Fits.{Fits}
use Rattle.fvn_flat.proofs.Instances.{each_at}
use Rattle.fvn_tests_vunify.specs.Asked.{IsFixable}
use Rattle.fvn_tests_vunify.proofs.Asking.{fixable_more}
use Rattle.fvn_tests_vunify.proofs.tests.fixed.are_fixable.Goals as goal

pub loop-t-init : goal.loop-t-init
loop-t-init g c = All-nil (IsFixable (g.E.Expander.setting c.args.expander.now) c.args.first.now)

pub is_fixable-requires-clause-term : goal.is_fixable-requires-clause-term
is_fixable-requires-clause-term g c = λ κs w.
    each_at (Fits (g.E.Expander.setting c.args.expander.now).declarations) c.args.terms.now c.requires.terms c.loop-t.t-index c.t-item.result c.loop-t-test.true c.t-item.is

pub loop-t-preserved : goal.loop-t-preserved
loop-t-preserved g c =
    fixable_more (IsFixable (g.E.Expander.setting c.args.expander.now) c.args.first.now) c.args.terms.now c.loop-t.t-index c.t-item.result c.loop-t-test.true c.t-item.is
    (c.in_ok-fixable.ensures c.if-not-fixable.false) c.loop-t.invariant

pub returns : goal.returns
returns g c = λ t.
    subst (All (IsFixable (g.E.Expander.setting c.args.expander.now) c.args.first.now)) (take_all c.loop-t.t-index c.args.terms.now c.loop-t-test.false) c.loop-t.invariant
