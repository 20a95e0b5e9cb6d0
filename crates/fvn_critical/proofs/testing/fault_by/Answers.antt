-- One more.
use Rattle.std.proofs.Common.{sym, subst}
use Rattle.std.specs.Prelude.{Contains}
use Rattle.std.proofs.lemmas.List.Elements.{Contains-get_or}
use Rattle.fvn_rewrite_rules.specs.declared.rule.Rule.{Rule}
use Rattle.fvn_critical.specs.inner.Testing.{JoinWith}
use Rattle.fvn_critical.proofs.Covering.{each_none, each_more, each_all, shown, faulty}
use Rattle.fvn_critical.proofs.testing.fault_by.Goals as goal

pub loop-inner-init : goal.loop-inner-init
loop-inner-init g c = each_none (JoinWith c.args.tester.now.rewriter c.args.new.now.rule c.args.part.now.path.now)

pub fault_with-requires-clause-inner : goal.fault_with-requires-clause-inner
fault_with-requires-clause-inner g c lives order =
    let item : Rule = c.inner-item.result in
    c.requires.inner item (subst (Contains c.args.rules.now) (sym c.inner-item.is) (Contains-get_or c.args.rules.now c.loop-inner.inner-index item c.loop-inner-test.true))

pub loop-inner-preserved : goal.loop-inner-preserved
loop-inner-preserved g c =
    let item : Rule = c.inner-item.result in
    let Joined = JoinWith c.args.tester.now.rewriter c.args.new.now.rule c.args.part.now.path.now in
    each_more Joined c.args.rules.now c.loop-inner.inner-index item c.loop-inner-test.true c.inner-item.is c.loop-inner.invariant
    (shown c.args.tester.now.rewriter (g.A.AxiomSolver.drawn c.args.tester.now.solver.now) (g.A.AxiomSolver.most_unifiers c.args.tester.now.solver.now) (Joined item) c.in_ok-fault.fault c.in_default.is c.in_ok-fault.ensures)

pub returns-in-Some : goal.returns-in-Some
returns-in-Some g c =
    let item : Rule = c.inner-item.result in
    let Joined = JoinWith c.args.tester.now.rewriter c.args.new.now.rule c.args.part.now.path.now in
    faulty c.args.tester.now.rewriter (g.A.AxiomSolver.drawn c.args.tester.now.solver.now) (g.A.AxiomSolver.most_unifiers c.args.tester.now.solver.now) (Joined item) c.in_ok-fault.fault c.in-Some.wrong c.in-Some.is c.in_ok-fault.ensures

pub returns : goal.returns
returns g c = each_all (JoinWith c.args.tester.now.rewriter c.args.new.now.rule c.args.part.now.path.now) c.args.rules.now c.loop-inner.inner-index c.loop-inner-test.false c.loop-inner.invariant
