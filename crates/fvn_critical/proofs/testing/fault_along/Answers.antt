-- One more.
use Rattle.std.proofs.Common.{sym, subst}
use Rattle.std.specs.Prelude.{Contains}
use Rattle.std.proofs.lemmas.List.Elements.{Contains-get_or}
use Rattle.std.specs.Prelude.{ℕ, List}
use Rattle.fvn_places.specs.Paths.{paths}
use Rattle.fvn_critical.specs.inner.Testing.{TestedAs, IsJoinedAt}
use Rattle.fvn_critical.proofs.Covering.{each_none, each_more, each_all, shown, faulty}
use Rattle.fvn_critical.proofs.testing.fault_along.Goals as goal

pub loop-path-init : goal.loop-path-init
loop-path-init g c = each_none (IsJoinedAt c.args.tester.now.rewriter c.args.tester.now.chosen.now c.args.later.now c.args.new.now.rule)

pub fault_at-requires-clause-path : goal.fault_at-requires-clause-path
fault_at-requires-clause-path g c lives order =
    let item : List ℕ = c.path-item.result in
    subst (λ p. Contains (paths c.args.new.now.rule.left) p) (sym c.as_slice.ensures) (subst (λ l. Contains l item) c.requires.list (subst (Contains c.args.list.now) (sym c.path-item.is) (Contains-get_or c.args.list.now c.loop-path.path-index item c.loop-path-test.true)))

pub loop-path-preserved : goal.loop-path-preserved
loop-path-preserved g c =
    let item : List ℕ = c.path-item.result in
    let Joined = IsJoinedAt c.args.tester.now.rewriter c.args.tester.now.chosen.now c.args.later.now c.args.new.now.rule in
    each_more Joined c.args.list.now c.loop-path.path-index item c.loop-path-test.true c.path-item.is c.loop-path.invariant
    (shown c.args.tester.now.rewriter (g.A.AxiomSolver.drawn c.args.tester.now.solver.now) (g.A.AxiomSolver.most_unifiers c.args.tester.now.solver.now) (Joined item) c.in_ok-fault.fault c.in_default.is (subst (λ p. TestedAs c.args.tester.now.rewriter (g.A.AxiomSolver.drawn c.args.tester.now.solver.now) (g.A.AxiomSolver.most_unifiers c.args.tester.now.solver.now) (Joined p) c.in_ok-fault.fault) c.as_slice.ensures c.in_ok-fault.ensures))

pub returns-in-Some : goal.returns-in-Some
returns-in-Some g c =
    let item : List ℕ = c.path-item.result in
    let Joined = IsJoinedAt c.args.tester.now.rewriter c.args.tester.now.chosen.now c.args.later.now c.args.new.now.rule in
    faulty c.args.tester.now.rewriter (g.A.AxiomSolver.drawn c.args.tester.now.solver.now) (g.A.AxiomSolver.most_unifiers c.args.tester.now.solver.now) (Joined item) c.in_ok-fault.fault c.in-Some.wrong c.in-Some.is (subst (λ p. TestedAs c.args.tester.now.rewriter (g.A.AxiomSolver.drawn c.args.tester.now.solver.now) (g.A.AxiomSolver.most_unifiers c.args.tester.now.solver.now) (Joined p) c.in_ok-fault.fault) c.as_slice.ensures c.in_ok-fault.ensures)

pub returns : goal.returns
returns g c = each_all (IsJoinedAt c.args.tester.now.rewriter c.args.tester.now.chosen.now c.args.later.now c.args.new.now.rule) c.args.list.now c.loop-path.path-index c.loop-path-test.false c.loop-path.invariant
