-- One rule more.
use Rattle.std.proofs.Common.{◌≡◌, ◌-◌, List, take, drop, length, Some, sym, ap, ◌∙◌, subst, arith}
use Rattle.std.specs.Prelude.{Contains, slice_get}
use Rattle.std.proofs.lemmas.List.{take_rest}
use Rattle.std.proofs.lemmas.List.Elements.{Contains-get_or}
use Rattle.std.proofs.lemmas.Option.{slice_get-get_or}
use Rattle.fvn_rewrite_rules.specs.declared.rule.Rule.{Rule}
use Rattle.fvn_critical.specs.inner.Choosing.{AreAmong}
use Rattle.fvn_critical.specs.inner.Testing.{IsJoinedAlong, AreJoinedUpTo}
use Rattle.fvn_critical.proofs.Covering.{none_joined, joined_more, behind_chosen, shown, faulty}
use Rattle.fvn_critical.proofs.testing.first_fault.Goals as goal

pub loop-i-init : goal.loop-i-init
loop-i-init g c = none_joined c.args.tester.now.rewriter c.args.tester.now.chosen.now

pub fault_of-requires-clause-rule : goal.fault_of-requires-clause-rule
fault_of-requires-clause-rule g c lives order =
    let chosen = c.args.tester.now.chosen.now in
    let item : Rule = c.index-chosen-i.result in
    c.requires.chosen item (subst (Contains chosen) (sym c.index-chosen-i.is) (Contains-get_or chosen c.loop-i.i item c.loop-i-test.true))

pub fault_of-requires-clause-later : goal.fault_of-requires-clause-later
fault_of-requires-clause-later g c lives order =
    let chosen = c.args.tester.now.chosen.now in
    subst (λ (l : List Rule). AreAmong l chosen) (sym (take_rest chosen c.loop-i.i)) (behind_chosen c.args.tester.now.rewriter chosen c.loop-i.i)

pub loop-i-preserved : goal.loop-i-preserved
loop-i-preserved g c =
    let r = c.args.tester.now.rewriter in
    let chosen = c.args.tester.now.chosen.now in
    let item : Rule = c.index-chosen-i.result in
    let i = c.loop-i.i in
    let may = g.A.AxiomSolver.drawn c.args.tester.now.solver.now in
    let unifiers = g.A.AxiomSolver.most_unifiers c.args.tester.now.solver.now in
    let here : slice_get chosen i ≡ Some item = slice_get-get_or chosen i item c.loop-i-test.true ∙ ap Some (sym c.index-chosen-i.is) in
    joined_more r chosen i item here c.loop-i.invariant
    (subst (λ (l : List Rule). IsJoinedAlong r chosen l item) (take_rest chosen i)
    (shown r may unifiers (IsJoinedAlong r chosen (take (length chosen - i) (drop i chosen)) item) c.in_ok-fault.fault c.in_default.is c.in_ok-fault.ensures))

pub returns-in-Some : goal.returns-in-Some
returns-in-Some g c =
    let r = c.args.tester.now.rewriter in
    let chosen = c.args.tester.now.chosen.now in
    let item : Rule = c.index-chosen-i.result in
    let i = c.loop-i.i in
    let may = g.A.AxiomSolver.drawn c.args.tester.now.solver.now in
    let unifiers = g.A.AxiomSolver.most_unifiers c.args.tester.now.solver.now in
    faulty r may unifiers (IsJoinedAlong r chosen (take (length chosen - i) (drop i chosen)) item) c.in_ok-fault.fault c.in-Some.wrong c.in-Some.is c.in_ok-fault.ensures

pub returns : goal.returns
returns g c =
    let chosen = c.args.tester.now.chosen.now in
    let e : c.loop-i.i ≡ length chosen = omega (arith, c.loop-i-test.false, c.loop-i.auto.i-end) in
    subst (AreJoinedUpTo c.args.tester.now.rewriter chosen) e c.loop-i.invariant
