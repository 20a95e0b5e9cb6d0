-- One unifier more.
use Rattle.std.proofs.Common.{sym, subst}
use Rattle.std.specs.Prelude.{Contains}
use Rattle.std.proofs.lemmas.List.Elements.{All-nil, All-contains, Contains-get_or}
use Rattle.fvn_flat.specs.Bindings.{Bindings}
use Rattle.fvn_flat.specs.Solving.{substitution}
use Rattle.fvn_rewrite.specs.Usable.{equations_by}
use Rattle.fvn_critical_pairs.specs.Overlaps.{JoinsUnder}
use Rattle.fvn_critical.specs.inner.Testing.{overlap_in, IsDrawnFor}
use Rattle.fvn_critical.proofs.Covering.{all_more, all_at_end, shown, faulty}
use Rattle.fvn_critical.proofs.pairing.all_tried.Goals as goal

pub loop-s-init : goal.loop-s-init
loop-s-init g c = All-nil (λ (s : Bindings). JoinsUnder c.args.tester.now.rewriter.signature (equations_by c.args.tester.now.rewriter) (overlap_in c.args.meeting.now) (substitution s))

pub tried-requires-clause-unifier : goal.tried-requires-clause-unifier
tried-requires-clause-unifier g c lives order =
    let r = c.args.tester.now.rewriter in
    let may = g.A.AxiomSolver.drawn c.args.tester.now.solver.now in
    let s : Bindings = c.s-item.result in
    All-contains (IsDrawnFor r may (overlap_in c.args.meeting.now)) c.args.unifiers.now s c.requires.unifiers
    (subst (λ w. Contains c.args.unifiers.now w) (sym c.s-item.is) (Contains-get_or c.args.unifiers.now c.loop-s.s-index s c.loop-s-test.true))

pub loop-s-preserved : goal.loop-s-preserved
loop-s-preserved g c =
    let r = c.args.tester.now.rewriter in
    let may = g.A.AxiomSolver.drawn c.args.tester.now.solver.now in
    let s : Bindings = c.s-item.result in
    let Under = λ (b : Bindings). JoinsUnder r.signature (equations_by r) (overlap_in c.args.meeting.now) (substitution b) in
    all_more Under c.args.unifiers.now c.loop-s.s-index s c.loop-s-test.true c.s-item.is c.loop-s.invariant
    (shown r may (g.A.AxiomSolver.most_unifiers c.args.tester.now.solver.now) (Under s) c.in_ok-fault.fault c.in_default.is c.in_ok-fault.ensures)

pub returns-in-Some : goal.returns-in-Some
returns-in-Some g c =
    let r = c.args.tester.now.rewriter in
    let may = g.A.AxiomSolver.drawn c.args.tester.now.solver.now in
    faulty r may (g.A.AxiomSolver.most_unifiers c.args.tester.now.solver.now)
    (JoinsUnder r.signature (equations_by r) (overlap_in c.args.meeting.now) (substitution c.s-item.result)) c.in_ok-fault.fault c.in-Some.wrong c.in-Some.is c.in_ok-fault.ensures

pub returns : goal.returns
returns g c =
    let r = c.args.tester.now.rewriter in
    all_at_end (λ (b : Bindings). JoinsUnder r.signature (equations_by r) (overlap_in c.args.meeting.now) (substitution b)) c.args.unifiers.now c.loop-s.s-index c.loop-s-test.false c.loop-s.invariant
