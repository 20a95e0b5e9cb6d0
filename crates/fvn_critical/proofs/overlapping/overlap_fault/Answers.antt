-- A clash, or the solver's answer and the tests of its unifiers.
use Rattle.std.proofs.Common.{sym, subst}
use Rattle.std.specs.Prelude.{All}
use Rattle.fvn_terms.specs.declared.declarations.Declarations.{Declarations}
use Rattle.fvn_flat.specs.Fits.{Fits}
use Rattle.fvn_flat.specs.Solving.{IsGiven, HasCause}
use Rattle.fvn_places.specs.Clashes.{NeverMeet}
use Rattle.fvn_places.specs.Putting.{CanPut, PutAs}
use Rattle.fvn_rewrite.specs.Usable.{equations_by}
use Rattle.fvn_critical_pairs.specs.Overlaps.{Joins}
use Rattle.fvn_critical.specs.inner.Testing.{overlap_in, IsDrawnFor, TestedAs, AllJoin}
use Rattle.fvn_critical.proofs.Forms.{known}
use Rattle.fvn_critical.proofs.Posed.{outer_fits, part_fits, inner_fits, can_put, may_be_given, never_joins}
use Rattle.fvn_critical.proofs.Joining.{answered_so, all_drawn, answered}
use Rattle.fvn_critical.proofs.Covering.{shown, faulty}
use Rattle.fvn_critical.proofs.overlapping.overlap_fault.Goals as goal

pub clash-clashing-requires-clause-first : goal.clash-clashing-requires-clause-first
clash-clashing-requires-clause-first g c =
    let r = c.args.tester.now.rewriter in
    let m = c.args.meeting.now in
    let k = known r m c.recall.ensures.good c.recall.ensures.completed c.recall.ensures.usable c.rules_are_lawful.ensures c.requires.overlap in
    subst (λ (d : Declarations). Fits d m.at.now) (sym c.signature-sig.ensures) (part_fits r m k)

pub clash-clashing-requires-clause-second : goal.clash-clashing-requires-clause-second
clash-clashing-requires-clause-second g c =
    let r = c.args.tester.now.rewriter in
    let m = c.args.meeting.now in
    let k = known r m c.recall.ensures.good c.recall.ensures.completed c.recall.ensures.usable c.rules_are_lawful.ensures c.requires.overlap in
    subst (λ (d : Declarations). Fits d m.inner.now.left) (sym c.signature-sig.ensures) (inner_fits r m k)

pub returns-then-clashing : goal.returns-then-clashing
returns-then-clashing g c =
    let r = c.args.tester.now.rewriter in
    let m = c.args.meeting.now in
    let k = known r m c.recall.ensures.good c.recall.ensures.completed c.recall.ensures.usable c.rules_are_lawful.ensures c.requires.overlap in
    never_joins r m k (subst (λ (d : Declarations). NeverMeet d m.at.now m.inner.now.left) c.signature-sig.ensures (c.clash-clashing.ensures c.if-clashing.true))

pub solve-requires : goal.solve-requires
solve-requires g c =
    let r = c.args.tester.now.rewriter in
    let m = c.args.meeting.now in
    let k = known r m c.recall.ensures.good c.recall.ensures.completed c.recall.ensures.usable c.rules_are_lawful.ensures c.requires.overlap in
    subst (λ (d : Declarations). IsGiven d c.in_ok-given.given m.next) (sym c.args.tester.now.one_signature) (may_be_given r m k c.in_ok-given.given c.in_ok-given.ensures)

pub put-requires : goal.put-requires
put-requires g c =
    let r = c.args.tester.now.rewriter in
    let m = c.args.meeting.now in
    let k = known r m c.recall.ensures.good c.recall.ensures.completed c.recall.ensures.usable c.rules_are_lawful.ensures c.requires.overlap in
    record {
      term = subst (λ (d : Declarations). Fits d m.outer.now.left) (sym c.signature-sig.ensures) (outer_fits r m k);
      given = subst (λ (d : Declarations). CanPut d m.path.now m.outer.now.left m.inner.now.right) (sym c.signature-sig.ensures) (can_put r m k);
    }

pub all_tried-requires-clause-whole : goal.all_tried-requires-clause-whole
all_tried-requires-clause-whole g c lives order =
    let m = c.args.meeting.now in
    subst (λ (d : Declarations). PutAs d m.path.now m.outer.now.left m.inner.now.right c.in_ok-whole.whole) c.signature-sig.ensures c.in_ok-whole.ensures

pub all_tried-requires-clause-unifiers : goal.all_tried-requires-clause-unifiers
all_tried-requires-clause-unifiers g c lives order =
    let r = c.args.tester.now.rewriter in
    let o = overlap_in c.args.meeting.now in
    let next = c.args.meeting.now.next in
    let may = g.A.AxiomSolver.drawn c.args.tester.now.solver.now in
    let given = c.in_ok-given.given in
    let solved = c.in_ok-solved.solved in
    let e = c.in_ok-solved.ensures in
    let a = answered_so r may next o given solved c.in_ok-given.ensures _ c.args.tester.now.one_signature e.sound e.drawn e.binds e.fresh e.apart e.complete in
    subst (All (IsDrawnFor r may o)) (sym c.as_slice.ensures) (all_drawn r may next o given solved a)

pub returns-in-Some : goal.returns-in-Some
returns-in-Some g c =
    let r = c.args.tester.now.rewriter in
    let solver = c.args.tester.now.solver.now in
    faulty r (g.A.AxiomSolver.drawn solver) (g.A.AxiomSolver.most_unifiers solver) (AllJoin r (overlap_in c.args.meeting.now) c.as_slice.result.now) c.in_ok-fault.fault c.in-Some.wrong c.in-Some.is c.in_ok-fault.ensures

pub returns-in-None : goal.returns-in-None
returns-in-None g c =
    let r = c.args.tester.now.rewriter in
    let solver = c.args.tester.now.solver.now in
    let o = overlap_in c.args.meeting.now in
    let next = c.args.meeting.now.next in
    let may = g.A.AxiomSolver.drawn solver in
    let unifiers = g.A.AxiomSolver.most_unifiers solver in
    let most = g.A.AxiomSolver.most_symbols solver in
    let given = c.in_ok-given.given in
    let solved = c.in_ok-solved.solved in
    let same = c.args.tester.now.one_signature in
    let e = c.in_ok-solved.ensures in
    let a = answered_so r may next o given solved c.in_ok-given.ensures _ same e.sound e.drawn e.binds e.fresh e.apart e.complete in
    let cause : HasCause r.signature given unifiers most solved = subst (λ (d : Declarations). HasCause d given unifiers most solved) same e.cause in
    let tested : AllJoin r o solved.unifiers = subst (AllJoin r o) c.as_slice.ensures (shown r may unifiers (AllJoin r o c.as_slice.result.now) c.in_ok-fault.fault c.in-None.is c.in_ok-fault.ensures) in
    subst (TestedAs r may unifiers (Joins r.signature (equations_by r) o)) (sym c.solver_fault.ensures)
    (answered r may next o given solved a c.recall.ensures.good c.recall.ensures.completed c.recall.ensures.usable c.unifiers_decide_overlaps.ensures c.requires.overlap unifiers most c.args.tester.now.one_size cause tested)
