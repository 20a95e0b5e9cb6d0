-- Both results under a unifier, and their normal forms.
use Rattle.std.proofs.Common.{sym, ◌∙◌, subst}
use Rattle.fvn_terms.specs.declared.declarations.Declarations.{Declarations}
use Rattle.fvn_flat.specs.Bindings.{BindingsFit}
use Rattle.fvn_flat.specs.Fits.{Fits}
use Rattle.fvn_rewrite_laws.specs.Normalised.{IsForm, IsUnfinished, IsTooLarge}
use Rattle.fvn_rewrite.specs.Usable.{equations_by}
use Rattle.fvn_critical.specs.inner.Comparing.{AgainstAs}
use Rattle.fvn_critical.proofs.Forms.{known, applied, outer_right_fits, whole_fits, first_fits, second_fits}
use Rattle.fvn_critical.proofs.Trying.{joins_at_once, first_unfinished, first_too_large, tried_against}
use Rattle.fvn_critical.proofs.pairing.tried.Goals as goal

pub apply-requires : goal.apply-requires
apply-requires g c =
    let r = c.args.tester.now.rewriter in
    let m = c.args.meeting.now in
    let k = known r m c.recall.ensures.good c.recall.ensures.completed c.recall.ensures.usable c.rules_are_lawful.ensures c.requires.overlap in
    record {
      subst = subst (λ (d : Declarations). BindingsFit d c.args.s.now) (sym c.signature-sig.ensures) c.requires.unifier.fits;
      term = subst (λ (d : Declarations). Fits d m.outer.now.right) (sym c.signature-sig.ensures) (outer_right_fits r m k);
    }

pub apply-requires-2 : goal.apply-requires-2
apply-requires-2 g c =
    let r = c.args.tester.now.rewriter in
    let m = c.args.meeting.now in
    let k = known r m c.recall.ensures.good c.recall.ensures.completed c.recall.ensures.usable c.rules_are_lawful.ensures c.requires.overlap in
    let may = g.A.AxiomSolver.drawn c.args.tester.now.solver.now in
    record {
      subst = subst (λ (d : Declarations). BindingsFit d c.args.s.now) (sym c.signature-sig.ensures) c.requires.unifier.fits;
      term = subst (λ (d : Declarations). Fits d c.args.whole.now) (sym c.signature-sig.ensures) (whole_fits r m k may c.args.s.now c.requires.unifier c.args.whole.now c.requires.whole);
    }

pub normal-requires : goal.normal-requires
normal-requires g c =
    let r = c.args.tester.now.rewriter in
    let m = c.args.meeting.now in
    let k = known r m c.recall.ensures.good c.recall.ensures.completed c.recall.ensures.usable c.rules_are_lawful.ensures c.requires.overlap in
    let may = g.A.AxiomSolver.drawn c.args.tester.now.solver.now in
    let one = applied r c.args.s.now _ c.signature-sig.ensures m.outer.now.right c.in_ok-first.first c.in_ok-first.ensures.exact in
    subst (Fits r.signature) (sym one) (first_fits r m k may c.args.s.now c.requires.unifier)

pub against-requires : goal.against-requires
against-requires g c =
    let r = c.args.tester.now.rewriter in
    let m = c.args.meeting.now in
    let k = known r m c.recall.ensures.good c.recall.ensures.completed c.recall.ensures.usable c.rules_are_lawful.ensures c.requires.overlap in
    let may = g.A.AxiomSolver.drawn c.args.tester.now.solver.now in
    let two = applied r c.args.s.now _ c.signature-sig.ensures c.args.whole.now c.in_ok-second.second c.in_ok-second.ensures.exact in
    subst (Fits r.signature) (sym two) (second_fits r m k may c.args.s.now c.requires.unifier c.args.whole.now c.requires.whole)

pub returns-then-same : goal.returns-then-same
returns-then-same g c =
    let r = c.args.tester.now.rewriter in
    let m = c.args.meeting.now in
    let k = known r m c.recall.ensures.good c.recall.ensures.completed c.recall.ensures.usable c.rules_are_lawful.ensures c.requires.overlap in
    let solver = c.args.tester.now.solver.now in
    let one = applied r c.args.s.now _ c.signature-sig.ensures m.outer.now.right c.in_ok-first.first c.in_ok-first.ensures.exact in
    let two = applied r c.args.s.now _ c.signature-sig.ensures c.args.whole.now c.in_ok-second.second c.in_ok-second.ensures.exact in
    joins_at_once r m k (c.sequences_are_lawful.ensures r.signature (equations_by r)) c.overlaps_are_steps.ensures (g.A.AxiomSolver.drawn solver) (g.A.AxiomSolver.most_unifiers solver) c.args.s.now c.requires.unifier c.args.whole.now c.requires.whole
    (sym one ∙ c.same-same.ensures.exact.0 c.if-same.true ∙ two)

pub returns-in-Form : goal.returns-in-Form
returns-in-Form g c =
    let r = c.args.tester.now.rewriter in
    let m = c.args.meeting.now in
    let k = known r m c.recall.ensures.good c.recall.ensures.completed c.recall.ensures.usable c.rules_are_lawful.ensures c.requires.overlap in
    let solver = c.args.tester.now.solver.now in
    let one = applied r c.args.s.now _ c.signature-sig.ensures m.outer.now.right c.in_ok-first.first c.in_ok-first.ensures.exact in
    let two = applied r c.args.s.now _ c.signature-sig.ensures c.args.whole.now c.in_ok-second.second c.in_ok-second.ensures.exact in
    tried_against r m k (c.sequences_are_lawful.ensures r.signature (equations_by r)) c.overlaps_are_steps.ensures (g.A.AxiomSolver.drawn solver) (g.A.AxiomSolver.most_unifiers solver) c.args.s.now c.requires.unifier c.args.whole.now c.requires.whole c.in-Form.left
    (subst (λ w. IsForm r.signature (equations_by r) w r.bounds c.in-Form.left) one (rw c.in-Form.is at c.in_ok-found.ensures)) c.in_ok-fault-in-Form.fault
    (subst (λ w. AgainstAs m.outer.now.equation m.inner.now.equation c.in-Form.left r w c.in_ok-fault-in-Form.fault) two c.in_ok-fault-in-Form.ensures)

pub returns-in-Steps : goal.returns-in-Steps
returns-in-Steps g c =
    let r = c.args.tester.now.rewriter in
    let m = c.args.meeting.now in
    let k = known r m c.recall.ensures.good c.recall.ensures.completed c.recall.ensures.usable c.rules_are_lawful.ensures c.requires.overlap in
    let solver = c.args.tester.now.solver.now in
    let one = applied r c.args.s.now _ c.signature-sig.ensures m.outer.now.right c.in_ok-first.first c.in_ok-first.ensures.exact in
    first_unfinished r m k (g.A.AxiomSolver.drawn solver) (g.A.AxiomSolver.most_unifiers solver) c.args.s.now c.requires.unifier c.in-Steps.start c.in-Steps.end
    (subst (λ w. IsUnfinished r.signature (equations_by r) w r.bounds c.in-Steps.start c.in-Steps.end) one (rw c.in-Steps.is at c.in_ok-found.ensures))

pub returns : goal.returns
returns g c =
    let r = c.args.tester.now.rewriter in
    let m = c.args.meeting.now in
    let k = known r m c.recall.ensures.good c.recall.ensures.completed c.recall.ensures.usable c.rules_are_lawful.ensures c.requires.overlap in
    let solver = c.args.tester.now.solver.now in
    let one = applied r c.args.s.now _ c.signature-sig.ensures m.outer.now.right c.in_ok-first.first c.in_ok-first.ensures.exact in
    first_too_large r m k (g.A.AxiomSolver.drawn solver) (g.A.AxiomSolver.most_unifiers solver) c.args.s.now c.requires.unifier c.in-Size.u
    (subst (λ w. IsTooLarge r.signature (equations_by r) w r.bounds c.in-Size.u) one (rw c.in-Size.is at c.in_ok-found.ensures))
