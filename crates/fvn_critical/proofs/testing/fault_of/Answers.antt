-- The rule with new variables.
use Rattle.std.proofs.Common.{sym, ◌∙◌, subst}
use Rattle.fvn_terms.specs.declared.declarations.Declarations.{Declarations}
use Rattle.fvn_flat.specs.Fits.{Fits}
use Rattle.fvn_rewrite.specs.Usable.{equations_by}
use Rattle.fvn_critical_pairs.specs.Overlaps.{IsRenewed}
use Rattle.fvn_critical_pairs.proofs.GivenRules.{left_fits, right_fits}
use Rattle.fvn_critical.specs.inner.Testing.{Each, IsJoinedAt, IsJoinedAlong}
use Rattle.fvn_critical.proofs.Forms.{used_by}
use Rattle.fvn_critical.proofs.Covering.{weaker}
use Rattle.fvn_critical.proofs.testing.fault_of.Goals as goal

pub renewed-requires : goal.renewed-requires
renewed-requires g c =
    let r = c.args.tester.now.rewriter in
    let good = c.recall.ensures.good in
    let completed = c.recall.ensures.completed in
    let usable = c.recall.ensures.usable in
    let rules = c.rules_are_lawful.ensures r.signature good completed (equations_by r) (λ e i. (usable.admissible e i).kinded.kinds) in
    let used = used_by r good completed usable in record {
      left = subst (λ (d : Declarations). Fits d c.args.rule.now.left) (sym c.signature.ensures) (left_fits r.signature r.rules used rules c.args.rule.now c.requires.rule);
      right = subst (λ (d : Declarations). Fits d c.args.rule.now.right) (sym c.signature.ensures) (right_fits r.signature r.rules used rules c.args.rule.now c.requires.rule);
    }

pub fault_along-requires-clause-outer : goal.fault_along-requires-clause-outer
fault_along-requires-clause-outer g c lives order =
    let new = c.in_ok-new.new in (c.args.rule.now, c.requires.rule, subst (λ (d : Declarations). IsRenewed d new.next c.args.rule.now new.rule) c.signature.ensures c.in_ok-new.ensures)

pub fault_along-requires-clause-list : goal.fault_along-requires-clause-list
fault_along-requires-clause-list g c lives order = c.as_slice.ensures.value ∙ c.in_ok-list.ensures

pub returns : goal.returns
returns g c =
    let r = c.args.tester.now.rewriter in
    let new = c.in_ok-new.new in
    let chosen = c.args.tester.now.chosen.now in
    let later = c.args.later.now in
    weaker r (g.A.AxiomSolver.drawn c.args.tester.now.solver.now) (g.A.AxiomSolver.most_unifiers c.args.tester.now.solver.now) (Each (IsJoinedAt r chosen later new.rule) c.as_slice.result.now) (IsJoinedAlong r chosen later c.args.rule.now)
    (λ h. record {
      next = new.next;
      new = new.rule;
      renewed = subst (λ (d : Declarations). IsRenewed d new.next c.args.rule.now new.rule) c.signature.ensures c.in_ok-new.ensures;
      along = subst (Each (IsJoinedAt r chosen later new.rule)) (c.as_slice.ensures.value ∙ c.in_ok-list.ensures) h;
    }) c.in_ok-fault.fault c.in_ok-fault.ensures
