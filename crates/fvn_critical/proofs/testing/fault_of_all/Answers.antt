-- The chosen rules subsume all.
use Rattle.std.proofs.Common.{List, length, sym, subst}
use Rattle.std.specs.Prelude.{All}
use Rattle.fvn_rewrite_rules.specs.declared.rule.Rule.{Rule}
use Rattle.fvn_critical_pairs.specs.Overlaps.{SubsumeAll}
use Rattle.fvn_critical.specs.Faults.{rewriting_of}
use Rattle.fvn_critical.specs.inner.Choosing.{SidesFit, AreAmong}
use Rattle.fvn_critical.specs.inner.Testing.{TestedAs, AreJoinedUpTo, AreJoinedBySome}
use Rattle.fvn_critical.proofs.Subsuming.{rules_fit}
use Rattle.fvn_critical.proofs.Covering.{weaker}
use Rattle.fvn_critical.proofs.testing.fault_of_all.Goals as goal

pub chosen_rules-requires : goal.chosen_rules-requires
chosen_rules-requires g c =
    let r = rewriting_of c.args.sig.now c.args.rules.now c.args.bounds in
    subst (All (SidesFit c.args.sig.now)) (sym c.rules.ensures) (rules_fit r c.recall_good.ensures c.recall_completed.ensures c.requires.rules c.rules_are_lawful.ensures)

pub first_fault-requires-clause-chosen : goal.first_fault-requires-clause-chosen
first_fault-requires-clause-chosen g c lives order =
    let rules = c.args.rules.now.rules in
    let given : AreAmong c.in_ok-chosen.chosen.items rules = subst (AreAmong c.in_ok-chosen.chosen.items) c.rules.ensures c.in_ok-chosen.ensures.given in
    rw (c.new-tester.ensures.rewrites, c.new-tester.ensures.chosen, c.as_slice.ensures.value) given

pub returns : goal.returns
returns g c =
    let r = rewriting_of c.args.sig.now c.args.rules.now c.args.bounds in
    let may = g.A.AxiomSolver.drawn c.args.solver.now in
    let unifiers = g.A.AxiomSolver.most_unifiers c.args.solver.now in
    let list = c.as_slice.result.now in
    let enough : SubsumeAll c.args.sig.now c.args.rules.now.rules list =
    subst (SubsumeAll c.args.sig.now c.args.rules.now.rules) (sym c.as_slice.ensures.value)
    (subst (λ (l : List Rule). SubsumeAll c.args.sig.now l c.in_ok-chosen.chosen.items) c.rules.ensures c.in_ok-chosen.ensures) in
    let tested : TestedAs r may unifiers (AreJoinedUpTo r list (length list)) c.in_ok-fault.fault =
    rw (c.new-tester.ensures.rewrites, c.new-tester.ensures.solver, c.new-tester.ensures.chosen) at c.in_ok-fault.ensures in
    weaker r may unifiers (AreJoinedUpTo r list (length list)) (AreJoinedBySome r) (λ h. record { chosen = list; enough = enough; joined = h }) c.in_ok-fault.fault tested
