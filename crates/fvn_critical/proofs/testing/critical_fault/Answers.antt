-- A loss, or the tests of all overlaps.
use Rattle.std.proofs.Common.{Some, subst}
use Rattle.fvn_theory.specs.Equations.{equations_of}
use Rattle.fvn_rewrite_laws.specs.Losses.{AreSortDecreasing, IsFirstLoss}
use Rattle.fvn_rewrite.specs.Usable.{equations_by}
use Rattle.fvn_critical.specs.declared.fault.CriticalFault.TheVariants.{Sorts}
use Rattle.fvn_critical.specs.Faults.{rewriting_of, IsAnswer}
use Rattle.fvn_critical.specs.inner.Testing.{TestedAs, AreJoinedBySome}
use Rattle.fvn_critical.proofs.Answering.{tested_answer, tells_none, tells_this, only_limited}
use Rattle.fvn_critical.proofs.testing.critical_fault.Goals as goal

pub returns-in-Some : goal.returns-in-Some
returns-in-Some g c =
    let r = rewriting_of c.args.sig.now c.args.rules.now c.args.bounds in
    let may = g.A.AxiomSolver.drawn c.args.solver.now in
    let unifiers = g.A.AxiomSolver.most_unifiers c.args.solver.now in
    let first : IsFirstLoss c.args.sig.now (equations_of c.args.rules.now.equations) c.in-Some.n =
    subst (λ l. IsFirstLoss c.args.sig.now (equations_of l) c.in-Some.n) c.equations.ensures (rw c.in-Some.is at c.in_ok-loss.ensures) in record {
      told = first;
      sorts = tells_this r may unifiers c.in-Some.n first;
      limited = only_limited r may unifiers c.divergence_excludes_confluence.ensures (Some (Sorts c.in-Some.n)) first;
    }

pub returns-in_ok-fault-in-None : goal.returns-in_ok-fault-in-None
returns-in_ok-fault-in-None g c =
    let r = rewriting_of c.args.sig.now c.args.rules.now c.args.bounds in
    let may = g.A.AxiomSolver.drawn c.args.solver.now in
    let unifiers = g.A.AxiomSolver.most_unifiers c.args.solver.now in
    let answer = c.in_ok-fault-in-None.fault in
    let decreasing : AreSortDecreasing c.args.sig.now (equations_of c.args.rules.now.equations) =
    subst (λ l. AreSortDecreasing c.args.sig.now (equations_of l)) c.equations.ensures (rw c.in-None.is at c.in_ok-loss.ensures) in
    let tested : TestedAs r may unifiers (AreJoinedBySome r) answer = c.in_ok-fault-in-None.ensures in
    let told : IsAnswer r may unifiers answer =
    tested_answer r may unifiers c.recall_good.ensures c.recall_completed.ensures c.requires.rules
    (c.rules_are_lawful.ensures r.signature c.recall_good.ensures c.recall_completed.ensures (equations_by r) (λ e i. (c.requires.rules.admissible e i).kinded.kinds)) c.overlaps_of_rules_decide_confluence.ensures decreasing answer tested in record {
      told = told;
      sorts = tells_none r may unifiers decreasing answer;
      limited = only_limited r may unifiers c.divergence_excludes_confluence.ensures answer told;
    }
