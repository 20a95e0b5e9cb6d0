-- The law, by its lemma.
use Rattle.std.proofs.Common.{sym, subst}
use Rattle.fvn_terms.specs.Theory.{Equations}
use Rattle.fvn_rewrite_laws.specs.Admissible.{AreAdmissible}
use Rattle.fvn_rewrite_laws.specs.Kinds.{HaveOneKind}
use Rattle.fvn_theory.specs.Equations.{equations_of}
use Rattle.fvn_lifting.specs.Pairs.{IsReducibleInPart}
use Rattle.fvn_lifting.proofs.PairRules.{sum_steps}
use Rattle.fvn_lifting.proofs.laws.sums_step_in_pairs.Goals as goal

pub returns : goal.returns
returns c = λ d equations lists used at fits f heads rule listed met s by meet.
    let admissible = subst (AreAdmissible d) (sym used.same) used.admissible in
    let kinded : HaveOneKind d (equations_of lists.equations) = λ equation is. (admissible equation is).kinded.kinds in
    subst (λ (e : Equations). IsReducibleInPart d e f at s) used.same
    (sum_steps d used.good lists used.rules (c.rewriting_is_lawful.ensures d (equations_of lists.equations)) (c.kinded_theories_are_lawful.ensures d used.good.fits (equations_of lists.equations) kinded) (c.rules_are_lawful.ensures d used.good used.completed (equations_of lists.equations) kinded)
    at fits f heads rule listed met s by meet)
