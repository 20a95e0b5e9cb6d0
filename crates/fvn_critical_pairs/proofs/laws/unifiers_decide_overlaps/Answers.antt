-- The law, by its lemma.
use Rattle.fvn_rewrite_laws.specs.Kinds.{HaveOneKind}
use Rattle.fvn_theory.specs.Equations.{equations_of}
use Rattle.fvn_critical_pairs.proofs.Unifying.{decided}
use Rattle.fvn_critical_pairs.proofs.laws.unifiers_decide_overlaps.Goals as goal

pub returns : goal.returns
returns c = λ d lists used next o is unifiers complete new all.
    let equations = equations_of lists.equations in
    let kinds : HaveOneKind d equations = λ equation i. (used.admissible equation i).kinded.kinds in
    decided d lists used (c.rewriting_is_lawful.ensures d equations) (c.rules_are_lawful.ensures d used.good used.completed equations kinds) next o is c.meetings_come_from_unifiers.ensures unifiers complete new all
