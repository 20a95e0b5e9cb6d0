-- The law, by its lemmas.
use Rattle.fvn_rewrite_laws.specs.Kinds.{HaveOneKind}
use Rattle.fvn_theory.specs.Equations.{equations_of}
use Rattle.fvn_critical_pairs.proofs.Deciding.{stand_ins_join}
use Rattle.fvn_critical_pairs.proofs.laws.overlaps_of_rules_decide_steps.Goals as goal

pub returns : goal.returns
returns c = λ d lists used decreasing chosen choice all.
    let equations = equations_of lists.equations in
    let kinds : HaveOneKind d equations = λ equation i. (used.admissible equation i).kinded.kinds in
    c.stand_ins_decide_steps.ensures d used.good used.completed equations used.admissible decreasing
    (stand_ins_join d lists used (c.rewriting_is_lawful.ensures d equations) (c.sequences_are_lawful.ensures d equations) (c.agreement_is_lawful.ensures d equations)
    (c.rules_are_lawful.ensures d used.good used.completed equations kinds) c.renamed_forms_have_the_same_instances.ensures chosen choice all)
