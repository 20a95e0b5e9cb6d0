-- The law, by two others.
use Rattle.fvn_rewrite_laws.specs.Kinds.{HaveOneKind}
use Rattle.fvn_theory.specs.Equations.{equations_of}
use Rattle.fvn_critical_pairs.proofs.laws.overlaps_of_rules_decide_confluence.Goals as goal

pub returns : goal.returns
returns c = λ d lists used decreasing chosen choice all ends.
    let equations = equations_of lists.equations in
    let kinds : HaveOneKind d equations = λ equation i. (used.admissible equation i).kinded.kinds in
    c.termination_and_joins_give_confluence.ensures d used.good.fits equations kinds ends (c.overlaps_of_rules_decide_steps.ensures d lists used decreasing chosen choice all)
