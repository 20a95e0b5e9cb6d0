-- The law, by its lemmas.
use Rattle.fvn_rewrite_laws.specs.Kinds.{HaveOneKind}
use Rattle.fvn_rewrite_peaks.proofs.Overlaps.{steps_join}
use Rattle.fvn_rewrite_peaks.proofs.laws.stand_ins_decide_steps.Goals as goal

pub returns : goal.returns
returns c = λ d good completed equations admissible decreasing joins.
    let kinds : HaveOneKind d equations = λ equation i. (admissible equation i).kinded.kinds in
    steps_join d equations (c.rewriting_is_lawful.ensures d equations) (c.sequences_are_lawful.ensures d equations)
    (c.kinded_theories_are_lawful.ensures d good.fits equations kinds)
    (c.agreement_is_lawful.ensures d equations) (c.sequences_keep_sorts.ensures d good completed equations admissible decreasing)
    (c.rules_are_coherent.ensures d good completed equations admissible) (c.instances_step_at_parts.ensures d good completed equations admissible) joins
