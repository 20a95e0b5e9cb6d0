-- The law, by its lemma.
use Rattle.fvn_rewrite_peaks.proofs.OverlapSteps.{overlaps_join}
use Rattle.fvn_rewrite_peaks.proofs.laws.confluent_equations_join_overlaps.Goals as goal

pub returns : goal.returns
returns c = λ d good completed equations kinds confluent.
    overlaps_join d equations (c.rewriting_is_lawful.ensures d equations) (c.agreement_is_lawful.ensures d equations)
    (c.rules_are_lawful.ensures d good completed equations kinds) confluent
