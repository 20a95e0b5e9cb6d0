-- The law, by its lemma.
use Rattle.fvn_rewrite_peaks.proofs.Newman.{confluent}
use Rattle.fvn_rewrite_peaks.proofs.laws.termination_and_joins_give_confluence.Goals as goal

pub returns : goal.returns
returns c = λ d fits equations kinds ends joins.
    confluent d equations (c.rewriting_is_lawful.ensures d equations) (c.sequences_are_lawful.ensures d equations)
    (c.kinded_theories_are_lawful.ensures d fits equations kinds) joins ends
