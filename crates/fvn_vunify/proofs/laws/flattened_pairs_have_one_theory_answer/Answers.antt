-- The law, by its lemma.
use Rattle.fvn_vunify.proofs.Flattened.{flattened_answer}
use Rattle.fvn_vunify.proofs.laws.flattened_pairs_have_one_theory_answer.Goals as goal

pub returns : goal.returns
returns c = λ g fits problem kinds.
    flattened_answer g (c.theory_equality_is_lawful.ensures g.declarations g.equations) fits problem kinds
    (c.flattened_pairs_have_one_answer.ensures g.declarations fits problem kinds).variables
