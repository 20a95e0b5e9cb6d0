-- The law, by its lemma.
use Rattle.fvn_rewrite_laws.proofs.Sequences.{sequence_laws}
use Rattle.fvn_rewrite_laws.proofs.laws.sequences_are_lawful.Goals as goal

pub returns : goal.returns
returns c = λ d equations. sequence_laws d equations (c.rewriting_is_lawful.ensures d equations)
