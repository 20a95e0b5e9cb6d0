-- The law, by its lemma.
use Rattle.fvn_rewrite_laws.proofs.Agreement.{agreement_laws}
use Rattle.fvn_rewrite_laws.proofs.laws.agreement_is_lawful.Goals as goal

pub returns : goal.returns
returns c = λ d equations. agreement_laws d equations (c.rewriting_is_lawful.ensures d equations)
