-- The law, by its lemma.
use Rattle.fvn_rewrite_laws.proofs.Kinded.{kinded_laws}
use Rattle.fvn_rewrite_laws.proofs.laws.kinded_theories_are_lawful.Goals as goal

pub returns : goal.returns
returns c = λ d fits equations kinded. kinded_laws d fits equations kinded (c.rewriting_is_lawful.ensures d equations)
