-- The law, by its lemma.
use Rattle.fvn_rewrite_laws.proofs.Lists.{list_laws}
use Rattle.fvn_rewrite_laws.proofs.laws.lists_are_lawful.Goals as goal

pub returns : goal.returns
returns c = λ d equations. list_laws d equations (c.rewriting_is_lawful.ensures d equations)
