-- The law `rewriting_is_lawful`, by its lemma.
use Rattle.fvn_terms.proofs.Rewriting.{rewriting_laws}
use Rattle.fvn_terms.proofs.laws.rewriting_is_lawful.Goals as goal

pub returns : goal.returns
returns c = rewriting_laws
