-- The law `theory_equality_is_lawful`, by its lemma.
use Rattle.fvn_terms.proofs.TheoryLaws.{theory_laws}
use Rattle.fvn_terms.proofs.laws.theory_equality_is_lawful.Goals as goal

pub returns : goal.returns
returns c = theory_laws
