-- The law is a lemma.
use Rattle.fvn_cohere.proofs.Admissible.{harmless-admissible}
use Rattle.fvn_cohere.proofs.laws.harmless_equations_are_admissible.Goals as goal

pub returns : goal.returns
returns c = harmless-admissible
