-- The law `what_follows_a_unifier_is_a_unifier`, by its lemma.
use Rattle.fvn_terms.proofs.WellSorted.{IsUnifier-followed_by}
use Rattle.fvn_terms.proofs.laws.what_follows_a_unifier_is_a_unifier.Goals as goal

pub returns : goal.returns
returns c = IsUnifier-followed_by
