-- The law `equality_is_kept_by_substitution`, by its lemma.
use Rattle.fvn_terms.proofs.Equal.{BEqual-apply}
use Rattle.fvn_terms.proofs.laws.equality_is_kept_by_substitution.Goals as goal

pub returns : goal.returns
returns c d s keeps t u = BEqual-apply d s keeps
