-- The law `free_terms_are_equal`, by its lemma.
use Rattle.fvn_terms.proofs.Free.{BEqual-free}
use Rattle.fvn_terms.proofs.laws.free_terms_are_equal.Goals as goal

pub returns : goal.returns
returns c = BEqual-free
