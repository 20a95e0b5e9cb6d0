-- The law is the lemma.
use Rattle.fvn_sort_bounds.proofs.Summands.{narrow_have_one}
use Rattle.fvn_sort_bounds.proofs.laws.narrow_sorts_have_one_summand.Goals as goal

pub returns : goal.returns
returns c = narrow_have_one
