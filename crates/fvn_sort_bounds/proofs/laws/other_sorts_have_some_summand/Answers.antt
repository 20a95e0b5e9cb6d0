-- The law is the lemma.
use Rattle.fvn_sort_bounds.proofs.Summands.{others_have_some}
use Rattle.fvn_sort_bounds.proofs.laws.other_sorts_have_some_summand.Goals as goal

pub returns : goal.returns
returns c = others_have_some
