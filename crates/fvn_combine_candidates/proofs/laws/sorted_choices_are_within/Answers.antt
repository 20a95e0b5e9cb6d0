-- The lemma on bounds.
use Rattle.fvn_combine_candidates.proofs.Bounded.{sorted_within}
use Rattle.fvn_combine_candidates.proofs.laws.sorted_choices_are_within.Goals as goal

pub returns : goal.returns
returns c = sorted_within
