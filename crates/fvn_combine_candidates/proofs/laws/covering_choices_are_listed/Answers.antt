-- The lemma on choices that cover.
use Rattle.fvn_combine_candidates.proofs.Covered.{covering_listed}
use Rattle.fvn_combine_candidates.proofs.laws.covering_choices_are_listed.Goals as goal

pub returns : goal.returns
returns c d problem t made s closed r reading sorted shared are y u choice covering keeps = covering_listed d problem t s r reading sorted shared are y u choice covering keeps
