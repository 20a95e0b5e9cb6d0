-- The bound itself, or the lower one of two.
use Rattle.std.proofs.Common.{inl, inr}
use Rattle.fvn_cohere.proofs.outlooks.low_with.Goals as goal

pub returns-clause-stays : goal.returns-clause-stays
returns-clause-stays c = λ s h. c.low_of_either.ensures s (inl h)

pub returns-clause-lowered : goal.returns-clause-lowered
returns-clause-lowered c = λ s h k. c.low_of_either.ensures s (inr k)
