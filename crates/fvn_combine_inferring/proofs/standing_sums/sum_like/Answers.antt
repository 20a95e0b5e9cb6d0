-- The node at this place.
use Rattle.std.proofs.Common.{◌<◌, length, subst}
use Rattle.fvn_combine_inferring.proofs.standing_sums.sum_like.Goals as goal

pub is_like-requires-clause-within : goal.is_like-requires-clause-within
is_like-requires-clause-within c = subst (λ ns. c.loop-j.j < length ns) c.nodes-j-end.ensures c.loop-j-test.true
