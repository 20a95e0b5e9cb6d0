-- The pair at this place.
use Rattle.fvn_combine_inferring.proofs.sizes.is_said.Goals as goal

pub returns-then-says : goal.returns-then-says
returns-then-says c t w h = c.says.ensures c.if-says.true w (h c.loop-pair.pair-index _ c.loop-pair-test.true)
