-- The pair at this place.
use Rattle.fvn_combine_inferring.proofs.sizes.is_circular.Goals as goal

pub returns-then-begins_circle : goal.returns-then-begins_circle
returns-then-begins_circle c t w h = c.begins_circle.ensures c.if-begins_circle.true w h (h c.loop-pair.pair-index _ c.loop-pair-test.true)
