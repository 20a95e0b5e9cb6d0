-- The argument at this place.
use Rattle.fvn_combine_inferring.proofs.arguments.note_each.Goals as goal

pub note_pair-requires-clause-pair : goal.note_pair-requires-clause-pair
note_pair-requires-clause-pair c = c.requires.fewer c.loop-k.k-index 0 c.loop-k-test.true
