-- Each of the nodes.
use Rattle.fvn_combine_inferring.proofs.meeting.all_met.Goals as goal

pub met-told-requires-clause-left : goal.met-told-requires-clause-left
met-told-requires-clause-left c = c.requires.within c.loop-k.k-index 0 c.loop-k-test.true

pub met-told-requires-clause-equal : goal.met-told-requires-clause-equal
met-told-requires-clause-equal c = c.requires.equal c.loop-k.k-index 0 c.loop-k-test.true
