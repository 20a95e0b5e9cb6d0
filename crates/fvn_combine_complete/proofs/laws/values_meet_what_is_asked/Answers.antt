-- The law, by its lemma and the law of counts.
use Rattle.fvn_combine_complete.proofs.Meeting.{values_meet}
use Rattle.fvn_combine_complete.proofs.laws.values_meet_what_is_asked.Goals as goal

pub returns : goal.returns
returns c = values_meet c.counts_solve.ensures
