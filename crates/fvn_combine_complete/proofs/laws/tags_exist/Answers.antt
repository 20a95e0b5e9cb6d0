-- The law, by its lemma.
use Rattle.fvn_combine_complete.proofs.Tagging.{tags_exist}
use Rattle.fvn_combine_complete.proofs.laws.tags_exist.Goals as goal

pub returns : goal.returns
returns c = tags_exist
