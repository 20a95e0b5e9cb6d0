-- The lemma on systems.
use Rattle.fvn_combine_candidates.proofs.Systems.{make_systems}
use Rattle.fvn_combine_candidates.proofs.laws.bases_make_systems.Goals as goal

pub returns : goal.returns
returns c = make_systems
